-- The proof of `sine`: the rest is below four quarters.
use mathlib.Core.Path.{◌≡◌, ap, ◌∙◌}
use Prim.Native.Nat.{ℕ, ◌/◌, ◌%◌}
use native.Mathlib.Nat.{le_of_lt}
use mir.Syntax.{w64}
use Rattle.exact.specs.Fit.{arg, got}
use Rattle.sines.specs.Angle.{rest_of, sine_in, sine_of}
use Rattle.sines.proofs.Quarters.{rest-quarters, tenths-few}
use Rattle.sines.proofs.sine.Goals as goal
use Rattle.sines.proofs.sine.Lts
use Rattle.sines.proofs.sine.Tie
use Rattle.sines.proofs.sine.Reads

abbrev After-rest-r : Type 0
After-rest-r = Lts.After-rest Tie.the-claims Reads.Pre Reads.Post

rest-is : (c : After-rest-r) → c.rest-r.result ≡ rest_of c.args.tenths
rest-is c = c.rest-r.ensures ∙ ap rest_of (arg w64 c.ranges.tenths).is

pub sine_in-requires : goal.sine_in-requires
sine_in-requires c =
    rw (rest-is c.before) (c.requires, le_of_lt (rest-quarters c.args.tenths), tenths-few _)

pub returns : goal.returns
unfolding sine_of
returns c = got w64 c.sine_in.type_inv ∙ c.sine_in.ensures ∙ ap (λ (r : ℕ). sine_in (r / 900) (r % 900)) (rest-is c.before.before)
