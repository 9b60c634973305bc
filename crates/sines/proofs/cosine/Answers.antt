-- The proof of `cosine`: the rest is below four quarters, and the sine of a quarter more is the cosine.
use mathlib.Core.Path.{◌≡◌, refl, ap, ◌∙◌}
use Prim.Native.Nat.{ℕ, ◌+◌, ◌/◌, ◌%◌}
use native.Mathlib.Numerals.{add-one}
use mir.Syntax.{w64}
use Rattle.exact.specs.Fit.{arg, got}
use Rattle.sines.specs.Angle.{rest_of, sine_in, cosine_in, cosine_of}
use Rattle.sines.proofs.Quarters.{rest-quarters, tenths-few}
use Rattle.sines.proofs.cosine.Goals as goal
use Rattle.sines.proofs.cosine.Lts
use Rattle.sines.proofs.cosine.Tie
use Rattle.sines.proofs.cosine.Reads

abbrev After-rest-r : Type 0
After-rest-r = Lts.After-rest Tie.the-claims Reads.Pre Reads.Post

rest-is : (c : After-rest-r) → c.rest-r.result ≡ rest_of c.args.tenths
rest-is c = c.rest-r.ensures ∙ ap rest_of (arg w64 c.ranges.tenths).is

pub sine_in-requires : goal.sine_in-requires
sine_in-requires c =
    rw (rest-is c.before, add-one) (c.requires, rest-quarters c.args.tenths, tenths-few _)

next : (q i : ℕ) → sine_in (q + 1) i ≡ cosine_in q i
unfolding sine_in
next q i = rw (add-one q) refl

pub returns : goal.returns
unfolding cosine_of
returns c =
    got w64 c.sine_in.type_inv ∙ c.sine_in.ensures ∙ next (c.rest-r.result / 900) (c.rest-r.result % 900)
    ∙ ap (λ (r : ℕ). cosine_in (r / 900) (r % 900)) (rest-is c.before.before)
