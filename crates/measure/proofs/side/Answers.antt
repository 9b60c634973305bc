-- The definition, case by case.
use mathlib.Core.Path.{◌≡◌, ◌∙◌}
use native.Mathlib.Omega.{arith}
use lib.IntN.{nat_abs, ◌-ℤ◌}
use mir.Syntax.{w64}
use Rattle.exact.specs.Fit.{arg}
use Rattle.measure.specs.Root.{across}
use Rattle.measure.proofs.side.Goals as goal
use Rattle.measure.proofs.side.Lts
use Rattle.measure.proofs.side.Tie
use Rattle.measure.proofs.side.Reads

abbrev After-apart : Type 0
After-apart = Lts.After-apart Tie.the-claims Reads.Pre Reads.Post

-- how far the two are apart
far : (c : After-apart) → c.apart.result ≡ nat_abs (c.args.a -ℤ c.args.b)
far c = c.apart.ensures ∙ (λ i. nat_abs ((arg w64 c.ranges.a).is i -ℤ (arg w64 c.ranges.b).is i))

pub returns : goal.returns
unfolding across
returns c = omega (arith, c.min.ensures, far c.before)
