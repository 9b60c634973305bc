-- A side has at most 65,535 units.
use mathlib.Core.Path.{◌≡◌, ap, ◌∙◌}
use Prim.Native.Nat.{ℕ, ◌*◌}
use native.Mathlib.Omega.{arith}
use mir.Syntax.{w64}
use Rattle.exact.specs.Fit.{arg}
use Rattle.measure.specs.Root.{across, centimetres_of, ice_of}
use Rattle.measure.specs.RootLaws.{side-small}
use Rattle.measure.proofs.ice.Goals as goal
use Rattle.measure.proofs.ice.Lts
use Rattle.measure.proofs.ice.Tie
use Rattle.measure.proofs.ice.Reads

abbrev After-side-units : Type 0
After-side-units = Lts.After-side Tie.the-claims Reads.Pre Reads.Post

units : (c : After-side-units) → c.side-units.result ≡ across c.args.a c.args.b
units c = c.side-units.ensures ∙ (λ i. across ((arg w64 c.ranges.a).is i) ((arg w64 c.ranges.b).is i))

pub overflow_mul-units : goal.overflow_mul-units
overflow_mul-units c = let p = c in record { fits = omega (arith, units p, side-small p.args.a p.args.b) }

pub returns : goal.returns
unfolding ice_of
returns c =
    let p = c.before in
    c.centimetres.ensures ∙ ap (λ (n : ℕ). centimetres_of (n * 10) p.args.scale) (units p)
