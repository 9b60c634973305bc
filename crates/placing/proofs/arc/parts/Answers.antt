-- The proof of `parts`: the definition, with the size of the sweep as it was found.
use mathlib.Core.Path.{◌≡◌, ap, ◌∙◌}
use Prim.Native.Nat.{ℕ, ◌+◌, ◌-◌, ◌/◌, ◌≤◌}
use native.Mathlib.Omega.{arith}
use lib.IntN.{nat_abs}
use mir.Syntax.{w64}
use Rattle.exact.specs.Fit.{val, sized}
use Rattle.plane.specs.Arc.{parts_of}
use Rattle.plane.specs.Bounds.{most_sweep}
use Rattle.placing.proofs.arc.parts.Goals as goal
use Rattle.placing.proofs.arc.parts.Lts
use Rattle.placing.proofs.arc.parts.Tie
use Rattle.placing.proofs.arc.parts.Reads

abbrev After-size : Type 0
After-size = Lts.After-size Tie.the-claims Reads.Pre Reads.Post

pub size-requires : goal.size-requires
size-requires c = sized (val w64 c.requires.0 tt) tt

found : (a : After-size) → let s = a.before in a.size.result ≡ nat_abs a.args.sweep
found a = a.size.ensures ∙ ap nat_abs (val w64 a.requires.0 tt).is

short : (a : After-size) → a.size.result ≤ most_sweep
short a = omega (arith, found a, a.requires.0.bd)

pub overflow_add-result : goal.overflow_add-result
overflow_add-result c = let a = c in record { fits = omega (arith, short a, c.requires.2) }

pub returns : goal.returns
unfolding parts_of
returns c =
    let a = c in
    ap (λ (n : ℕ). (n + c.args.angle - 1) / c.args.angle) (found a)
