-- Sides have at most 65,535 units.
use mathlib.Core.Path.{◌≡◌, ◌∙◌}
use Prim.Native.Nat.{◌*◌}
use native.Mathlib.Omega.{arith}
use lib.Dec.{ltb}
use mir.Syntax.{w64}
use Rattle.exact.specs.Fit.{arg}
use Rattle.measure.specs.Root.{across, narrow_of}
use Rattle.measure.specs.RootLaws.{side-small}
use Rattle.measure.proofs.narrow.Goals as goal
use Rattle.measure.proofs.narrow.Lts
use Rattle.measure.proofs.narrow.Tie
use Rattle.measure.proofs.narrow.Reads

abbrev After-side-part : Type 0
After-side-part = Lts.After-side Tie.the-claims Reads.Pre Reads.Post

abbrev After-side-whole : Type 0
After-side-whole = Lts.After-side2 Tie.the-claims Reads.Pre Reads.Post

part : (c : After-side-part) → c.side-part.result ≡ across c.args.a c.args.b
part c = c.side-part.ensures ∙ (λ i. across ((arg w64 c.ranges.a).is i) ((arg w64 c.ranges.b).is i))

whole : (c : After-side-whole) → let s = c.before.before in c.side-whole.result ≡ across s.args.c s.args.d
whole c = let s = c.before.before in c.side-whole.ensures ∙ (λ i. across ((arg w64 s.ranges.c).is i) ((arg w64 s.ranges.d).is i))

pub overflow_mul-result : goal.overflow_mul-result
overflow_mul-result c = let p = c.before in record { fits = omega (arith, part p, side-small p.args.a p.args.b) }

pub overflow_mul-result-2 : goal.overflow_mul-result-2
overflow_mul-result-2 c =
    let q = c in
    record { fits = omega (arith, whole q, side-small q.args.c q.args.d) }

pub returns : goal.returns
unfolding narrow_of
returns c =
    let p = c.before in
    let q = c in
    (λ i. ltb (part p i * 10) (whole q i * 9))
