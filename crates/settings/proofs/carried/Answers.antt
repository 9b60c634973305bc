-- The proof of `carried`: each sum is of three short numbers.
use mir.Syntax.{w64}
use lib.IntN.{ℤ, ◌+ℤ◌, ◌-ℤ◌}
use Prim.Native.Nat.{◌*◌}
use Rattle.exact.specs.Fit.{Bd, Num, m64, val, put, fit, ◌⊕◌, ◌⊖◌}
use Rattle.plane.specs.Bounds.{most_point}
use Rattle.hpgl.specs.Rules.{carried}
use Rattle.settings.proofs.carried.Goals as goal

-- on either axis: from P1 to P2, and that from a new P1
way : {a b : ℤ} → Bd a most_point → Bd b most_point → Num (m64 b -ℤ m64 a) (b -ℤ a) (2 * most_point)
way h k = val w64 k tt ⊖ val w64 h tt

sum : {p a b : ℤ} → Bd p most_point → Bd a most_point → Bd b most_point → Num (m64 p +ℤ m64 (m64 b -ℤ m64 a)) (p +ℤ (b -ℤ a)) (3 * most_point)
sum g h k = val w64 g tt ⊕ put w64 (way h k) tt

pub overflow_sub-result : goal.overflow_sub-result
overflow_sub-result c = fit w64 (way c.requires.0.p1.x c.requires.0.p2.x) tt

pub overflow_add-result : goal.overflow_add-result
overflow_add-result c = fit w64 (sum c.requires.1.x c.requires.0.p1.x c.requires.0.p2.x) tt

pub overflow_sub-result-2 : goal.overflow_sub-result-2
overflow_sub-result-2 c = fit w64 (way c.requires.0.p1.y c.requires.0.p2.y) tt

pub overflow_add-result-2 : goal.overflow_add-result-2
overflow_add-result-2 c = fit w64 (sum c.requires.1.y c.requires.0.p1.y c.requires.0.p2.y) tt

pub returns : goal.returns
unfolding carried
returns c =
    let x = (put w64 (sum c.requires.1.x c.requires.0.p1.x c.requires.0.p2.x) tt).is in
    let y = (put w64 (sum c.requires.1.y c.requires.0.p1.y c.requires.0.p2.y) tt).is in
    λ i. record { x = x i; y = y i }
