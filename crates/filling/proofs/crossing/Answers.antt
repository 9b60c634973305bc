-- The proof of `crossing`: a level side's start, else one division, whose numbers fit.
use mathlib.Core.Path.{◌≡◌, sym, ap, ap₂, ◌∙◌}
use Prim.Native.Nat.{◌+◌, ◌*◌, ◌^◌, ◌<◌}
use lib.IntN.{ℤ, pos, ◌+ℤ◌, ◌-ℤ◌, ◌*ℤ◌}
use lib.Signed.{mag}
use mir.Syntax.{w64}
use mir.Val.{hbits, to_z, of_z}
use Rattle.exact.specs.Fit.{Num, m64, val, put, fit, ret, sized, ◌⊕◌, ◌⊖◌, ◌⊗◌}
use Rattle.exact.specs.Divide.{nearest_div}
use Rattle.exact.proofs.NearestLaws.{nearest-size}
use Rattle.clip.specs.Reach.{reach, most_extent, most_steps}
use Rattle.filling.proofs.CrossingLaws.{crossing-nearest, crossing-level}
use Rattle.filling.proofs.crossing.Goals as goal
use Rattle.filling.proofs.crossing.Lts
use Rattle.filling.proofs.crossing.Tie
use Rattle.filling.proofs.crossing.Reads

abbrev Start : Type 0
Start = Lts.Start Tie.the-claims Reads.Pre Reads.Post

-- the side's way up, and across, and the row's way up
rise : (s : Start) → let e = s.args.e in Num (m64 e.to.y -ℤ m64 e.from.y) (e.to.y -ℤ e.from.y) most_extent
rise s = val w64 s.requires.0.to.y tt ⊖ val w64 s.requires.0.from.y tt

across : (s : Start) → let e = s.args.e in Num (m64 e.to.x -ℤ m64 e.from.x) (e.to.x -ℤ e.from.x) most_extent
across s = val w64 s.requires.0.to.x tt ⊖ val w64 s.requires.0.from.x tt

above : (s : Start) → let e = s.args.e in Num (m64 s.args.y -ℤ m64 e.from.y) (s.args.y -ℤ e.from.y) most_extent
above s = val w64 s.requires.1 tt ⊖ val w64 s.requires.0.from.y tt

product : (s : Start) → let e = s.args.e in
    Num (m64 (m64 s.args.y -ℤ m64 e.from.y) *ℤ m64 (m64 e.to.x -ℤ m64 e.from.x)) ((s.args.y -ℤ e.from.y) *ℤ (e.to.x -ℤ e.from.x)) most_steps
product s = put w64 (above s) tt ⊗ put w64 (across s) tt

pub overflow_sub-rise : goal.overflow_sub-rise
overflow_sub-rise c = let s = c.before.before.before in fit w64 (rise s) tt

pub returns-then-rise-eq0 : goal.returns-then-rise-eq0
returns-then-rise-eq0 c =
    let s = c.before.before.before.before in
    let level : s.args.e.to.y -ℤ s.args.e.from.y ≡ pos 0 = sym (put w64 (rise s) tt).is ∙ ap (to_z w64) c.if-rise-eq0.true in
    (val w64 s.requires.0.from.x tt).is ∙ sym (crossing-level s.args.y s.args.e level)

pub overflow_sub-y : goal.overflow_sub-y
overflow_sub-y c = let s = c.before.before.before.before.before.before in fit w64 (above s) tt

pub overflow_sub-e : goal.overflow_sub-e
overflow_sub-e c = let s = c.before.before.before.before.before.before.before.before in fit w64 (across s) tt

pub overflow_mul-y : goal.overflow_mul-y
overflow_mul-y c = let s = c.before.before.before.before.before.before.before.before in fit w64 (product s) tt

pub nearest_div-requires : goal.nearest_div-requires
nearest_div-requires c =
    let s = c.before.before.before.before.before.before.before.before in
    (sized (put w64 (product s) tt) tt, (sized (put w64 (rise s) tt) tt, (λ e. c.if-rise-eq0.false (ap (of_z w64) ((rise s).is ∙ sym (put w64 (rise s) tt).is ∙ e)))))

sum : (s : Start) {q : ℤ} → let e = s.args.e in mag q < 2 ^ hbits w64 →
    q ≡ nearest_div (m64 (m64 (m64 s.args.y -ℤ m64 e.from.y) *ℤ m64 (m64 e.to.x -ℤ m64 e.from.x))) (m64 (m64 e.to.y -ℤ m64 e.from.y)) →
    Num (m64 e.from.x +ℤ m64 q) (e.from.x +ℤ nearest_div ((s.args.y -ℤ e.from.y) *ℤ (e.to.x -ℤ e.from.x)) (e.to.y -ℤ e.from.y))
    (reach + (2 * most_steps + most_extent + 1))
sum s ok e =
    val w64 s.requires.0.from.x tt
    ⊕ ret w64 ok (e ∙ ap₂ nearest_div (put w64 (product s) tt).is (put w64 (rise s) tt).is) (nearest-size (product s).size (rise s).size)

pub overflow_add-result : goal.overflow_add-result
overflow_add-result c = let s = c.before.before.before.before.before.before.before.before.before.before in fit w64 (sum s c.nearest_div.type_inv c.nearest_div.ensures) tt

pub returns : goal.returns
returns c =
    let s = c.before.before.before.before.before.before.before.before.before.before in
    (put w64 (sum s c.nearest_div.type_inv c.nearest_div.ensures) tt).is
    ∙ sym (crossing-nearest s.args.y s.args.e (λ e. c.if-rise-eq0.false (ap (of_z w64) ((rise s).is ∙ e))))
