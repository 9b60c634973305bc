-- The proof of `vertex`: the numerator is at most 4.3e18, and nothing is doubled.
use mathlib.Core.Path.{◌≡◌, sym, ap₂, ◌∙◌}
use Prim.Native.Nat.{◌^◌, ◌<◌}
use lib.IntN.{ℤ, pos, ◌+ℤ◌, ◌*ℤ◌}
use lib.Signed.{mag}
use mir.Syntax.{w64}
use mir.Val.{hbits}
use Rattle.exact.specs.Fit.{Num, m64, val, num, put, fit, sized, ret, ◌⊕◌, ◌⊗◌}
use Rattle.exact.specs.Divide.{nearest_div}
use Rattle.exact.specs.Steps.{not-zero}
use Rattle.exact.proofs.NearestLaws.{nearest-size}
use Rattle.plane.specs.Circle.{from_centre}
use Rattle.plane.proofs.CircleLaws.{wide-some}
use Rattle.placing.proofs.circle.vertex.Goals as goal
use Rattle.placing.proofs.circle.vertex.Lts
use Rattle.placing.proofs.circle.vertex.Tie
use Rattle.placing.proofs.circle.vertex.Reads

abbrev Start : Type 0
Start = Lts.Start Tie.the-claims Reads.Pre Reads.Post

numerator : (s : Start) → let c = s.args.c in
    Num (m64 (m64 (m64 c.part *ℤ pos 100000) +ℤ m64 (m64 s.args.t *ℤ m64 c.span))) (c.part *ℤ pos 100000 +ℤ s.args.t *ℤ c.span) 4295032832000000000
numerator s = let p = s.requires.0 in put w64 (put w64 (val w64 p.part tt ⊗ num (pos 100000)) tt ⊕ put w64 (val w64 s.requires.1 tt ⊗ val w64 p.span tt) tt) tt

denominator : (s : Start) → Num (m64 (m64 s.args.c.width *ℤ pos 100000)) (s.args.c.width *ℤ pos 100000) 65536000000000
denominator s = put w64 (val w64 s.requires.0.width tt ⊗ num (pos 100000)) tt

pub overflow_mul-c : goal.overflow_mul-c
overflow_mul-c c = fit w64 (val w64 c.requires.0.part tt ⊗ num (pos 100000)) tt

pub overflow_mul-t : goal.overflow_mul-t
overflow_mul-t c = fit w64 (val w64 c.requires.1 tt ⊗ val w64 c.requires.0.span tt) tt

pub overflow_add-c : goal.overflow_add-c
overflow_add-c c =
    let p = c.requires.0 in
    fit w64 (put w64 (val w64 p.part tt ⊗ num (pos 100000)) tt ⊕ put w64 (val w64 c.requires.1 tt ⊗ val w64 p.span tt) tt) tt

pub overflow_mul-c-2 : goal.overflow_mul-c-2
overflow_mul-c-2 c = fit w64 (val w64 c.requires.0.width tt ⊗ num (pos 100000)) tt

pub nearest_div-requires : goal.nearest_div-requires
nearest_div-requires c =
    let s = c.before.before.before.before.before.before.before in
    (sized (numerator s) tt, (sized (denominator s) tt, (λ e. wide-some (not-zero s.requires.0.some) (sym (denominator s).is ∙ e))))

sum : (s : Start) {q : ℤ} → let c = s.args.c in mag q < 2 ^ hbits w64 →
    q ≡ nearest_div (m64 (m64 (m64 c.part *ℤ pos 100000) +ℤ m64 (m64 s.args.t *ℤ m64 c.span))) (m64 (m64 c.width *ℤ pos 100000)) →
    Num (m64 c.base +ℤ m64 q) (c.base +ℤ nearest_div (c.part *ℤ pos 100000 +ℤ s.args.t *ℤ c.span) (c.width *ℤ pos 100000)) 8592131200001000002
sum s ok e =
    val w64 s.requires.0.base tt ⊕ ret w64 ok (e ∙ ap₂ nearest_div (numerator s).is (denominator s).is) (nearest-size (numerator s).size (denominator s).size)

pub overflow_add-result : goal.overflow_add-result
overflow_add-result c = let s = c.before.before.before.before.before.before.before.before.before in fit w64 (sum s c.nearest_div.type_inv c.nearest_div.ensures) tt

pub returns : goal.returns
unfolding from_centre
returns c = let s = c.before.before.before.before.before.before.before.before.before in (put w64 (sum s c.nearest_div.type_inv c.nearest_div.ensures) tt).is
