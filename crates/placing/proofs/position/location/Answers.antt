-- The proof of `location`: the product is bounded as a whole, and not by its factors.
use borrow.Author.Rules.{rules}
use mathlib.Core.Path.{◌≡◌, sym, ap₂, ◌∙◌}
use Prim.Native.Nat.{◌^◌, ◌<◌}
use lib.IntN.{ℤ, ◌+ℤ◌, ◌*ℤ◌}
use lib.Signed.{mag}
use mir.Syntax.{w64}
use mir.Val.{SFits, hbits}
use Rattle.exact.specs.Fit.{Num, m64, arg, val, put, fit, within, ret, sized, ◌⊕◌, ◌⊗◌}
use Rattle.exact.specs.Divide.{nearest_div}
use Rattle.exact.proofs.NearestLaws.{nearest-size}
use Rattle.plane.specs.Position.{location_of}
use Rattle.plane.specs.Bounds.{most_product}
use Rattle.placing.proofs.position.location.Goals as goal
use Rattle.placing.proofs.position.location.Lts
use Rattle.placing.proofs.position.location.Tie
use Rattle.placing.proofs.position.location.Reads

abbrev Start : Type 0
Start = Lts.Start Tie.the-claims Reads.Pre Reads.Post

product : (s : Start) → Num (m64 s.args.p.offset *ℤ m64 s.args.a.span) (s.args.p.offset *ℤ s.args.a.span) most_product
product s =
    let o : SFits w64 s.args.p.offset = search rules in
    let d : SFits w64 s.args.a.span = search rules in
    within (arg w64 o ⊗ arg w64 d) s.requires.product

pub overflow_mul-p : goal.overflow_mul-p
overflow_mul-p c = let s = c.before.before.before.before.before in fit w64 (product s) tt

pub over_width-requires : goal.over_width-requires
over_width-requires c =
    let s = c.before.before.before.before.before.before in
    let w = val w64 s.requires.width tt in
    (sized (put w64 (product s) tt) tt, (sized w tt, (λ e. s.requires.some (sym w.is ∙ e))))

sum : (s : Start) {q : ℤ} → mag q < 2 ^ hbits w64 → q ≡ nearest_div (m64 (m64 s.args.p.offset *ℤ m64 s.args.a.span)) (m64 s.args.a.width) →
    Num (m64 s.args.p.base +ℤ m64 q) (s.args.p.base +ℤ nearest_div (s.args.p.offset *ℤ s.args.a.span) s.args.a.width) 4000000656360001
sum s ok e =
    val w64 s.requires.base tt ⊕ ret w64 ok (e ∙ ap₂ nearest_div (put w64 (product s) tt).is (val w64 s.requires.width tt).is) (nearest-size s.requires.product s.requires.width)

pub overflow_add-result : goal.overflow_add-result
overflow_add-result c = let s = c.before.before.before.before.before.before.before.before in fit w64 (sum s c.over_width.type_inv c.over_width.ensures) tt

pub returns : goal.returns
unfolding location_of
returns c = let s = c.before.before.before.before.before.before.before.before in (put w64 (sum s c.over_width.type_inv c.over_width.ensures) tt).is
