-- The proof of `way_from`: bases differ by at most 2,000,000, times a width 1.3e15; offsets are at most 2e15.
use mathlib.Core.Path.{◌≡◌, sym, ap₂, ◌∙◌}
use Prim.Native.Nat.{◌^◌, ◌<◌}
use lib.IntN.{ℤ, ◌+ℤ◌, ◌-ℤ◌, ◌*ℤ◌}
use lib.Signed.{mag}
use mir.Syntax.{w64}
use mir.Val.{hbits}
use Rattle.exact.specs.Fit.{Num, m64, val, put, fit, sized, ret, ◌⊕◌, ◌⊖◌, ◌⊗◌}
use Rattle.exact.specs.Divide.{nearest_div}
use Rattle.exact.proofs.NearestLaws.{nearest-size}
use Rattle.plane.specs.Arc.{way_of}
use Rattle.plane.specs.Bounds.{most_product}
use Rattle.plane.proofs.PositionLaws.{offset-size}
use Rattle.placing.proofs.arc.way_from.Goals as goal
use Rattle.placing.proofs.arc.way_from.Lts
use Rattle.placing.proofs.arc.way_from.Tie
use Rattle.placing.proofs.arc.way_from.Reads

abbrev Start : Type 0
Start = Lts.Start Tie.the-claims Reads.Pre Reads.Post

offsets : (s : Start) → Num (m64 s.args.p.offset -ℤ m64 s.args.q.offset) (s.args.p.offset -ℤ s.args.q.offset) 4000000000000000
offsets s =
    let d = s.requires.0.moves in
    val w64 (offset-size s.args.p.offset s.args.a.span most_product d s.requires.1.product) tt
    ⊖ val w64 (offset-size s.args.q.offset s.args.a.span most_product d s.requires.2.product) tt

bases : (s : Start) → Num (m64 s.args.p.base -ℤ m64 s.args.q.base) (s.args.p.base -ℤ s.args.q.base) 2000000
bases s = val w64 s.requires.1.base tt ⊖ val w64 s.requires.2.base tt

product : (s : Start) → Num (m64 (m64 s.args.p.base -ℤ m64 s.args.q.base) *ℤ m64 s.args.a.width) ((s.args.p.base -ℤ s.args.q.base) *ℤ s.args.a.width) 1310720000000000
product s = put w64 (bases s) tt ⊗ val w64 s.requires.0.width tt

pub overflow_sub-result : goal.overflow_sub-result
overflow_sub-result c = let s = c.before.before.before.before.before in fit w64 (offsets s) tt

pub overflow_sub-p : goal.overflow_sub-p
overflow_sub-p c = let s = c.before.before.before.before.before.before.before.before in fit w64 (bases s) tt

pub overflow_mul-p : goal.overflow_mul-p
overflow_mul-p c = let s = c.before.before.before.before.before.before.before.before.before.before.before in fit w64 (product s) tt

pub nearest_div-requires : goal.nearest_div-requires
nearest_div-requires c =
    let s = c.before.before.before.before.before.before.before.before.before.before.before.before in
    let d = val w64 s.requires.0.span tt in
    (sized (put w64 (product s) tt) tt, (sized d tt, (λ e. s.requires.0.moves (sym d.is ∙ e))))

sum : (s : Start) {q : ℤ} → mag q < 2 ^ hbits w64 →
    q ≡ nearest_div (m64 (m64 (m64 s.args.p.base -ℤ m64 s.args.q.base) *ℤ m64 s.args.a.width)) (m64 s.args.a.span) →
    Num (m64 (m64 s.args.p.offset -ℤ m64 s.args.q.offset) +ℤ m64 q) (way_of s.args.a s.args.p s.args.q) 6621440000065537
unfolding way_of
sum s ok e =
    put w64 (offsets s) tt
    ⊕ ret w64 ok (e ∙ ap₂ nearest_div (put w64 (product s) tt).is (val w64 s.requires.0.span tt).is) (nearest-size (product s).size s.requires.0.span)

pub overflow_add-result : goal.overflow_add-result
overflow_add-result c = let s = c.before.before.before.before.before.before.before.before.before.before.before.before in fit w64 (sum s c.nearest_div.type_inv c.nearest_div.ensures) tt

pub returns : goal.returns
returns c = let s = c.before.before.before.before.before.before.before.before.before.before.before.before in (put w64 (sum s c.nearest_div.type_inv c.nearest_div.ensures) tt).is
