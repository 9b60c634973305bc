-- The proof of `centre_of`: the product is bounded as a whole; the width's sign is moved to the span.
use mathlib.Core.Path.{◌≡◌, sym, subst, ◌∙◌}
use mathlib.Core.Bool.{true, false}
use lib.IntN.{ℤ, pos, ◌*ℤ◌}
use lib.Signed.{lt_z}
use mir.Syntax.{w64}
use Rattle.exact.specs.Whole.{◌<ᶻ◌, ◌≤ᶻ◌, lt_z-true, lt_z-false, lt-<?, le-<?}
use Rattle.exact.specs.Fit.{Bd, Num, m64, val, num, put, fit, within, sized, lt-is, neg, ◌⊗◌}
use Rattle.exact.specs.Nearest.{neg-pos, pos_of}
use Rattle.plane.proofs.PositionLaws.{offset-size}
use Rattle.plane.specs.Bounds.{most_product, most_width}
use Rattle.plane.specs.Circle.{split_of, centre_of}
use Rattle.placing.proofs.circle.centre_of.Goals as goal
use Rattle.placing.proofs.circle.centre_of.Lts
use Rattle.placing.proofs.circle.centre_of.Tie
use Rattle.placing.proofs.circle.centre_of.Reads

abbrev Start : Type 0
Start = Lts.Start Tie.the-claims Reads.Pre Reads.Post

product : (s : Start) → Num (m64 s.args.p.offset *ℤ m64 s.args.a.span) (s.args.p.offset *ℤ s.args.a.span) most_product
product s =
    let d = s.requires.0 in
    let n = s.requires.1.product in
    within (val w64 (offset-size s.args.p.offset s.args.a.span most_product d.moves n) tt ⊗ val w64 d.span tt) n

below : {w : ℤ} → Bd w most_width → lt_z (m64 w) (pos 0) ≡ true → w <ᶻ pos 0
below {w} h e = lt_z-true w (pos 0) (lt-is (val w64 h tt) (num (pos 0)) e)

above : {w : ℤ} → Bd w most_width → lt_z (m64 w) (pos 0) ≡ false → pos 0 ≤ᶻ w
above {w} h e = lt_z-false w (pos 0) (lt-is (val w64 h tt) (num (pos 0)) e)

pub overflow_mul-n : goal.overflow_mul-n
overflow_mul-n c = fit w64 (product search) tt

pub overflow_sub-n : goal.overflow_sub-n
overflow_sub-n c = let s = c.before.before.before.before.before.before.before.before in fit w64 (neg (put w64 (product s) tt)) tt

pub overflow_sub-a : goal.overflow_sub-a
overflow_sub-a c = fit w64 (neg (val w64 c.requires.0.span tt)) tt

pub overflow_sub-a-then-a-lt0 : goal.overflow_sub-a-then-a-lt0
overflow_sub-a-then-a-lt0 c = fit w64 (neg (val w64 c.requires.0.width tt)) tt

pub split-requires : goal.split-requires
split-requires c =
    let s = c.before.before.before.before.before.before.before.before.before.before.before.before.before in
    let w = put w64 (neg (val w64 s.requires.0.width tt)) tt in
    (sized (val w64 s.requires.1.base tt) tt, sized (put w64 (neg (put w64 (product s) tt)) tt) tt, sized w tt, subst (λ (x : ℤ). pos 0 <ᶻ x) (sym w.is) (neg-pos (below s.requires.0.width c.if-a-lt0.true)))

pub returns-then-a-lt0 : goal.returns-then-a-lt0
unfolding centre_of
returns-then-a-lt0 c =
    let s = c.before.before.before.before.before.before.before.before.before.before.before.before.before in
    let eb = (val w64 s.requires.1.base tt).is in
    let en = (put w64 (neg (put w64 (product s) tt)) tt).is in
    let ed = (put w64 (neg (val w64 s.requires.0.span tt)) tt).is in
    let ew = (put w64 (neg (val w64 s.requires.0.width tt)) tt).is in
    rw (lt-<? (below s.requires.0.width c.if-a-lt0.true)) (c.split.ensures ∙ (λ i. split_of (eb i) (en i) (ed i) (ew i)))

pub split-requires-2 : goal.split-requires-2
split-requires-2 c =
    let s = c.before.before.before.before.before.before.before.before.before.before.before in
    let w = val w64 s.requires.0.width tt in
    (sized (val w64 s.requires.1.base tt) tt, sized (put w64 (product s) tt) tt, sized w tt, subst (λ (x : ℤ). pos 0 <ᶻ x) (sym w.is) (pos_of (above s.requires.0.width c.if-a-lt0.false) s.requires.0.some))

pub returns : goal.returns
unfolding centre_of
returns c =
    let s = c.before.before.before.before.before.before.before.before.before.before.before in
    let eb = (val w64 s.requires.1.base tt).is in
    let en = (put w64 (product s) tt).is in
    let ed = (val w64 s.requires.0.span tt).is in
    let ew = (val w64 s.requires.0.width tt).is in
    rw (le-<? (above s.requires.0.width c.if-a-lt0.false)) (c.split-2.ensures ∙ (λ i. split_of (eb i) (en i) (ed i) (ew i)))
