-- The proof of `arc_by`: an arc that was judged is a valid circle.
use mathlib.Core.Path.{◌≡◌, sym, ap, ◌∙◌, subst}
use native.Mathlib.Omega.{arith}
use Prim.Native.Nat.{ℕ, ◌≤◌, ◌<◌}
use mathlib.Core.Bool.{Bool, true}
use lib.IntN.{ℤ}
use mir.Val.{to_z, of_z}
use mir.Syntax.{w64}
use Rattle.exact.specs.Fit.{Num, Bd, m64, arg, val, sized}
use Rattle.plane.specs.Bounds.{most_angle, most_sweep, CentreBounds}
use Rattle.plane.specs.Arc.{way_fits, arc_fits}
use Rattle.plane.proofs.ArcLaws.{way-bounds}
use Rattle.plane.proofs.CircleLaws.{centre-bounds}
use Rattle.hpgl.specs.declared.Circle.{Circle}
use Rattle.hpgl.specs.declared.Core.{Core}
use Rattle.hpgl.specs.declared.Position.{Position}
use Rattle.hpgl.specs.Place.{axis_x, axis_y}
use Rattle.hpgl.specs.Rules.{good_sweep, arc, follow, arc_by}
use Rattle.hpgl.specs.Valid.{WholeCircle}
use Rattle.hpgl.proofs.ValidFacts.{axis-bounds-x, axis-bounds-y, sweep-size, arc-valid}
use Rattle.shapes.proofs.arcs.arc_by.Goals as goal

-- o: the arc that is asked for, as it was made
module _ (c : Core) (q : Position) (sweep : ℤ) (angle : ℕ) (o : Circle) (made : o ≡ arc c q sweep angle) where
  size : good_sweep sweep ≡ true → Num (m64 o.sweep) o.sweep most_sweep
  unfolding arc
  size g = val w64 (subst (λ (a : Circle). Bd a.sweep most_sweep) (sym made) (sweep-size sweep g)) tt

  -- the two tests, of the arc that is asked for
  way : {t : Bool} → t ≡ way_fits o.radius → way_fits (arc c q sweep angle).radius ≡ t
  way e = sym (e ∙ ap (λ (a : Circle). way_fits a.radius) made)

  judged : good_sweep sweep ≡ true → {t : Bool} → t ≡ arc_fits o.x o.y o.radius (to_z w64 (of_z w64 o.sweep)) o.angle →
      let a = arc c q sweep angle in arc_fits a.x a.y a.radius a.sweep a.angle ≡ t
  judged g e = sym (e ∙ (λ i. arc_fits o.x o.y o.radius ((size g).is i) o.angle) ∙ (λ i. let a = made i in arc_fits a.x a.y a.radius a.sweep a.angle))

pub arc_fits-requires : goal.arc_fits-requires
unfolding arc
arc_fits-requires c =
    let a = c.args in
    let made : c.arc_of-o.result ≡ arc a.c a.centre a.sweep a.angle = c.arc_of-o.ensures ∙ (λ i. arc a.c a.centre ((arg w64 c.ranges.sweep).is i) a.angle) in
    let q = a.centre in
    let b = c.requires.0.settings in
    let z = sized (size a.c q a.sweep a.angle _ made c.requires.2) tt in
    let fits = way-bounds _ (sym c.way_fits.ensures ∙ c.if-way_fits.true) in
    let l = c.requires.3 in
    let x = subst (λ (o : Circle). CentreBounds o.x) (sym made) (centre-bounds (axis_x a.c.settings) q.x (axis-bounds-x b) c.requires.1.x) in
    let y = subst (λ (o : Circle). CentreBounds o.y) (sym made) (centre-bounds (axis_y a.c.settings) q.y (axis-bounds-y b) c.requires.1.y) in
    let lo = subst (λ (o : Circle). 0 < o.angle) (sym made) (omega (arith, l)) in
    let hi = subst (λ (o : Circle). o.angle ≤ most_angle) (sym made) c.requires.4 in
    (x, y, fits, c.table-sines.ensures, z, lo, hi)

pub follow-requires : goal.follow-requires
unfolding arc
follow-requires c =
    let a = c.args in
    let made : c.arc_of-o.result ≡ arc a.c a.centre a.sweep a.angle = c.arc_of-o.ensures ∙ (λ i. arc a.c a.centre ((arg w64 c.ranges.sweep).is i) a.angle) in
    let w = way a.c a.centre a.sweep a.angle _ made c.way_fits.ensures in
    let j = judged a.c a.centre a.sweep a.angle _ made c.requires.2 c.arc_fits.ensures in
    let v = arc-valid a.sweep c.requires.0 c.requires.1 c.requires.2 c.requires.3 c.requires.4 (w ∙ c.if-way_fits.true) (j ∙ c.if-arc_fits.true) in
    (subst WholeCircle (sym made) v, c.table-sines.ensures)

pub returns-then-arc_fits : goal.returns-then-arc_fits
unfolding arc_by
returns-then-arc_fits c =
    let a = c.args in
    let made : c.arc_of-o.result ≡ arc a.c a.centre a.sweep a.angle = c.arc_of-o.ensures ∙ (λ i. arc a.c a.centre ((arg w64 c.ranges.sweep).is i) a.angle) in
    let w = way a.c a.centre a.sweep a.angle _ made c.way_fits.ensures in
    let j = judged a.c a.centre a.sweep a.angle _ made c.requires.2 c.arc_fits.ensures in
    rw (w ∙ c.if-way_fits.true, j ∙ c.if-arc_fits.true) (c.follow.ensures ∙ ap (follow a.c) made)

pub returns-then-way_fits : goal.returns-then-way_fits
unfolding arc_by
returns-then-way_fits c =
    let a = c.args in
    let made : c.arc_of-o.result ≡ arc a.c a.centre a.sweep a.angle = c.arc_of-o.ensures ∙ (λ i. arc a.c a.centre ((arg w64 c.ranges.sweep).is i) a.angle) in
    let w = way a.c a.centre a.sweep a.angle _ made c.way_fits.ensures in
    let j = judged a.c a.centre a.sweep a.angle _ made c.requires.2 c.arc_fits.ensures in
    rw (w ∙ c.if-way_fits.true, j ∙ c.if-arc_fits.false) c.refuse.ensures

pub returns : goal.returns
unfolding arc_by
returns c =
    let a = c.args in
    let made : c.arc_of-o.result ≡ arc a.c a.centre a.sweep a.angle = c.arc_of-o.ensures ∙ (λ i. arc a.c a.centre ((arg w64 c.ranges.sweep).is i) a.angle) in
    rw (way a.c a.centre a.sweep a.angle _ made c.way_fits.ensures ∙ c.if-way_fits.false) c.refuse-2.ensures
