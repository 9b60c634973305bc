-- The proof of `circle_with`: an angle from 5 to 1200 may be cast.
use mathlib.Core.Path.{◌≡◌, sym, ap, ◌∙◌}
use lib.IntN.{nat_abs}
use mir.Syntax.{w16, w64}
use Rattle.exact.specs.Fit.{Num, m64, arg, val, within, to-nat}
use Rattle.plane.specs.Bounds.{most_number}
use Rattle.hpgl.specs.declared.Circle.{Circle}
use Rattle.hpgl.specs.declared.Action.TheVariants.{Chords}
use Rattle.hpgl.specs.Rules.{done, good_angle, circle, circle_fits, circle_with}
use Rattle.hpgl.proofs.ValidFacts.{from-to}
use Rattle.shapes.proofs.circles.circle_with.Goals as goal
use Rattle.shapes.proofs.circles.circle_with.Lts
use Rattle.shapes.proofs.circles.circle_with.Tie
use Rattle.shapes.proofs.circles.circle_with.Reads

abbrev After-circle_fits : Type 0
After-circle_fits = Lts.After-circle_fits Tie.the-claims Reads.Pre Reads.Post

abbrev After-from_to : Type 0
After-from_to = Lts.After-from_to Tie.the-claims Reads.Pre Reads.Post

abbrev Start : Type 0
Start = Lts.Start Tie.the-claims Reads.Pre Reads.Post

radius : (s : Start) → Num (m64 s.args.radius) s.args.radius most_number
radius s = val w64 s.requires.1 tt

angle : (c : After-from_to) → c.from_to.result ≡ good_angle c.args.angle
angle c = c.from_to.ensures ∙ ap good_angle (arg w64 c.ranges.angle).is

abbrev start : After-circle_fits → Start
start c = search

fits : (c : After-circle_fits) → c.circle_fits.result ≡ circle_fits (start c).args.c (start c).args.radius
fits c = let s = start c in c.circle_fits.ensures ∙ ap (circle_fits s.args.c) (radius s).is

pub overflow_cast-angle : goal.overflow_cast-angle
overflow_cast-angle c =
    let a = c.before.before.before.before.before in
    let k = from-to 5 1200 c.args.angle (sym (angle a) ∙ c.if-from_to.true) in
    to-nat w64 w16 (within (arg w64 c.ranges.angle) (record { bd = k.2 })) k.0 tt

pub returns-then-inked : goal.returns-then-inked
unfolding circle_with
returns-then-inked c =
    let u = c.before.before in
    let b = u.before in
    let t = b.before in
    let a = t.before in
    let h = a.before in
    let g = h.before in
    let s = g.before in
    let eo = c.circle_of.ensures ∙ (λ i. circle s.args.c ((radius s).is i) (nat_abs ((arg w64 s.ranges.angle).is i))) in
    rw (sym (angle g) ∙ h.if-from_to.true, sym (fits a) ∙ t.if-circle_fits.true, sym b.inked.ensures ∙ u.if-inked.true)
    (c.done.ensures ∙ ap (λ (x : Circle). done s.args.c (Chords x)) eo)

pub returns-then-circle_fits : goal.returns-then-circle_fits
unfolding circle_with
returns-then-circle_fits c =
    let g = c.before.before.before.before.before.before in
    let a = c.before.before.before.before in
    rw (sym (angle g) ∙ c.if-from_to.true, sym (fits a) ∙ c.if-circle_fits.true, sym c.inked.ensures ∙ c.if-inked.false) c.done-then-circle_fits.ensures

pub returns-then-from_to : goal.returns-then-from_to
unfolding circle_with
returns-then-from_to c =
    let g = c.before.before.before.before in
    let a = c.before.before in
    rw (sym (angle g) ∙ c.if-from_to.true, sym (fits a) ∙ c.if-circle_fits.false) c.refuse.ensures

pub returns : goal.returns
unfolding circle_with
returns c =
    let g = c.before.before in
    rw (sym (angle g) ∙ c.if-from_to.false) c.refuse-2.ensures
