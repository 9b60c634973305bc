-- The proof of `arc_about`: an angle from 5 to 1200 may be cast.
use mathlib.Core.Path.{◌≡◌, sym, ap, ◌∙◌}
use lib.IntN.{nat_abs}
use mir.Syntax.{w16, w64}
use Rattle.exact.specs.Fit.{m64, got, to-nat}
use Rattle.hpgl.specs.Rules.{good_sweep, good_angle, swept_angle, arc_angle, arc, arc_by, arc_about}
use Rattle.hpgl.proofs.ValidFacts.{from-to}
use Rattle.shapes.proofs.arcs.arc_about.Goals as goal
use Rattle.shapes.proofs.arcs.arc_about.Lts
use Rattle.shapes.proofs.arcs.arc_about.Tie
use Rattle.shapes.proofs.arcs.arc_about.Reads

abbrev After-arc_angle-angle : Type 0
After-arc_angle-angle = Lts.After-arc_angle Tie.the-claims Reads.Pre Reads.Post

abbrev After-from_to : Type 0
After-from_to = Lts.After-from_to Tie.the-claims Reads.Pre Reads.Post

abbrev After-good_sweep : Type 0
After-good_sweep = Lts.After-good_sweep Tie.the-claims Reads.Pre Reads.Post

abbrev After-swept_angle-sweep : Type 0
After-swept_angle-sweep = Lts.After-swept_angle Tie.the-claims Reads.Pre Reads.Post

abbrev Start : Type 0
Start = Lts.Start Tie.the-claims Reads.Pre Reads.Post

-- the angles that were found, and their tests
abbrev of-sweep : After-swept_angle-sweep → Start
of-sweep c = search

sweep : (c : After-swept_angle-sweep) → m64 c.swept_angle-sweep.result ≡ swept_angle (of-sweep c).args.n
sweep c = got w64 c.swept_angle-sweep.type_inv ∙ c.swept_angle-sweep.ensures

abbrev of-angle : After-arc_angle-angle → Start
of-angle c = search

angle : (c : After-arc_angle-angle) → m64 c.arc_angle-angle.result ≡ arc_angle (of-angle c).args.n
angle c = got w64 c.arc_angle-angle.type_inv ∙ c.arc_angle-angle.ensures

good : (c : After-good_sweep) → c.good_sweep.result ≡ good_sweep (swept_angle (of-sweep c.before).args.n)
good c = c.good_sweep.ensures ∙ ap good_sweep (sweep c.before)

fit : (c : After-from_to) → c.from_to.result ≡ good_angle (arc_angle (of-angle c.before).args.n)
fit c = c.from_to.ensures ∙ ap good_angle (angle c.before)

pub overflow_cast-angle : goal.overflow_cast-angle
overflow_cast-angle c =
    let a = c.before.before in
    let f = c.before in
    let k = from-to 5 1200 (arc_angle c.args.n) (sym (fit f) ∙ c.if-from_to.true) in
    to-nat w64 w16 (record { is = angle a; size = record { bd = k.2 } }) k.0 tt

pub arc_by-requires : goal.arc_by-requires
arc_by-requires c =
    let w = c.before.before.before.before.before in
    let g = c.before.before.before.before in
    let a = c.before.before in
    let f = c.before in
    let k = from-to 5 1200 (arc_angle c.args.n) (sym (fit f) ∙ c.if-from_to.true) in
    rw (sweep w, angle a) (c.requires.0, c.requires.1, sym (good g) ∙ c.if-good_sweep.true, k.1, k.2)

pub returns-then-from_to : goal.returns-then-from_to
unfolding arc_about
returns-then-from_to c =
    let u = c.before in
    let f = u.before in
    let a = f.before in
    let t = a.before in
    let g = t.before in
    let w = g.before in
    let s = of-sweep w in
    rw (sym (good g) ∙ t.if-good_sweep.true, sym (fit f) ∙ u.if-from_to.true)
    (c.arc_by.ensures ∙ (λ i. arc_by s.args.c (arc s.args.c s.args.centre (sweep w i) (nat_abs (angle a i)))))

pub returns-then-good_sweep : goal.returns-then-good_sweep
unfolding arc_about
returns-then-good_sweep c =
    let g = c.before.before.before.before.before in
    let f = c.before.before in
    rw (sym (good g) ∙ c.if-good_sweep.true, sym (fit f) ∙ c.if-from_to.false) c.refuse.ensures

pub returns : goal.returns
unfolding arc_about
returns c =
    let g = c.before.before in
    rw (sym (good g) ∙ c.if-good_sweep.false) c.refuse-2.ensures
