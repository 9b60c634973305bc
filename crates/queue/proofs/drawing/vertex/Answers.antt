-- The proof of `vertex`: it is in range, so it may be turned.
use borrow.Author.Tests.{eq-eqb, ne_eqb}
use mathlib.Core.Path.{◌≡◌, refl, sym, ap, ◌∙◌}
use native.Mathlib.Omega.{arith}
use lib.IntN.{ℤ}
use mir.Syntax.{w64}
use Rattle.exact.specs.Fit.{val, sized, got}
use Rattle.turns.specs.Turn.{turned_by}
use Rattle.plane.specs.Circle.{point_from_centre}
use Rattle.plane.specs.Arc.{bend_of, arc_point}
use Rattle.hpgl.specs.Machine.{vertex_in}
use Rattle.queue.specs.Corners.{vertex_at}
use Rattle.queue.proofs.drawing.vertex.Goals as goal
use Rattle.queue.proofs.drawing.vertex.Lts
use Rattle.queue.proofs.drawing.vertex.Tie
use Rattle.queue.proofs.drawing.vertex.Reads

abbrev After-vertex_point : Type 0
After-vertex_point = Lts.After-vertex_point Tie.the-claims Reads.Pre Reads.Post

abbrev Then-i-eq0 : Type 0
Then-i-eq0 = Lts.Then1 Tie.the-claims Reads.Pre Reads.Post

pub turned_by-requires : goal.turned_by-requires
turned_by-requires c = (c.requires.0, c.requires.1.start)

-- the first vertex
first : (t : Then-i-eq0) → let s = t.before.before in vertex_in t.args.o t.args.i ≡ t.args.o.start
unfolding vertex_in arc_point
first t = rw (eq-eqb t.args.i 0 t.if-i-eq0.true) refl

pub returns-then-i-eq0 : goal.returns-then-i-eq0
unfolding vertex_at
returns-then-i-eq0 c =
    let t = c.before.before.before in
    c.turned_by.ensures ∙ ap (turned_by c.args.rows) (sym (first t))

pub bend-angle-requires : goal.bend-angle-requires
bend-angle-requires c = (sized (val w64 c.requires.1.sweep tt) tt, omega (arith, c.requires.1.least), c.requires.1.most)

-- a later one
place : (c : After-vertex_point) → let s = c.before.before.before.before.before.before.before.before.before in c.vertex_point.result ≡ vertex_in c.args.o c.args.i
unfolding vertex_in arc_point
place c =
    let o = c.args.o in
    rw (ne_eqb c.args.i 0 c.if-i-eq0.false)
    (c.vertex_point.ensures
    ∙ ap (point_from_centre o.x o.y o.radius) (got w64 c.bend-angle.type_inv ∙ c.bend-angle.ensures ∙ ap (λ (x : ℤ). bend_of x o.angle c.args.i) (val w64 c.requires.1.sweep tt).is))

pub turned_by-requires-2 : goal.turned_by-requires-2
turned_by-requires-2 c =
    (c.requires.0, rw (place c.before) (c.requires.1.fits c.args.i (omega arith) (omega arith)))

pub returns : goal.returns
unfolding vertex_at
returns c =
    let p = c.before.before in
    c.turned_by-2.ensures ∙ ap (turned_by c.args.rows) (place p)
