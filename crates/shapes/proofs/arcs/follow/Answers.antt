-- The proof of `follow`: the vertex at the sweep is the last.
use Rattle.std.proofs.Common.{refl, ap, ◌∙◌}
use mir.Syntax.{w64}
use Rattle.exact.specs.Fit.{val}
use Rattle.plane.specs.Circle.{point_from_centre}
use Rattle.hpgl.specs.Rules.{last_vertex, follow}
use Rattle.shapes.proofs.arcs.follow.Goals as goal
use Rattle.shapes.proofs.arcs.follow.Goals.{else-c-via-then-c+else-inked, else-c-via-else-c}

pub returns-then-inked : goal.returns-then-inked
unfolding follow last_vertex
returns-then-inked c =
    let o = c.args.o in
    let last = c.vertex_point-last.ensures ∙ ap (point_from_centre o.x o.y o.radius) (val w64 c.requires.0.sweep tt).is in
    simp (c.done.ensures, c.with_carriage-moved.ensures, c.with_position.ensures, c.rest_at.ensures, last, c.if-c.true, ← c.inked.ensures, c.if-inked.true) refl

pub returns-else-c : goal.returns-else-c
unfolding follow last_vertex
returns-else-c c =
    let o = c.args.o in
    let last = c.vertex_point-last.ensures ∙ ap (point_from_centre o.x o.y o.radius) (val w64 c.requires.0.sweep tt).is in
    elim c.else-c.branch [
      | else-c-via-then-c+else-inked w ↦
          simp (c.done-else-c.ensures, c.with_carriage-moved.ensures, c.with_position.ensures, c.rest_at.ensures, last, w.if-c.true, ← w.inked.ensures, w.if-inked.false) refl
      | else-c-via-else-c w ↦
          simp (c.done-else-c.ensures, c.with_carriage-moved.ensures, c.with_position.ensures, c.rest_at.ensures, last, w.if-c.false) refl
    ]
