-- The proof of `arc_of`: position and centre may be located, and so a way leads from one to the other.
use mathlib.Core.Path.{ap, ◌∙◌}
use mir.Syntax.{w64}
use Rattle.exact.specs.Fit.{arg, got}
use Rattle.plane.specs.declared.position.Axis.{Axis}
use Rattle.plane.specs.Arc.{way_of}
use Rattle.plane.specs.Circle.{centre_of}
use Rattle.hpgl.specs.Rules.{way_from, arc}
use Rattle.hpgl.proofs.ValidFacts.{axis-bounds-x, axis-bounds-y, placed-locatable}
use Rattle.rulekit.specs.Locating.{here-locatable}
use Rattle.shapes.proofs.arcs.arc_of.Goals as goal

pub way_from-u-requires : goal.way_from-u-requires
way_from-u-requires c =
    let w = c.requires.0.settings in
    rw c.axis_x-x.ensures (axis-bounds-x w, (placed-locatable w c.requires.0.position).x, c.requires.1.x)

pub way_from-v-requires : goal.way_from-v-requires
way_from-v-requires c =
    let w = c.requires.0.settings in
    rw c.axis_y-y.ensures (axis-bounds-y w, (placed-locatable w c.requires.0.position).y, c.requires.1.y)

pub centre_of-cx-requires : goal.centre_of-cx-requires
centre_of-cx-requires c =
    rw c.axis_x-x.ensures (axis-bounds-x c.requires.0.settings, c.requires.1.x)

pub centre_of-cy-requires : goal.centre_of-cy-requires
centre_of-cy-requires c =
    rw c.axis_y-y.ensures (axis-bounds-y c.requires.0.settings, c.requires.1.y)

pub located-start-requires : goal.located-start-requires
located-start-requires c = (c.requires.0.settings, here-locatable c.requires.0)

pub returns : goal.returns
unfolding arc way_from
returns c =
    let p = c.args.c.carriage.position in
    let q = c.args.centre in
    let eu = got w64 c.way_from-u.type_inv ∙ c.way_from-u.ensures ∙ ap (λ (a : Axis). way_of a p.x q.x) c.axis_x-x.ensures in
    let ev = got w64 c.way_from-v.type_inv ∙ c.way_from-v.ensures ∙ ap (λ (a : Axis). way_of a p.y q.y) c.axis_y-y.ensures in
    let ex = c.centre_of-cx.ensures ∙ ap (λ (a : Axis). centre_of a q.x) c.axis_x-x.ensures in
    let ey = c.centre_of-cy.ensures ∙ ap (λ (a : Axis). centre_of a q.y) c.axis_y-y.ensures in
    λ i. record {
      x = ex i;
      y = ey i;
      radius = record { u = eu i; v = ev i };
      angle = c.args.angle;
      start = c.located-start.ensures i;
      sweep = (arg w64 c.ranges.sweep).is i;
    }
