-- The proof of `circle_of`: a centre on each axis, of a position that may be located.
use mathlib.Core.Path.{ap, ◌∙◌}
use lib.IntN.{pos}
use mir.Syntax.{w64}
use Rattle.exact.specs.Fit.{val}
use Rattle.plane.specs.declared.position.Axis.{Axis}
use Rattle.plane.specs.Circle.{centre_of}
use Rattle.hpgl.specs.Place.{location, relative_position}
use Rattle.hpgl.specs.Rules.{circle}
use Rattle.hpgl.proofs.ValidFacts.{axis-bounds-x, axis-bounds-y, placed-locatable}
use Rattle.shapes.proofs.circles.circle_of.Goals as goal

pub centre_of-x-requires : goal.centre_of-x-requires
centre_of-x-requires c =
    let w = c.requires.0.settings in
    rw c.axis_x.ensures (axis-bounds-x w, (placed-locatable w c.requires.0.position).x)

pub centre_of-y-requires : goal.centre_of-y-requires
centre_of-y-requires c =
    let w = c.requires.0.settings in
    rw c.axis_y.ensures (axis-bounds-y w, (placed-locatable w c.requires.0.position).y)

pub returns : goal.returns
unfolding circle
returns c =
    let p = c.args.c.carriage.position in
    let x = c.before.before.before in
    let y = c.before in
    let ex = x.centre_of-x.ensures ∙ ap (λ (a : Axis). centre_of a p.x) c.axis_x.ensures in
    let ey = y.centre_of-y.ensures ∙ ap (λ (a : Axis). centre_of a p.y) c.axis_y.ensures in
    let r = val w64 c.requires.1 tt in
    let es = c.point_at-start.ensures ∙ (λ i. location c.args.c.settings (relative_position p (record { x = r.is i; y = pos 0 }))) in
    λ i. record { x = ex i; y = ey i; radius = record { u = r.is i; v = pos 0 }; angle = c.args.angle; start = es i; sweep = pos 3600 }
