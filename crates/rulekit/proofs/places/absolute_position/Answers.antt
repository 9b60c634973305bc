-- The proof of `absolute_position`: on the axes of the settings.
use mathlib.Core.Path.{◌∙◌}
use Rattle.plane.specs.Position.{absolute_of}
use Rattle.hpgl.specs.Place.{absolute_position}
use Rattle.hpgl.proofs.ValidFacts.{axis-bounds-x, axis-bounds-y}
use Rattle.rulekit.proofs.places.absolute_position.Goals as goal

pub absolute_on-requires : goal.absolute_on-requires
absolute_on-requires c =
    rw (c.axis_x.ensures, c.axis_y.ensures) (axis-bounds-x c.requires.0, axis-bounds-y c.requires.0, c.requires.1)

pub returns : goal.returns
unfolding absolute_position
returns c =
    let x = c.before.before in
    let y = c.before in
    c.absolute_on.ensures
    ∙ (λ i. record { x = absolute_of (x.axis_x.ensures i) c.args.n.x; y = absolute_of (y.axis_y.ensures i) c.args.n.y })
