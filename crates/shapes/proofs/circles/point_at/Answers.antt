-- The proof of `point_at`: a position that is kept may be moved, and located.
use mathlib.Core.Path.{ap, ◌∙◌}
use Rattle.hpgl.specs.Place.{location}
use Rattle.hpgl.proofs.ValidFacts.{placed-offset, relative-locatable}
use Rattle.shapes.proofs.circles.point_at.Goals as goal

pub relative_position-requires : goal.relative_position-requires
relative_position-requires c =
    let h = placed-offset c.requires.0.settings c.requires.0.position in
    (h.0, h.1, c.requires.1)

pub located-requires : goal.located-requires
located-requires c =
    rw c.relative_position.ensures (c.requires.0.settings, relative-locatable c.requires.0.settings c.requires.0.position c.requires.1)

pub returns : goal.returns
returns c =
    c.located.ensures ∙ ap (location c.args.c.settings) c.relative_position.ensures
