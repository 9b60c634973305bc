-- The proof of `draw_first`: the segment and the limits, each by its call.
use mathlib.Core.Path.{◌∙◌}
use Rattle.hpgl.specs.Segment.{drawn_of}
use Rattle.hpgl.proofs.ValidFacts.{limits-small}
use Rattle.queue.specs.Corners.{first_small}
use Rattle.queue.proofs.drawing.draw_first.Goals as goal

pub drawn_of-requires : goal.drawn_of-requires
drawn_of-requires c =
    rw (c.first_segment-s.ensures, c.limits_of.ensures) (limits-small c.requires.0, first_small c.requires.0 c.requires.1 c.args.w c.requires.2)

pub returns : goal.returns
returns c =
    c.drawn_of.ensures ∙ (λ i. drawn_of (c.limits_of.ensures i) c.args.c.carriage.pen.number (c.first_segment-s.ensures i))
