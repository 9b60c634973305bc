-- The proof of `first_segment`: the table is that of the settings, and the corners are those of the work.
use mathlib.Core.Path.{◌∙◌}
use Rattle.turns.proofs.TurnLaws.{rows-unit}
use Rattle.queue.specs.Corners.{corner_of, next_corner_of, segment_in, first_segment}
use Rattle.queue.proofs.drawing.first_segment.Goals as goal

pub rows_of-rows-requires : goal.rows_of-rows-requires
rows_of-rows-requires c = c.requires.0.turn

pub corner-from-requires : goal.corner-from-requires
corner-from-requires c = (rw c.rows_of-rows.ensures (rows-unit c.requires.0.turn), c.requires.2, c.requires.3)

pub next_corner-to-requires : goal.next_corner-to-requires
next_corner-to-requires c =
    (rw c.rows_of-rows.ensures (rows-unit c.requires.0.turn), c.requires.2, c.requires.3)

pub segment-requires : goal.segment-requires
segment-requires c =
    (rw c.rows_of-rows.ensures (rows-unit c.requires.0.turn), c.requires.1)

pub returns : goal.returns
unfolding first_segment
returns c =
    let w = c.args.w in
    c.segment.ensures
    ∙ (λ i. segment_in c.rows_of-rows.result c.args.e w (c.corner-from.ensures i) (c.next_corner-to.ensures i))
    ∙ (λ i. let t = c.rows_of-rows.ensures i in segment_in t c.args.e w (corner_of t w) (next_corner_of t w))
