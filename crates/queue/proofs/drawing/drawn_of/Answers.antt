-- The proof of `drawn_of`: by its arms.
use mathlib.Core.Path.{subst}
use Rattle.hpgl.specs.Segment.{SmallSegment}
use Rattle.queue.proofs.drawing.drawn_of.Goals as goal

pub kept_or_clipped-requires : goal.kept_or_clipped-requires
kept_or_clipped-requires c =
    let h = subst SmallSegment c.in-Line.is c.requires.1 in
    (c.requires.0, h.0, h.1)
