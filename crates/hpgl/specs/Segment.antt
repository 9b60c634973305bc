-- The segment that waits first, before the clip ("Location is turned to the page, then clipped to the limits"), and what draw answers of it.
use Rattle.std.specs.Prelude.{cond, ℕ, zero, suc, ◌+◌, get_or, Option, Some, None}
use Rattle.clip.specs.Clip.{clip}
use Rattle.clip.specs.Reach.{SmallPoint}
use Rattle.clip.specs.declared.Point.{Point}
use Rattle.clip.specs.declared.Rect.{Rect}
use Rattle.turns.specs.Turn.{turned_of}
use Rattle.hpgl.specs.declared.Settings.{Settings}
use Rattle.hpgl.specs.declared.Edge.{Edge}
use Rattle.hpgl.specs.declared.Circle.{Circle}
use Rattle.hpgl.specs.declared.Work.{Work}
use Rattle.hpgl.specs.declared.Work.TheVariants as work
use Rattle.hpgl.specs.declared.State.{State}
use Rattle.hpgl.specs.declared.Drawn.{Drawn}
use Rattle.hpgl.specs.declared.Drawn.TheVariants as drawn
use Rattle.hpgl.specs.declared.Segment.{Segment}
use Rattle.hpgl.specs.declared.Segment.TheVariants.{Nothing, PenUp, Line}
use Rattle.hpgl.specs.Place.{limits}
use Rattle.hpgl.specs.Machine.{no_edge, stroke_of, vertex}
use Rattle.hpgl.specs.Values.{Out, stroke, hidden, idle}

-- chord i
unfoldable pub chord_segment : Settings → Circle → ℕ → Segment
chord_segment s o i = Line (vertex s o i) (vertex s o (i + 1))

-- an edge of the store: its ends on the page, where the second was reached pen down
unfoldable pub edge_segment : Settings → Edge → Segment
edge_segment s e = cond e.down (Line (turned_of e.from s.turn) (turned_of e.to s.turn)) PenUp

unfoldable pub work_segment : State → Work → Segment
work_segment m work.Nothing = Nothing
work_segment m (work.Line a b) = Line a b
work_segment m (work.Chords o i zero) = Nothing
work_segment m (work.Chords o i (suc n)) = chord_segment m.core.settings o i
work_segment m (work.Edges i zero) = Nothing
work_segment m (work.Edges i (suc n)) = edge_segment m.core.settings (get_or m.store.edges i no_edge)
work_segment m (work.Answer r) = Nothing

unfoldable pub segment_of : State → Segment
segment_of m = work_segment m m.work

-- what is drawn of a segment within limits, by a pen
unfoldable pub drawn_of : Rect → ℕ → Segment → Drawn
drawn_of r pen Nothing = drawn.Idle
drawn_of r pen PenUp = drawn.Hidden
drawn_of r pen (Line a b) = stroke_of pen (clip r a b)

-- the same in 01's values: "Empty part: hidden. Otherwise the ends of the exact part, rounded"
unfoldable pub clipped_values : ℕ → Option (Point × Point) → Out
clipped_values pen None = hidden
clipped_values pen (Some (s, t)) = stroke pen s.x s.y t.x t.y

unfoldable pub segment_values : Rect → ℕ → Segment → Out
segment_values r pen Nothing = idle
segment_values r pen PenUp = hidden
segment_values r pen (Line a b) = clipped_values pen (clip r a b)

-- "Draw: works off one waiting segment and answers a stroke (pen, x0, y0, x1, y1), hidden, or idle if none waits"
unfoldable pub draw_values : State → Out
draw_values m = segment_values (limits m.core.settings) m.core.carriage.pen.number (segment_of m)

-- a segment that may be clipped
abbrev pub SmallSegment : Segment → Type 0
SmallSegment Nothing = Unit {0}
SmallSegment PenUp = Unit {0}
SmallSegment (Line a b) = SmallPoint a × SmallPoint b
