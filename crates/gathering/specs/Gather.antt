-- Feed and plot as one, what they answer, and what their loop asks: strokes and refusals go into a list of plain numbers.
use Rattle.std.specs.Prelude.{◌≡◌, ℕ, ◌+◌, Bool, true, false, cond, List, map, eqb, ltb, ℤ, pos, length, set}
use Rattle.reader.specs.declared.Reader.{Reader}
use Rattle.hpgl.specs.declared.Core.{Core}
use Rattle.hpgl.specs.declared.Store.{Store}
use Rattle.hpgl.specs.declared.Pen.{Pen}
use Rattle.hpgl.specs.declared.Circle.{Circle}
use Rattle.hpgl.specs.declared.Work.{Work}
use Rattle.hpgl.specs.declared.Work.TheVariants.{Nothing, Line, Chords, Edges, Answer}
use Rattle.hpgl.specs.declared.Action.{Action}
use Rattle.hpgl.specs.declared.Action.TheVariants as action
use Rattle.hpgl.specs.declared.State.{State}
use Rattle.hpgl.specs.declared.Stroke.{Stroke}
use Rattle.hpgl.specs.declared.Segment.{Segment}
use Rattle.hpgl.specs.declared.Segment.TheVariants as segment
use Rattle.hpgl.specs.declared.Drawn.{Drawn}
use Rattle.hpgl.specs.declared.Drawn.TheVariants as drawn
use Rattle.feeding.specs.DrawOff.{list_full}
use Rattle.hpgl.specs.Numbers.{busy}
use Rattle.hpgl.specs.Machine.{waiting, replying}
use Rattle.feeding.specs.Feed.{Feed, feed_from}
use Rattle.feeding.specs.Plot.{Mark, stroke, refusal, Plot, plot_from, laid_marks}
use Rattle.gathering.specs.declared.Stopped.{Stopped}

abbrev pub stopped_as : State → ℕ → ℕ → ℕ → Stopped
stopped_as m at k n = record { state = m; at = at; stored = k; number = n }

abbrev pub stopped_of : Plot → Stopped
stopped_of f = stopped_as f.state f.taken (length f.marks) f.number

-- ---- gather and plot as one

-- a feed as a plot: its strokes are the marks
abbrev pub marked : Feed → Plot
marked f = record { state = f.state; taken = f.taken; marks = map stroke f.strokes; number = f.number }

-- whether it goes on after a refused byte
unfoldable pub gather_from : Bool → State → List ℕ → ℕ → ℕ → Plot
gather_from true m bs t r = plot_from m bs t r
gather_from false m bs t r = marked (feed_from m bs t r)

-- what is left of it: the answer, and the list
abbrev pub Gathers : Plot → List ℤ → List ℤ → Stopped → Type 0
Gathers f entry exit r = (r ≡ stopped_of f) × (exit ≡ laid_marks f.marks entry)

-- ---- what the loop asks of the parts of a machine, and what a turn of it stores

abbrev pub whole : Reader → Core → Store → Work → State
whole r c st w = record { reader = r; core = c; store = st; work = w }

-- a byte is left, of as many as `end`, or a segment waits
unfoldable pub remains_of : Work → ℕ → ℕ → Bool
remains_of w at end = cond (ltb at end) true (ltb 0 (waiting w))

-- what comes next may need a record, of which all are used: n segments that wait do, and where refusals are stored any byte
unfoldable pub stuck_of : Bool → ℕ → ℕ → ℕ → Bool
stuck_of on n k room = cond (eqb k room) (cond on true (ltb 0 n)) false

-- the number that ends it there, or 0
abbrev pub full_of : Bool → ℕ → ℕ → ℕ → ℕ
full_of on n k room = cond (stuck_of on n k room) list_full 0

-- 20 where a reply waits
unfoldable pub halted_of : Bool → Work → ℕ → ℕ → ℕ
halted_of on w k room = cond (replying w) busy (full_of on (waiting w) k room)

-- a segment that may need a record, of which all are used
unfoldable pub overflows_of : Segment → ℕ → ℕ → Bool
overflows_of segment.Nothing k room = false
overflows_of segment.PenUp k room = false
overflows_of (segment.Line a b) k room = eqb k room

-- work that is drawn by a loop of its own
unfoldable pub batched_of : Work → Bool
batched_of Nothing = false
batched_of (Line a b) = false
batched_of (Chords o i n) = true
batched_of (Edges i n) = false
batched_of (Answer r) = false

-- an action that changes the store by more than one edge
unfoldable pub heavy_of : Action → Bool
heavy_of action.Keep = false
heavy_of (action.Line a b) = false
heavy_of (action.Chords o) = false
heavy_of (action.Join e) = false
heavy_of action.Outline = false
heavy_of (action.Rectangle p q shown) = true
heavy_of (action.Answer r) = false

-- the marks after a draw, of k before it
unfoldable pub count_after : Drawn → ℕ → ℕ
count_after (drawn.Stroke s) k = k + 1
count_after drawn.Hidden k = k
count_after drawn.Idle k = k

-- a stroke's numbers from the place i on
unfoldable pub with_stroke : Stroke → ℕ → List ℤ → List ℤ
with_stroke s i numbers = set (set (set (set (set numbers i (pos s.pen)) (i + 1) s.x0) (i + 2) s.y0) (i + 3) s.x1) (i + 4) s.y1

-- a mark as a record of five numbers: a refusal has the pen 0, its number and its place
abbrev pub record_of : Mark → Stroke
record_of (stroke s) = s
record_of (refusal n t) = record { pen = 0; x0 = pos n; y0 = pos t; x1 = pos 0; y1 = pos 0 }

unfoldable pub put_of : Drawn → ℕ → List ℤ → List ℤ
put_of (drawn.Stroke s) i numbers = with_stroke s i numbers
put_of drawn.Hidden i numbers = numbers
put_of drawn.Idle i numbers = numbers

-- what EP leaves waiting: the stored edges, if the pen has paint
unfoldable pub outline_of : Pen → ℕ → Work
outline_of p k = cond (eqb p.number 0) Nothing (Edges 0 k)

-- chords that wait, n of them from i on
unfoldable pub chords_left : Circle → ℕ → ℕ → Work
chords_left o i n = cond (eqb n 0) Nothing (Chords o i n)
