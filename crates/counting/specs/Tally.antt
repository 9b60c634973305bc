-- What is counted of a drawing, segment by segment.
use Rattle.std.specs.Prelude.{Option, Some, None, Bool, true, false, cond, List, ℕ, ltb, set, get_or, replicate}
use Rattle.exact.specs.Whole.{◌≡?◌}
use Rattle.clip.specs.declared.Point.{Point}
use Rattle.clip.specs.declared.Rect.{Rect}
use Rattle.turns.specs.Turn.{lesser_of, greater_of, ordered_of}
use Rattle.hpgl.specs.declared.Stroke.{Stroke}
use Rattle.hpgl.specs.declared.Drawn.{Drawn}
use Rattle.hpgl.specs.declared.Drawn.TheVariants as drawn
use Rattle.hpgl.specs.declared.Segment.{Segment}
use Rattle.hpgl.specs.declared.Segment.TheVariants as segment
use Rattle.console.specs.Sums.{added}
use Rattle.measure.specs.Root.{squares, tenths_of}
use Rattle.counting.specs.declared.tally.Paint.{Paint}
use Rattle.counting.specs.declared.tally.Tally.{Tally}

-- pens are 0 to 8
abbrev pub pens : ℕ
pens = 9

abbrev pub nothing_of : Tally
nothing_of = record {
  whole = 0;
  clipped = 0;
  hidden = 0;
  paint = record { strokes = replicate pens 0; lengths = replicate pens 0; empty = 0; end = None; area = None };
  asked = None;
}

-- the smallest box that holds both
unfoldable pub joined_of : Rect → Rect → Rect
joined_of a b = record {
  left = lesser_of a.left b.left;
  bottom = lesser_of a.bottom b.bottom;
  right = greater_of a.right b.right;
  top = greater_of a.top b.top;
}

-- a box with the line between two points; the first line is the box
unfoldable pub widened_of : Option Rect → Point → Point → Option Rect
widened_of None a b = Some (ordered_of a b)
widened_of (Some area) a b = Some (joined_of area (ordered_of a b))

-- from a to b, in tenths of a unit: ten times the root of dx * dx + dy * dy, rounded to the nearest
unfoldable pub way_of : Point → Point → ℕ
way_of a b = tenths_of (squares a.x a.y b.x b.y)

-- from the end of the last stroke to the beginning of the next; before the first stroke none
unfoldable pub driven_of : Option Point → Point → ℕ
driven_of None to = 0
driven_of (Some at) to = way_of at to

-- so much more for a pen
unfoldable pub for_pen : List ℕ → ℕ → ℕ → List ℕ
for_pen list pen more = cond (ltb pen pens) (set list pen (added (get_or list pen 0) more)) list

unfoldable pub start_of : Stroke → Point
start_of s = record { x = s.x0; y = s.y0 }

unfoldable pub end_of : Stroke → Point
end_of s = record { x = s.x1; y = s.y1 }

-- one more stroke
unfoldable pub painted_of : Paint → Stroke → Paint
painted_of p s = record {
  strokes = for_pen p.strokes s.pen 1;
  lengths = for_pen p.lengths s.pen (way_of (start_of s) (end_of s));
  empty = added p.empty (driven_of p.end (start_of s));
  end = Some (end_of s);
  area = widened_of p.area (start_of s) (end_of s);
}

-- a stroke has the ends of its segment
unfoldable pub same_ends : Point → Point → Stroke → Bool
same_ends a b s =
    cond (a.x ≡? s.x0) (cond (a.y ≡? s.y0) (cond (b.x ≡? s.x1) (cond (b.y ≡? s.y1) true false) false) false) false

-- a segment from a to b of which the limits leave the stroke s: whole, or clipped
unfoldable pub shown_of : Tally → Point → Point → Stroke → Tally
shown_of t a b s =
    cond (same_ends a b s)
    (record { whole = added t.whole 1; clipped = t.clipped; hidden = t.hidden; paint = painted_of t.paint s; asked = widened_of t.asked a b })
    (record { whole = t.whole; clipped = added t.clipped 1; hidden = t.hidden; paint = painted_of t.paint s; asked = widened_of t.asked a b })

-- one of which they leave nothing
unfoldable pub hidden_of : Tally → Point → Point → Tally
hidden_of t a b = record { whole = t.whole; clipped = t.clipped; hidden = added t.hidden 1; paint = t.paint; asked = widened_of t.asked a b }

unfoldable pub line_of : Tally → Point → Point → Drawn → Tally
line_of t a b drawn.Idle = t
line_of t a b drawn.Hidden = hidden_of t a b
line_of t a b (drawn.Stroke s) = shown_of t a b s

-- a segment, by what draw answers of it; an edge that was reached pen up is nobody's line
unfoldable pub counted_of : Tally → Segment → Drawn → Tally
counted_of t segment.Nothing d = t
counted_of t segment.PenUp d = t
counted_of t (segment.Line a b) d = line_of t a b d
