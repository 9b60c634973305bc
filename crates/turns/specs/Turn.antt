-- The turn of the paper: "The quarter turn is a two by two table of whole numbers: point (x, y) goes to page (−y, x)."
-- Document 02, CR 3: "RO180 and RO270. Page point (−x, −y) and (y, −x) are the new images."
-- Definitions only: TurnLaws.antt, BoxLaws.antt and TurnsSaid.antt have what follows of them.
use Rattle.std.specs.Prelude.{cond, Option, Some, None, ltb, List, [], ◌∷◌, map, ℕ, zero, suc, ◌+◌, ℤ, pos, negsuc, ◌+ℤ◌, ◌*ℤ◌, get_or}
use Rattle.exact.specs.Whole.{◌<?◌, ◌≡?◌}
use Rattle.exact.specs.Fit.{Bd}
use Rattle.clip.specs.Line.{Frac, Exact}
use Rattle.clip.specs.Fractions.{times_f, sum_f}
use Rattle.clip.specs.declared.Point.{Point}
use Rattle.clip.specs.declared.Rect.{Rect}
use Rattle.turns.specs.declared.turn.Rows.{Rows}

-- a turn: the number by which RO asks for it, in degrees, and its table, row by row
pub record Turn : Type 0 where
  pub angle : ℤ
  pub table : List (List ℤ)

-- the table of turns. A turn is its place in it; another would be another row
unfoldable pub turns : List Turn
turns =
    (record { angle = pos 0; table = (pos 1 ∷ pos 0 ∷ []) ∷ (pos 0 ∷ pos 1 ∷ []) ∷ [] }) ∷
    (record { angle = pos 90; table = (pos 0 ∷ negsuc 0 ∷ []) ∷ (pos 1 ∷ pos 0 ∷ []) ∷ [] }) ∷
    (record { angle = pos 180; table = (negsuc 0 ∷ pos 0 ∷ []) ∷ (pos 0 ∷ negsuc 0 ∷ []) ∷ [] }) ∷
    (record { angle = pos 270; table = (pos 0 ∷ pos 1 ∷ []) ∷ (negsuc 0 ∷ pos 0 ∷ []) ∷ [] }) ∷
    []

abbrev pub turn_count : ℕ
turn_count = 4

-- "RO 0": a point stays in its place
abbrev pub upright : ℕ
upright = 0

-- the number of turn t
unfoldable pub degrees_of : ℕ → ℤ
degrees_of t = get_or (map (λ (r : Turn). r.angle) turns) t (pos 0)

-- the turn that has the number z, of n from place t on; the place after them if none has
unfoldable pub turn_from : ℤ → ℕ → ℕ → ℕ
turn_from z t zero = t
turn_from z t (suc n) = cond (degrees_of t ≡? z) t (turn_from z (t + 1) n)

unfoldable pub find_turn : ℤ → ℕ
find_turn z = turn_from z 0 turn_count

-- place t as the code answers it: none past the last turn
abbrev pub found_of : ℕ → Option ℕ
found_of t = cond (ltb t turn_count) (Some t) None

-- the table of turn t
abbrev pub table_of : ℕ → List (List ℤ)
table_of t = get_or (map (λ (r : Turn). r.table) turns) t []

-- the number in its row i and column j
unfoldable pub turn_of : ℕ → ℕ → ℕ → ℤ
turn_of t i j = get_or (get_or (table_of t) i []) j (pos 0)

-- the whole table
unfoldable pub rows_of : ℕ → Rows
rows_of t = record { xx = turn_of t 0 0; xy = turn_of t 0 1; yx = turn_of t 1 0; yy = turn_of t 1 1 }

-- the table whose rows are its columns
unfoldable pub transposed_of : Rows → Rows
transposed_of r = record { xx = r.xx; xy = r.yx; yx = r.xy; yy = r.yy }

-- ---- points

-- a row times a point
abbrev pub along_of : ℤ → ℤ → ℤ → ℤ → ℤ
along_of a b x y = a *ℤ x +ℤ b *ℤ y

-- a table times a point; by that of a turn it is `turned_of` (TurnLaws.antt, `by_rows`)
unfoldable pub turned_by : Rows → Point → Point
turned_by r p = record { x = along_of r.xx r.xy p.x p.y; y = along_of r.yx r.yy p.x p.y }

-- "Location is turned to the page"
unfoldable pub turned_of : Point → ℕ → Point
turned_of p t = record {
  x = along_of (turn_of t 0 0) (turn_of t 0 1) p.x p.y;
  y = along_of (turn_of t 1 0) (turn_of t 1 1) p.x p.y;
}

-- the way back: by the transposed table, its rows the columns of this one
unfoldable pub turned_back_of : Point → ℕ → Point
turned_back_of p t = record {
  x = along_of (turn_of t 0 0) (turn_of t 1 0) p.x p.y;
  y = along_of (turn_of t 0 1) (turn_of t 1 1) p.x p.y;
}

-- "The page point stays" (RO, and IN, which turns back to 0): the point that has under the new turn the page point that p has under the old one
unfoldable pub rebased_of : Point → ℕ → ℕ → Point
rebased_of p old new = turned_back_of (turned_of p old) new

-- ---- boxes

unfoldable pub lesser_of : ℤ → ℤ → ℤ
lesser_of a b = cond (b <? a) b a

unfoldable pub greater_of : ℤ → ℤ → ℤ
greater_of a b = cond (a <? b) b a

-- "two corners .. put in order"
unfoldable pub ordered_of : Point → Point → Rect
ordered_of p q = record {
  left = lesser_of p.x q.x;
  bottom = lesser_of p.y q.y;
  right = greater_of p.x q.x;
  top = greater_of p.y q.y;
}

-- "the window turns along": its corners turned, and put in order again
unfoldable pub turned_box_of : Rect → ℕ → Rect
turned_box_of r t = ordered_of (turned_of (record { x = r.left; y = r.bottom }) t) (turned_of (record { x = r.right; y = r.top }) t)

-- "the hard limits turned back" (document 02, CR 5): the box of locations whose page is the box r; its corners turned back, and put in order
unfoldable pub turned_back_box_of : Rect → ℕ → Rect
turned_back_box_of r t = ordered_of (turned_back_of (record { x = r.left; y = r.bottom }) t) (turned_back_of (record { x = r.right; y = r.top }) t)

-- ---- exact points: "The exact line of a move joins the exact positions, turned."

-- a row times an exact point
abbrev pub along_f : ℤ → ℤ → Exact → Frac
along_f a b e = sum_f (times_f a e.x) (times_f b e.y)

unfoldable pub turned_exact : Exact → ℕ → Exact
turned_exact e t = record {
  x = along_f (turn_of t 0 0) (turn_of t 0 1) e;
  y = along_f (turn_of t 1 0) (turn_of t 1 1) e;
}

-- ---- what the code asks of a table that it has in a struct: each of its numbers is at most 1 in size
pub record UnitRows (r : Rows) : Type 0 where
  pub xx : Bd r.xx 1
  pub xy : Bd r.xy 1
  pub yx : Bd r.yx 1
  pub yy : Bd r.yy 1
