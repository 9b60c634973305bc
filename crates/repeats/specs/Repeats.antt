-- Lines that are painted twice: those that have the two ends of one of the last 4096 lines, either way round. A dot, which ends where it begins, is no line: writers put the pen down
-- where a line begins. A line is a row of pen, x0, y0, x1 and y1. What is kept of lines is one list of numbers.
use Rattle.std.specs.Prelude.{Bool, true, false, cond, List, [], ◌∷◌, ℕ, zero, suc, ◌+◌, ◌-◌, ◌*◌, ◌%◌, eqb, ltb, leb, ℤ, pos, nat_abs, length, get_or, set}
use Rattle.exact.specs.Whole.{◌≡?◌, ◌<?◌}
use Rattle.console.specs.Sums.{added}
use Rattle.rows.specs.declared.Row.{Row}
use Rattle.rows.specs.Rows.{row, row_at, with_row}
use Rattle.repeats.specs.declared.Repeats.{Repeats}

abbrev pub most : ℕ
most = 4096

-- ---- the list: 4096 rows, the n-th line in slot n modulo 4096, over the one that was 4096 lines before it; how many lines there were; how many of them were painted before; the first
-- of these; and for each mark the last line that has it, counted from 1

abbrev pub count_at : ℕ
count_at = 20480

abbrev pub twice_at : ℕ
twice_at = 20481

abbrev pub first_at : ℕ
first_at = 20485

abbrev pub marked_at : ℕ
marked_at = 20490

abbrev pub marks : ℕ
marks = 32749

abbrev pub room : ℕ
room = 53239

abbrev pub size_at : List ℤ → ℕ → ℕ
size_at kept i = nat_abs (get_or kept i (pos 0))

-- ---- two lines

unfoldable pub same_way : Row → Row → Bool
same_way l m = cond (l.b ≡? m.b) (cond (l.c ≡? m.c) (cond (l.d ≡? m.d) (cond (l.e ≡? m.e) true false) false) false) false

unfoldable pub other_way : Row → Row → Bool
other_way l m = cond (l.b ≡? m.d) (cond (l.c ≡? m.e) (cond (l.d ≡? m.b) (cond (l.e ≡? m.c) true false) false) false) false

-- "same two ends, either way round"
unfoldable pub same : Row → Row → Bool
same l m = cond (same_way l m) true (other_way l m)

-- a number by its last 16 bits, and the mark of a line: by the middle between its ends, so that it is the same either way round
unfoldable pub low_of : ℤ → ℕ
low_of z = cond (z <? pos 0) (65536 - nat_abs z % 65536) (nat_abs z % 65536)

unfoldable pub mark_of : Row → ℕ
mark_of l = ((low_of l.b + low_of l.d) * 31 + (low_of l.c + low_of l.e) * 1237) % marks

-- ---- one stroke more

-- so many lines are kept of `count`
unfoldable pub kept_of : ℕ → ℕ
kept_of count = cond (ltb count most) count most

-- one of the first n slots has the ends of l
unfoldable pub among : List ℤ → ℕ → Row → Bool
among kept zero l = false
among kept (suc n) l = cond (same l (row_at kept (n * 5))) true (among kept n l)

-- of `count` lines the one that was last of l's mark is still kept, and one of those that are kept has the ends of l
unfoldable pub sought_of : List ℤ → ℕ → ℕ → Row → Bool
sought_of kept count last l = cond (eqb last 0) false (cond (ltb count (added last most)) (among kept (kept_of count) l) false)

unfoldable pub sought_in : List ℤ → Row → Bool
sought_in kept l = sought_of kept (size_at kept count_at) (size_at kept (marked_at + mark_of l)) l

-- a count as a number of the list
unfoldable pub number_of : ℕ → ℤ
number_of n = cond (leb n 9223372036854775807) (pos n) (pos 9223372036854775807)

unfoldable pub kept_with : List ℤ → Row → List ℤ
kept_with kept l =
    let next = number_of (added (size_at kept count_at) 1) in
    set (set (with_row l (size_at kept count_at % most * 5) kept) count_at next) (marked_at + mark_of l) next

unfoldable pub again_of : List ℤ → Row → List ℤ
again_of kept l =
    let more = set kept twice_at (number_of (added (size_at kept twice_at) 1)) in
    cond (eqb (size_at kept twice_at) 0) (with_row l first_at more) more

-- a dot changes nothing, nor does a stroke in a list without room
unfoldable pub painted_of : List ℤ → Row → List ℤ
painted_of kept l =
    cond (ltb (length kept) room) kept (cond (other_way l l) kept (cond (sought_in kept l) (again_of (kept_with kept l) l) (kept_with kept l)))

-- strokes one after the other
unfoldable pub painted_all : List ℤ → List Row → List ℤ
painted_all kept [] = kept
painted_all kept (l ∷ ls) = painted_all (painted_of kept l) ls

unfoldable pub told_of : List ℤ → Repeats
told_of kept = cond (ltb (length kept) room) (record { twice = 0; first = row (pos 0) (pos 0) (pos 0) (pos 0) (pos 0) }) (record { twice = size_at kept twice_at; first = row_at kept first_at })
