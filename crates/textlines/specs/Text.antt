-- The lines that the program strokes prints (document 01, at the end of "Checked figures"), as lists of ASCII codes.
use Rattle.std.specs.Prelude.{ℕ, zero, suc, ◌+◌, ◌*◌, ◌%◌, ◌^◌, cond, List, [], ◌∷◌, ◌++◌, ℤ, pos, slice_index_or, unsigned_abs}
use Prim.Native.Char.{code}
use Rattle.exact.specs.Whole.{◌≡?◌}
use Rattle.decimals.specs.Decimal.{natural, whole}

abbrev pub line_end : ℕ
line_end = 10

-- "prints pen, x0, y0, x1, y1 a line"
unfoldable pub stroke_text : ℤ → ℤ → ℤ → ℤ → ℤ → List ℕ
stroke_text pen x0 y0 x1 y1 = whole pen (code " ") ++ whole x0 (code " ") ++ whole y0 (code " ") ++ whole x1 (code " ") ++ whole y1 line_end

-- the line of the i-th five numbers of a list
abbrev pub stroke_at : List ℤ → ℕ → List ℕ
stroke_at numbers i =
    stroke_text (slice_index_or numbers (i * 5) (pos 0)) (slice_index_or numbers (i * 5 + 1) (pos 0)) (slice_index_or numbers (i * 5 + 2) (pos 0)) (slice_index_or numbers (i * 5 + 3) (pos 0))
    (slice_index_or numbers (i * 5 + 4) (pos 0))

-- "or E, number, byte counted from 1"
unfoldable pub refusal_text : ℕ → ℕ → List ℕ
refusal_text refused byte = (code "E" ∷ code " " ∷ []) ++ natural refused (code " ") ++ natural byte line_end

-- The line of the i-th five numbers as a mark: a stroke's, or where the pen is 0 that of a refusal, [0, number, place, 0, 0]. The place is counted from 1
-- and follows `before` bytes; the sum is one of 64 bits.
unfoldable pub mark_at : ℕ → List ℤ → ℕ → List ℕ
mark_at before numbers i =
    cond (slice_index_or numbers (i * 5) (pos 0) ≡? pos 0)
    (refusal_text (unsigned_abs (slice_index_or numbers (i * 5 + 1) (pos 0))) ((before + unsigned_abs (slice_index_or numbers (i * 5 + 2) (pos 0))) % 2 ^ 64))
    (stroke_at numbers i)

-- the lines of the first k marks
unfoldable pub marks_below : ℕ → List ℤ → ℕ → List ℕ
marks_below before numbers zero = []
marks_below before numbers (suc k) = marks_below before numbers k ++ mark_at before numbers k

-- a line has at most so many bytes: five numbers of at most 20, each with a byte after it
abbrev pub longest : ℕ
longest = 105
