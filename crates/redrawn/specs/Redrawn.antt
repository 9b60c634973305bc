-- A list of strokes as HP-GL: document 02, CR 6, a definition beside each of its sentences. What is claimed of the text stands in RoundTrip.antt and Shortest.antt.
use Rattle.std.specs.Prelude.{Bool, true, cond, ◌&&◌, List, [], ◌∷◌, ◌++◌, ℕ, zero, suc, ◌+◌, ◌*◌, ◌/◌, leb, eqb, ℤ, length, drop, Result, Ok, Err}
use Prim.Native.Char.{code}
use Rattle.exact.specs.Int16.{int16}
use Rattle.rows.specs.declared.Row.{Row}
use Rattle.rows.specs.Rows.{row_at, small_of, most_byte}
use Rattle.decimals.specs.Decimal.{natural, whole}
use Rattle.hpgl.specs.declared.Stroke.{Stroke}
use Rattle.hpgl.specs.Numbers.{most_pen}
use Rattle.redrawn.specs.declared.Refusal.{Refusal}
use Rattle.redrawn.specs.declared.Refusal.TheVariants.{NotWritable, TooShort}

-- ---- "Pens are 1 to 8 and ends −32768 to 32767."

abbrev pub least_pen : ℕ
least_pen = 1

unfoldable pub is_pen : ℕ → Bool
is_pen p = leb least_pen p && leb p most_pen

unfoldable pub writable : Stroke → Bool
writable s = is_pen s.pen && int16 s.x0 && int16 s.y0 && int16 s.x1 && int16 s.y1

unfoldable pub all_writable : List Stroke → Bool
all_writable [] = true
all_writable (s ∷ ss) = writable s && all_writable ss

-- ---- "Write a stroke list as HP-GL: `IN;`, then for each stroke `SPp;` if it is the first or its pen differs from the one before, and `PUx0,y0;PDx1,y1;`, numbers
-- as short as they go." Those of the crate decimals are: `shortest` (Shortest.antt)

unfoldable pub pen_text : ℕ → List ℕ
pen_text p = code "S" ∷ code "P" ∷ natural p (code ";")

-- PU or PD, by its second letter, to a point
unfoldable pub move_text : ℕ → ℤ → ℤ → List ℕ
move_text letter x y = code "P" ∷ letter ∷ (whole x (code ",") ++ whole y (code ";"))

unfoldable pub line_text : Stroke → List ℕ
line_text s = move_text (code "U") s.x0 s.y0 ++ move_text (code "D") s.x1 s.y1

-- "if .. its pen differs from the one before"
unfoldable pub change_text : ℕ → ℕ → List ℕ
change_text before p = cond (eqb p before) [] (pen_text p)

-- a stroke after one with the pen `before`
unfoldable pub stroke_text : ℕ → Stroke → List ℕ
stroke_text before s = change_text before s.pen ++ line_text s

-- and any number of them
unfoldable pub strokes_text : ℕ → List Stroke → List ℕ
strokes_text before [] = []
strokes_text before (s ∷ ss) = stroke_text before s ++ strokes_text s.pen ss

-- "if it is the first"
unfoldable pub all_text : List Stroke → List ℕ
all_text [] = []
all_text (s ∷ ss) = (pen_text s.pen ++ line_text s) ++ strokes_text s.pen ss

abbrev pub start_text : List ℕ
start_text = code "I" ∷ code "N" ∷ code ";" ∷ []

unfoldable pub text_of : List Stroke → List ℕ
text_of ss = start_text ++ all_text ss

-- ---- "(32: a stroke with another pen or end. 33: output too short. 32 first; both write nothing.)"

abbrev pub not_writable : ℕ
not_writable = 32

abbrev pub too_short : ℕ
too_short = 33

-- whether an output of so many bytes has room
unfoldable pub fits_in : List Stroke → ℕ → Bool
fits_in ss room = leb (length (text_of ss)) room

-- 0 for none
unfoldable pub number_of : List Stroke → ℕ → ℕ
number_of ss room = cond (all_writable ss) (cond (fits_in ss room) 0 too_short) not_writable

-- and by what is refused
abbrev pub refusal_number : Refusal → ℕ
refusal_number NotWritable = not_writable
refusal_number TooShort = too_short

-- the answer by its number: so many bytes, or why none are
abbrev pub answered_by : ℕ → ℕ → Result ℕ Refusal
answered_by number n = cond (eqb number 0) (Ok n) (cond (eqb number too_short) (Err TooShort) (Err NotWritable))

-- the answer: bytes written, or why none are
unfoldable pub written_of : List Stroke → ℕ → Result ℕ Refusal
written_of ss room = answered_by (number_of ss room) (length (text_of ss))

-- an answer as two numbers: bytes written, and 02's number
abbrev pub length_in : Result ℕ Refusal → ℕ
length_in (Ok n) = n
length_in (Err r) = 0

abbrev pub number_in : Result ℕ Refusal → ℕ
number_in (Ok n) = 0
number_in (Err r) = refusal_number r

-- the output after it: "Output past the text stays."
unfoldable pub output_of : List Stroke → List ℕ → List ℕ
output_of ss out = cond (eqb (number_of ss (length out)) 0) (text_of ss ++ drop (length (text_of ss)) out) out

-- ---- strokes as numbers, five for each: pen, x0, y0, x1, y1. A number that is no byte stands for the pen 0, which is refused. What is left of a row counts for nothing

abbrev pub numbers_each : ℕ
numbers_each = 5

unfoldable pub stroke_at : List ℤ → ℕ → Stroke
stroke_at numbers i =
    let r : Row = row_at numbers (i * numbers_each) in
    record { pen = small_of most_byte r.a; x0 = r.b; y0 = r.c; x1 = r.d; y1 = r.e }

-- k of them, from the i-th on
unfoldable pub strokes_from : List ℤ → ℕ → ℕ → List Stroke
strokes_from numbers i zero = []
strokes_from numbers i (suc k) = stroke_at numbers i ∷ strokes_from numbers (i + 1) k

unfoldable pub strokes_in : List ℤ → List Stroke
strokes_in numbers = strokes_from numbers 0 (length numbers / numbers_each)
