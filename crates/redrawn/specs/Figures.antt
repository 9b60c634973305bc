-- What the definitions write: the worked examples of document 02's CR 6, computed. Strokes stand as numbers, five for each; the output held sevens before.
use Rattle.std.specs.Prelude.{List, [], ◌∷◌, ◌++◌, ◌≡◌, refl, ℕ, ◌-◌, ℤ, pos, neg_ℤ, length, replicate}
use Prim.Native.String.{String}
use Rattle.exact.specs.Whole.{◌≤?◌}
use Rattle.exact.specs.Int16.{int16}
use Rattle.rows.specs.Rows.{row_at, small_of}
use Rattle.decimals.specs.Decimal.{digits_within, decimal, natural, whole}
use Rattle.hpgl.specs.Trace.{bytes_from, bytes}
use Rattle.redrawn.specs.Redrawn.{is_pen, writable, all_writable, pen_text, move_text, line_text, change_text, stroke_text, strokes_text, all_text, text_of, fits_in, number_of, written_of, length_in, number_in, output_of, stroke_at, strokes_from, strokes_in}

-- numbers, how long the output is, the text and the number
pub data Row : Type 0 where
  row : List ℤ → ℕ → String → ℕ → Row

-- the answer, as bytes written and the number, and the output after it
pub data Told : Type 0 where
  told : ℕ → ℕ → List ℕ → Told

abbrev seven : ℕ
seven = 7

abbrev pub answered : List Row → List Told
answered [] = []
answered (row zs room text n ∷ rows) =
    told (length_in (written_of (strokes_in zs) room)) (number_in (written_of (strokes_in zs) room)) (output_of (strokes_in zs) (replicate room seven)) ∷ answered rows

abbrev pub said : List Row → List Told
said [] = []
said (row zs room text n ∷ rows) = told (length (bytes text)) n (bytes text ++ replicate (room - length (bytes text)) seven) ∷ said rows

abbrev minus : ℕ → ℤ
minus n = neg_ℤ (pos n)

-- pen, x0, y0, x1, y1, and then others
abbrev stroke : ℕ → ℤ → ℤ → ℤ → ℤ → List ℤ → List ℤ
stroke p x0 y0 x1 y1 zs = pos p ∷ x0 ∷ y0 ∷ x1 ∷ y1 ∷ zs

abbrev line : ℕ → ℕ → ℕ → ℕ → ℕ → List ℤ → List ℤ
line p x0 y0 x1 y1 zs = stroke p (pos x0) (pos y0) (pos x1) (pos y1) zs

abbrev pub table : List Row
table =
    -- an empty list; 33
    row [] 3 "IN;" 0
    ∷ row [] 2 "" 33
    -- room to spare, just enough, and one byte too few
    ∷ row (line 1 0 0 5 5 []) 100 "IN;SP1;PU0,0;PD5,5;" 0
    ∷ row (line 1 0 0 5 5 []) 19 "IN;SP1;PU0,0;PD5,5;" 0
    ∷ row (line 1 0 0 5 5 []) 18 "" 33
    -- the same pen: no second SP, and strokes that meet are not joined
    ∷ row (line 1 0 0 5 5 (line 1 5 5 9 9 [])) 100 "IN;SP1;PU0,0;PD5,5;PU5,5;PD9,9;" 0
    -- SP at each change, back too
    ∷ row (line 1 0 0 5 5 (line 2 5 5 9 9 (line 1 0 0 1 1 []))) 100 "IN;SP1;PU0,0;PD5,5;SP2;PU5,5;PD9,9;SP1;PU0,0;PD1,1;" 0
    -- the ends of the range; a minus only below zero
    ∷ row (stroke 8 (minus 32768) (pos 32767) (pos 32767) (minus 32768) []) 100 "IN;SP8;PU-32768,32767;PD32767,-32768;" 0
    -- dots
    ∷ row (stroke 3 (pos 7) (minus 7) (pos 7) (minus 7) []) 100 "IN;SP3;PU7,-7;PD7,-7;" 0
    ∷ row (line 3 0 0 0 0 (line 3 0 0 0 0 [])) 100 "IN;SP3;PU0,0;PD0,0;PU0,0;PD0,0;" 0
    -- 32: another pen, before 33; another end, of a later stroke too
    ∷ row (line 0 0 0 5 5 []) 100 "" 32
    ∷ row (line 9 0 0 5 5 []) 0 "" 32
    ∷ row (line 1 0 0 5 5 (line 1 32768 0 5 5 [])) 100 "" 32
    ∷ row (stroke 1 (pos 0) (minus 32769) (pos 5) (pos 5) []) 100 "" 32
    ∷ row (line 1 0 0 5 40000 []) 100 "" 32
    -- a pen that is no byte
    ∷ row (minus 1 ∷ pos 0 ∷ pos 0 ∷ pos 5 ∷ pos 5 ∷ []) 100 "" 32
    ∷ row (line 257 0 0 5 5 []) 100 "" 32
    -- what is left of a row counts for nothing
    ∷ row (line 1 0 0 5 5 (pos 1 ∷ pos 2 ∷ pos 3 ∷ pos 4 ∷ [])) 100 "IN;SP1;PU0,0;PD5,5;" 0
    ∷ []

pub figures : answered table ≡ said table
unfolding ◌≤?◌ int16 row_at small_of digits_within decimal natural whole bytes_from bytes is_pen writable all_writable pen_text move_text line_text change_text stroke_text strokes_text all_text text_of fits_in number_of written_of output_of stroke_at strokes_from strokes_in
figures = refl
