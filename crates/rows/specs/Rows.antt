-- Rows of five numbers in a list, and what one number stands for.
use Rattle.std.specs.Prelude.{ℕ, ◌+◌, Bool, cond, List, [], ◌∷◌, leb, ℤ, pos, nat_abs, get_or, set}
use Rattle.exact.specs.Whole.{◌<?◌, ◌≤?◌}
use Rattle.rows.specs.declared.Row.{Row}

abbrev pub row : ℤ → ℤ → ℤ → ℤ → ℤ → Row
row a b c d e = record { a = a; b = b; c = c; d = d; e = e }

-- the row's numbers, and then others
abbrev pub lay : Row → List ℤ → List ℤ
lay r zs = r.a ∷ r.b ∷ r.c ∷ r.d ∷ r.e ∷ zs

-- the row from the place i on
unfoldable pub row_at : List ℤ → ℕ → Row
row_at zs i = row (get_or zs i (pos 0)) (get_or zs (i + 1) (pos 0)) (get_or zs (i + 2) (pos 0)) (get_or zs (i + 3) (pos 0)) (get_or zs (i + 4) (pos 0))

unfoldable pub with_row : Row → ℕ → List ℤ → List ℤ
with_row r i zs = set (set (set (set (set zs i r.a) (i + 1) r.b) (i + 2) r.c) (i + 3) r.d) (i + 4) r.e

-- a list with another written over it from the place i on
unfoldable pub over : {A : Type 0} → List A → ℕ → List A → List A
over zs i [] = zs
over zs i (y ∷ ys) = over (set zs i y) (i + 1) ys

-- ---- numbers

abbrev pub most_byte : ℕ
most_byte = 255

abbrev pub most_short : ℕ
most_short = 65535

abbrev pub most_word : ℕ
most_word = 4294967295

unfoldable pub flag_number : Bool → ℤ
flag_number on = cond on (pos 1) (pos 0)

unfoldable pub flag_of : ℤ → Bool
flag_of z = pos 0 <? z

unfoldable pub place_number : ℕ → ℤ
place_number n = cond (leb n most_byte) (pos n) (pos 0)

-- the number, if it is at most that large
unfoldable pub small_of : ℕ → ℤ → ℕ
small_of most z = cond (pos 0 ≤? z) (cond (z ≤? pos most) (nat_abs z) 0) 0
