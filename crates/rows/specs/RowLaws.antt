-- What is written is read back.
use Rattle.std.specs.Prelude.{◌≡◌, refl, Bool, true, false, List, [], ◌∷◌, ℕ, suc, ◌+◌, ◌≤◌, ℤ, pos, length, set}
use Rattle.std.proofs.Common.{ap, ◌∙◌, arith, suc-add, le-leb}
use Rattle.exact.specs.Whole.{◌<?◌, ◌≤?◌}
use Rattle.rows.specs.declared.Row.{Row}
use Rattle.rows.specs.Rows.{over, lay, row_at, with_row, flag_number, flag_of, place_number, small_of, most_byte}

-- ---- numbers

pub flag-back : (t : Bool) → flag_of (flag_number t) ≡ t
unfolding flag_of flag_number ◌<?◌
flag-back true = refl
flag-back false = refl

pub small-back : (most n : ℕ) → n ≤ most → small_of most (pos n) ≡ n
unfolding small_of ◌≤?◌
small-back most n h = rw (le-leb 0 n (omega arith), le-leb n most h) refl

pub place-back : (n : ℕ) → n ≤ most_byte → small_of most_byte (place_number n) ≡ n
unfolding place_number
place-back n h = rw (le-leb n most_byte h) (small-back most_byte n h)

-- ---- lists

over-cons : {A : Type 0} (x : A) (xs : List A) (i : ℕ) (ys : List A) → over (x ∷ xs) (suc i) ys ≡ x ∷ over xs i ys
unfolding over
over-cons x xs i [] = refl
over-cons x xs i (y ∷ ys) = rw (suc-add i 1) (over-cons x (set xs i y) (i + 1) ys)

-- a list written over one as long is all that is left
pub over-all : {A : Type 0} (xs ys : List A) → length xs ≡ length ys → over xs 0 ys ≡ ys
unfolding over
over-all [] [] e = refl
over-all [] (y ∷ ys) e = absurd (omega arith)
over-all (x ∷ xs) [] e = absurd (omega arith)
over-all (x ∷ xs) (y ∷ ys) e = over-cons y xs 0 ys ∙ ap (λ (r : List _). y ∷ r) (over-all xs ys (omega arith))

-- a row, and then others
pub over-row : (r : Row) (zs : List ℤ) (i : ℕ) (ys : List ℤ) → over zs i (lay r ys) ≡ over (with_row r i zs) (i + 5) ys
unfolding over with_row
over-row r zs i ys =
    let two : i + 1 + 1 ≡ i + 2 = omega arith in
    let three : i + 1 + 1 + 1 ≡ i + 3 = omega arith in
    let four : i + 1 + 1 + 1 + 1 ≡ i + 4 = omega arith in
    let five : i + 1 + 1 + 1 + 1 + 1 ≡ i + 5 = omega arith in
    λ x. over (set (set (set (set (set zs i r.a) (i + 1) r.b) (two x) r.c) (three x) r.d) (four x) r.e) (five x) ys

-- a row that is written at the start of a list, read there
pub row_back : (r : Row) (zs : List ℤ) → 5 ≤ length zs → row_at (over zs 0 (lay r [])) 0 ≡ r
unfolding over row_at
row_back r [] h = absurd (omega (arith, h))
row_back r (a ∷ []) h = absurd (omega (arith, h))
row_back r (a ∷ b ∷ []) h = absurd (omega (arith, h))
row_back r (a ∷ b ∷ c ∷ []) h = absurd (omega (arith, h))
row_back r (a ∷ b ∷ c ∷ d ∷ []) h = absurd (omega (arith, h))
row_back r (a ∷ b ∷ c ∷ d ∷ e ∷ zs) h = refl
