-- A number as it is read, mark by mark. What a whole text is worth, and that it comes out so, stands in Numerals.
use Rattle.std.specs.Prelude.{Option, None, Some, ℕ, ◌+◌, ◌*◌, Bool, true, false, cond, ℤ, pos, neg_ℤ, leb, ltb, eqb}
use Rattle.numerals.specs.declared.number.Number.{Number}

-- "It is kept in ten-thousandths": four decimals are kept.
abbrev pub places : ℕ
places = 4

-- Of those past the fourth it is kept where they stand against a half of it, in the count of decimals: they are below a half, a half so far, or above.
abbrev pub below : ℕ
below = 5

abbrev pub half : ℕ
half = 6

abbrev pub above : ℕ
above = 7

-- with one digit more past the fourth
unfoldable pub past_of : ℕ → ℕ → ℕ
past_of k d = cond (eqb k places) (cond (ltb d 5) below (cond (eqb d 5) half above)) (cond (eqb k half) (cond (eqb d 0) half above) k)

-- "Range −32768.0000 to 32767.9999": the largest magnitudes above and below zero. `in-range` (NumeralLaws.antt) ties them to the numbers of 16 bits.
abbrev pub top : ℕ
top = 327679999

abbrev pub bottom : ℕ
bottom = 327680000

-- At most a sign.
unfoldable pub start_of : Bool → Number
start_of negative = record { negative = negative; filled = false; pointed = false; decimals = 0; magnitude = 0 }

-- With its point.
unfoldable pub point_of : Number → Number
point_of n =
    record { negative = n.negative; filled = n.filled; pointed = true; decimals = n.decimals; magnitude = n.magnitude }

-- With k decimals and the magnitude m; with a digit, or with none.
abbrev pub so_far_of : Number → Bool → ℕ → ℕ → Number
so_far_of n filled k m =
    record { negative = n.negative; filled = filled; pointed = n.pointed; decimals = k; magnitude = m }

-- With a digit, k decimals and the magnitude m.
unfoldable pub counted_of : Number → ℕ → ℕ → Number
counted_of n k m = so_far_of n true k m

-- With one digit more. The magnitude is that of the digits without the point; once it is out of range it stays.
unfoldable pub digit_of : Number → ℕ → Number
digit_of n d =
    cond (leb places n.decimals) (counted_of n (past_of n.decimals d) n.magnitude)
    (cond (ltb bottom n.magnitude) (counted_of n n.decimals n.magnitude)
    (cond n.pointed (counted_of n (n.decimals + 1) (n.magnitude * 10 + d))
    (counted_of n n.decimals (n.magnitude * 10 + d))))

-- What the last of k decimals counts for: "it is kept in ten-thousandths".
unfoldable pub unit_of : ℕ → ℕ
unit_of k = cond (eqb k 0) 10000 (cond (eqb k 1) 1000 (cond (eqb k 2) 100 (cond (eqb k 3) 10 1)))

unfoldable pub ten_thousandths : Number → ℕ
ten_thousandths n = n.magnitude * unit_of n.decimals

unfoldable pub signed_of : Bool → ℕ → ℤ
signed_of negative m = cond negative (neg_ℤ (pos m)) (pos m)

unfoldable pub largest_of : Bool → ℕ
largest_of negative = cond negative bottom top

-- "the nearest ten-thousandth, a half going to the larger number": one more of the magnitude above a half, and for a half itself where more is the larger number
unfoldable pub carry_of : Bool → ℕ → ℕ
carry_of negative k = cond (eqb k above) 1 (cond (eqb k half) (cond negative 0 1) 0)

unfoldable pub nearest_of : Number → ℕ
nearest_of n = ten_thousandths n + carry_of n.negative n.decimals

-- Its value where it ends, in ten-thousandths: "at least one digit", and in the range.
unfoldable pub finish_of : Number → Option ℤ
finish_of n =
    cond n.filled
    (cond (leb (nearest_of n) (largest_of n.negative)) (Some (signed_of n.negative (nearest_of n))) None)
    None
