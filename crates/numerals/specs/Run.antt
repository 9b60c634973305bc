-- Digits in a run: those of a number before its point, taken together; and all of a number at a place, with its sign and decimals. What they come to is
-- what their bytes come to one by one.
use Rattle.std.specs.Prelude.{ℕ, ◌+◌, ◌*◌, ◌-◌, Bool, false, cond, List, [], ◌∷◌, leb, ltb, eqb, length, drop, get_or}
use Prim.Native.Char.{code}
use Rattle.numerals.specs.declared.number.Number.{Number}
use Rattle.numerals.specs.declared.number.Run.{Run}
use Rattle.numerals.specs.declared.number.Scanned.{Scanned}
use Rattle.numerals.specs.Bytes.{is_digit, is_at}
use Rattle.numerals.specs.Number.{places, bottom, start_of, point_of, counted_of, digit_of}

-- How far a byte stands from the digit 0: its value if it is a digit, more than 9 if not. One below the digits is counted on from 2^32.
unfoldable pub from_zero : ℕ → ℕ
from_zero b = cond (ltb b (code "0")) (b + 4294967248) (b - code "0")

-- 1 for a digit that is at least so large, 0 for one below.
unfoldable pub reached_of : ℕ → ℕ → ℕ
reached_of d least = cond (ltb d least) 0 1

-- The run that ends at a place.
abbrev pub ended : ℕ → ℕ → Run
ended m at = record { magnitude = m; at = at }

-- The digits from a place on, as long as the magnitude counts them.
unfoldable pub run_of : ℕ → List ℕ → ℕ → Run
run_of m [] at = ended m at
run_of m (b ∷ bs) at =
    cond (is_digit b)
    (cond (ltb bottom m) (ended m at) (run_of (m * 10 + (b - code "0")) bs (at + 1)))
    (ended m at)

-- Whether the next digit counts, and is no decimal.
unfoldable pub counts_whole : Number → Bool
counts_whole n = cond n.pointed false (cond (leb places n.decimals) false (leb n.magnitude bottom))

-- With the digits of a run, and the place after them.
abbrev pub with_run : Number → Run → Scanned
with_run n r = record { number = counted_of n n.decimals r.magnitude; at = r.at }

-- With the digit at a place, and with those after it that count, where it has no point.
unfoldable pub scanned_of : Number → List ℕ → ℕ → Scanned
scanned_of n s at =
    cond (counts_whole n) (with_run n (run_of n.magnitude (drop at s) at))
    (record { number = digit_of n (get_or s at 0 - code "0"); at = at + 1 })

-- ---- a number at a place

-- How many bytes a minus takes.
unfoldable pub minus_length : ℕ → ℕ
minus_length b = cond (eqb b (code "-")) 1 0

-- The sign and the digits before a point. Where there is no digit, the number has none.
abbrev pub whole_from : Bool → ℕ → Run → Scanned
whole_from negative first r =
    record {
      number = record { negative = negative; filled = ltb first r.at; pointed = false; decimals = 0; magnitude = r.magnitude };
      at = r.at;
    }

unfoldable pub whole_at : List ℕ → ℕ → Scanned
whole_at s at =
    let first = at + minus_length (get_or s at 0) in
    whole_from (eqb (get_or s at 0) (code "-")) first (run_of 0 (drop first s) first)

-- With all the digits from a place on.
unfoldable pub digits_from : Number → List ℕ → ℕ → Scanned
digits_from n [] at = record { number = n; at = at }
digits_from n (b ∷ bs) at = cond (is_digit b) (digits_from (digit_of n (b - code "0")) bs (at + 1)) (record { number = n; at = at })

-- A point, where one follows, with its decimals.
unfoldable pub fraction_of : List ℕ → Scanned → Scanned
fraction_of s w = cond (is_at s w.at (code ".")) (digits_from (point_of w.number) (drop (w.at + 1) s) (w.at + 1)) w

-- The number at a place, as far as it goes.
unfoldable pub number_at : List ℕ → ℕ → Scanned
number_at s at = cond (ltb at (length s)) (fraction_of s (whole_at s at)) (record { number = start_of false; at = at })
