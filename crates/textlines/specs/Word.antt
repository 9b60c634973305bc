-- Words that are whole numbers: an optional minus, then at least one digit.
use Rattle.std.specs.Prelude.{ℕ, ◌+◌, ◌-◌, ◌*◌, Bool, true, false, cond, List, [], ◌∷◌, ℤ, pos, neg_ℤ, ◌==◌, nat_le, nat_lt, Option, None, Some}
use Prim.Native.Char.{code}
use Rattle.clip.specs.declared.Rect.{Rect}

unfoldable pub is_digit : ℕ → Bool
is_digit byte = cond (nat_lt byte (code "0")) false (nat_le byte (code "9"))

-- a number is read on while it is below this one, so that it stays within 64 bits
abbrev pub too_large : ℕ
too_large = 100000000000000000

abbrev pub signed : Bool → ℕ → ℤ
signed true n = neg_ℤ (pos n)
signed false n = pos n

-- the digits from here on, with those before them worth n
unfoldable pub value_from : Bool → ℕ → List ℕ → Option ℤ
value_from minus n [] = Some (signed minus n)
value_from minus n (byte ∷ bytes) =
    cond (is_digit byte) (cond (nat_lt n too_large) (value_from minus (n * 10 + (byte - code "0")) bytes) None) None

unfoldable pub digits_of : Bool → List ℕ → Option ℤ
digits_of minus [] = None
digits_of minus (byte ∷ bytes) = value_from minus 0 (byte ∷ bytes)

unfoldable pub whole_of : List ℕ → Option ℤ
whole_of [] = None
whole_of (byte ∷ bytes) = cond (byte == (code "-")) (digits_of true bytes) (digits_of false (byte ∷ bytes))

-- limits are four numbers
abbrev with_number : Option ℤ → (ℤ → Option Rect) → Option Rect
with_number (Some z) next = next z
with_number None next = None

unfoldable pub limits_of : Option ℤ → Option ℤ → Option ℤ → Option ℤ → Option Rect
limits_of left bottom right top =
    with_number left (λ l. with_number bottom (λ b. with_number right (λ r. with_number top (λ t. Some (record { left = l; bottom = b; right = r; top = t })))))
