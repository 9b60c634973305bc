-- A number's text and its value, as a person reads them: no state, no order of reading. That the reader comes to this value
-- stands in NumeralLaws.
use Rattle.std.specs.Prelude.{Option, None, Some, ℕ, zero, suc, ◌+◌, ◌*◌, ◌<◌, Bool, true, false, cond, ◌&&◌, List, [], ◌∷◌, ◌++◌, ℤ, pos, neg_ℤ, ◌+ℤ◌, ◌*ℤ◌, length}
use Prim.Native.Char.{code}
use Rattle.std.specs.Int.Signed.{le_z}
use Rattle.exact.specs.Divide.{nearest_div}
use Rattle.exact.specs.Int16.{least16, most16}

-- "A number is an optional sign, then digits with at most one point."
pub data Sign : Type 0 where
  bare plus minus : Sign

pub data Fraction : Type 0 where
  none : Fraction
  point : List ℕ → Fraction

pub record Numeral : Type 0 where
  pub sign : Sign
  pub whole : List ℕ
  pub fraction : Fraction

-- Its bytes.
abbrev pub sign_text : Sign → List ℕ
sign_text bare = []
sign_text plus = code "+" ∷ []
sign_text minus = code "-" ∷ []

abbrev pub digits_text : List ℕ → List ℕ
digits_text [] = []
digits_text (d ∷ ds) = (code "0" + d) ∷ digits_text ds

abbrev pub fraction_text : Fraction → List ℕ
fraction_text none = []
fraction_text (point ds) = code "." ∷ digits_text ds

abbrev pub text : Numeral → List ℕ
text n = sign_text n.sign ++ (digits_text n.whole ++ fraction_text n.fraction)

-- A list of digits.
abbrev pub Digits : List ℕ → Type 0
Digits [] = Unit {0}
Digits (d ∷ ds) = (d < 10) × Digits ds

-- What a list of digits is worth.
abbrev pub worth_from : ℕ → List ℕ → ℕ
worth_from v [] = v
worth_from v (d ∷ ds) = worth_from (v * 10 + d) ds

abbrev pub worth : List ℕ → ℕ
worth ds = worth_from 0 ds

abbrev pub decimals : Fraction → List ℕ
decimals none = []
decimals (point ds) = ds

abbrev pub signed : Sign → ℕ → ℤ
signed bare m = pos m
signed plus m = pos m
signed minus m = neg_ℤ (pos m)

-- "At least one digit."
abbrev pub some : List ℕ → Bool
some [] = false
some (d ∷ ds) = true

-- "Range −32768.0000 to 32767.9999": the numbers of 16 bits, with decimals.
abbrev pub in_range : ℤ → Bool
in_range v = le_z (least16 *ℤ pos 10000) v && le_z v (most16 *ℤ pos 10000 +ℤ pos 9999)

-- 10^k
abbrev pub ten : ℕ → ℕ
ten zero = 1
ten (suc k) = 10 * ten k

-- "A number shall be the nearest ten-thousandth, a half going to the larger number" (document 02, CR 2): of all its digits × 10,000, over 10^decimals.
abbrev pub nearest : Numeral → ℤ
nearest n =
    let ds : List ℕ = decimals n.fraction in
    nearest_div (signed n.sign (worth (n.whole ++ ds) * 10000)) (pos (ten (length ds)))

unfoldable pub value_of : Numeral → Option ℤ
value_of n =
    cond (some (n.whole ++ decimals n.fraction))
    (cond (in_range (nearest n)) (Some (nearest n)) None)
    None
