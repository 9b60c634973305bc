-- Whole numbers in decimal, as lists of ASCII codes.
use Rattle.std.specs.Prelude.{cond, List, [], ◌∷◌, ◌++◌, ℕ, zero, suc, ◌+◌, ◌/◌, ◌%◌, ltb, ℤ, pos, negsuc, nat_abs}
use Prim.Native.Char.{code}

-- the code of a digit
abbrev pub digit : ℕ → ℕ
digit d = code "0" + d

-- the digits of n, of which there are at most k, the first no zero
unfoldable pub digits_within : ℕ → ℕ → List ℕ
digits_within zero n = []
digits_within (suc k) n = cond (ltb n 10) (digit n ∷ []) (digits_within k (n / 10) ++ (digit (n % 10) ∷ []))

-- n has at most n + 1 digits
unfoldable pub decimal : ℕ → List ℕ
decimal n = digits_within (suc n) n

-- two digits, and four, in any case
abbrev pub two : ℕ → List ℕ
two n = digit (n / 10) ∷ digit (n % 10) ∷ []

abbrev pub four : ℕ → List ℕ
four n = two (n / 100) ++ two (n % 100)

-- a number that is not below 0, and the byte after it
unfoldable pub natural : ℕ → ℕ → List ℕ
natural n byte = decimal n ++ (byte ∷ [])

abbrev pub sign : ℤ → List ℕ
sign (pos n) = []
sign (negsuc n) = code "-" ∷ []

-- any number, and the byte after it
unfoldable pub whole : ℤ → ℕ → List ℕ
whole z byte = sign z ++ natural (nat_abs z) byte
