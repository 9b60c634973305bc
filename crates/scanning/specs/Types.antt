-- Line types that have numbers: LT, blanks, and then a digit, a sign or a point. LT alone sets whole lines, which is what is painted.
-- Names are read as the machine reads them: two letters, the second directly after the first. (The text of a label is not told apart: a drawing with one is not fit anyway.)
use Rattle.std.specs.Prelude.{cond, List, [], ◌∷◌, ℕ, eqb}
use Prim.Native.Char.{code}
use Rattle.numerals.specs.declared.bytes.Class.{Class}
use Rattle.numerals.specs.declared.bytes.Class.TheVariants.{Blank, Semicolon, Letter, Digit, Sign, Point, Other}
use Rattle.numerals.specs.Bytes.{class_of}
use Rattle.console.specs.Sums.{added}
use Rattle.scanning.specs.declared.Types.{Types}

-- how far a name is read. 0: no letter of it. 1: a first letter other than L. 2: an L. 3: LT, and blanks. 4: the first byte of LT's first number
unfoldable pub first_letter : ℕ → ℕ
first_letter l = cond (eqb l (code "L")) 2 1

unfoldable pub second_letter : ℕ → ℕ
second_letter l = cond (eqb l (code "T")) 3 0

unfoldable pub letter_after : ℕ → ℕ → ℕ
letter_after mode l = cond (eqb mode 1) 0 (cond (eqb mode 2) (second_letter l) (first_letter l))

unfoldable pub blank_after : ℕ → ℕ
blank_after mode = cond (eqb mode 3) 3 0

unfoldable pub number_after : ℕ → ℕ
number_after mode = cond (eqb mode 3) 4 0

unfoldable pub class_after : ℕ → Class → ℕ
class_after mode Blank = blank_after mode
class_after mode Semicolon = 0
class_after mode (Letter l) = letter_after mode l
class_after mode (Digit d) = number_after mode
class_after mode (Sign s) = number_after mode
class_after mode Point = number_after mode
class_after mode Other = 0

unfoldable pub type_after : ℕ → ℕ → ℕ
type_after mode b = class_after mode (class_of b)

unfoldable pub one_more : ℕ → ℕ → ℕ
one_more count mode = cond (eqb mode 4) (added count 1) count

abbrev pub no_types : Types
no_types = record { mode = 0; count = 0 }

unfoldable pub types_from : ℕ → ℕ → List ℕ → Types
types_from mode count [] = record { mode = mode; count = count }
types_from mode count (b ∷ bs) = types_from (type_after mode b) (one_more count (type_after mode b)) bs

unfoldable pub types_in : Types → List ℕ → Types
types_in t bytes = types_from t.mode t.count bytes
