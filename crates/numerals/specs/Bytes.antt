-- The classes of bytes, by their ASCII codes. No rule of what a byte does stands here.
use Rattle.std.specs.Prelude.{ℕ, ◌-◌, Bool, true, false, cond, ◌||◌, List, leb, ltb, eqb, length, get_or}
use Prim.Native.Char.{code}
use Rattle.numerals.specs.declared.bytes.Class.{Class}
use Rattle.numerals.specs.declared.bytes.Class.TheVariants.{Blank, Semicolon, Letter, Digit, Sign, Point, Other}

-- From a capital to its small letter.
abbrev pub case : ℕ
case = 32

-- A byte below the digits. "Blank is 9, 10, 13, 32 or a comma." A sign is told by whether it is a minus.
unfoldable pub low_class_of : ℕ → Class
low_class_of b =
    cond (eqb b 9 || eqb b 10 || eqb b 13 || eqb b 32 || eqb b (code ",")) Blank
    (cond (eqb b (code "+")) (Sign false)
    (cond (eqb b (code "-")) (Sign true)
    (cond (eqb b (code ".")) Point
    Other)))

unfoldable pub is_digit : ℕ → Bool
is_digit b = cond (ltb b (code "0")) false (leb b (code "9"))

-- Whether a byte stands at a place.
unfoldable pub is_at : List ℕ → ℕ → ℕ → Bool
is_at s at b = cond (ltb at (length s)) (eqb (get_or s at 0) b) false

-- Any byte, upwards from the digits. "A letter may be of either case": it is told by its capital.
unfoldable pub class_of : ℕ → Class
class_of b =
    cond (ltb b (code "0")) (low_class_of b)
    (cond (leb b (code "9")) (Digit (b - code "0"))
    (cond (eqb b (code ";")) Semicolon
    (cond (ltb b (code "A")) Other
    (cond (leb b (code "Z")) (Letter b)
    (cond (ltb b (code "a")) Other
    (cond (leb b (code "z")) (Letter (b - case))
    Other))))))
