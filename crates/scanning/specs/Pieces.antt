-- Pieces of a drawing within which no other pen is taken, and of which all bytes belong to escape sequences or none does. SP is the one instruction that takes a pen, and it is
-- carried out on the byte that ends it: so from one S to the end of its instruction each byte is a piece, and so is each byte of an escape sequence. All other bytes are one piece up
-- to the next S or ESC.
use Rattle.std.specs.Prelude.{Bool, true, false, cond, List, [], ◌∷◌, ℕ, suc, eqb, ltb}
use Prim.Native.Char.{code}
use Rattle.numerals.specs.declared.bytes.Class.{Class}
use Rattle.numerals.specs.declared.bytes.Class.TheVariants.{Blank, Semicolon, Letter, Digit, Sign, Point, Other}
use Rattle.numerals.specs.Bytes.{class_of}
use Rattle.scanning.specs.Escapes.{esc}

unfoldable pub is_s : ℕ → Bool
is_s b = cond (eqb b (code "S")) true (eqb b (code "s"))

-- "carried out on the byte that ends it, a semicolon or the first letter of the next one"
unfoldable pub ends_class : Class → Bool
ends_class Blank = false
ends_class Semicolon = true
ends_class (Letter l) = true
ends_class (Digit d) = false
ends_class (Sign s) = false
ends_class Point = false
ends_class Other = false

unfoldable pub ends_of : ℕ → Bool
ends_of b = ends_class (class_of b)

-- 0: no S is open. 1: an S was the last byte. 2: the byte after it is read too, and the instruction that it may belong to is not ended
unfoldable pub mode_after : ℕ → ℕ → ℕ
mode_after mode b = cond (is_s b) 1 (cond (eqb mode 0) 0 (cond (eqb mode 1) 2 (cond (ends_of b) 0 2)))

-- what is read byte by byte begins
unfoldable pub stops : ℕ → Bool
stops b = cond (is_s b) true (eqb b esc)

-- so many bytes stand before the first of these, or all
unfoldable pub up_to : List ℕ → ℕ
up_to [] = 0
up_to (b ∷ bs) = cond (stops b) 0 (suc (up_to bs))

unfoldable pub one_at_least : ℕ → ℕ
one_at_least n = cond (eqb n 0) 1 n

-- 2 and more: an escape sequence is open (Escapes)
unfoldable pub piece_of : ℕ → ℕ → List ℕ → ℕ
piece_of mode escape bytes = cond (eqb mode 0) (cond (ltb 1 escape) 1 (one_at_least (up_to bytes))) 1
