-- Escape sequences between instructions. The manual, chapter 13: "the three-character sequence consisting of ESC and . followed by the character or uppercase letter indicating its
-- function (e.g., @, A, or Z). Some instructions also include parameters and a terminator": a semicolon "separates parameters", a colon "terminates any instruction that uses
-- parameters", and otherwise "the first byte of another instruction" ends it. The machine does not know them: it refuses their bytes and reads on.
use Rattle.std.specs.Prelude.{Bool, true, false, cond, List, [], ◌∷◌, ℕ, eqb, ltb}
use Prim.Native.Char.{code}
use Rattle.numerals.specs.declared.bytes.Class.{Class}
use Rattle.numerals.specs.declared.bytes.Class.TheVariants.{Blank, Semicolon, Letter, Digit, Sign, Point, Other}
use Rattle.numerals.specs.Bytes.{class_of}
use Rattle.console.specs.Sums.{added}
use Rattle.scanning.specs.declared.escapes.Escapes.{Escapes}

abbrev pub esc : ℕ
esc = 27

-- How far one is read. 0: between instructions: at the beginning, after a semicolon and after a sequence. 1: anywhere else, up to a semicolon. 2: after ESC. 3: after ESC and a
-- point. 4: after the letter that it is for, which the machine takes for the first of a name. 5: after @, ( or ), and in the numbers

unfoldable pub between_class : Class → ℕ
between_class Blank = 0
between_class Semicolon = 0
between_class (Letter l) = 1
between_class (Digit d) = 1
between_class (Sign s) = 1
between_class Point = 1
between_class Other = 1

unfoldable pub between : ℕ → ℕ
between b = cond (eqb b esc) 2 (between_class (class_of b))

unfoldable pub elsewhere : ℕ → ℕ
elsewhere b = cond (eqb b (code ";")) 0 1

unfoldable pub point : ℕ → ℕ
point b = cond (eqb b (code ".")) 3 1

unfoldable pub purpose_class : Class → ℕ
purpose_class Blank = 1
purpose_class Semicolon = 1
purpose_class (Letter l) = 4
purpose_class (Digit d) = 1
purpose_class (Sign s) = 1
purpose_class Point = 1
purpose_class Other = 1

unfoldable pub purpose : ℕ → ℕ
purpose b = cond (eqb b (code "@")) 5 (cond (eqb b (code "(")) 5 (cond (eqb b (code ")")) 5 (purpose_class (class_of b))))

-- a letter is the next instruction's; a blank ends the sequence too, as a line's end does
unfoldable pub numbers_class : Class → ℕ
numbers_class Blank = 0
numbers_class Semicolon = 5
numbers_class (Letter l) = 1
numbers_class (Digit d) = 5
numbers_class (Sign s) = 1
numbers_class Point = 1
numbers_class Other = 1

unfoldable pub numbers : ℕ → ℕ
numbers b = cond (eqb b esc) 2 (cond (eqb b (code ":")) 0 (numbers_class (class_of b)))

unfoldable pub after : ℕ → ℕ → ℕ
after state b =
    cond (eqb state 0) (between b) (cond (eqb state 1) (elsewhere b) (cond (eqb state 2) (point b) (cond (eqb state 3) (purpose b) (numbers b))))

-- a byte belongs to a sequence: one is open after it, or ends with it
unfoldable pub belongs : ℕ → ℕ → Bool
belongs state b = cond (ltb 1 (after state b)) true (cond (ltb 3 state) (eqb (after state b) 0) false)

-- a sequence is broken off: no point or no purpose follows; or a letter follows the letter that it is for, and the machine takes the two for a name
unfoldable pub breaks : ℕ → ℕ → Bool
breaks state next = cond (ltb state 2) false (cond (ltb 4 state) false (eqb next 1))

unfoldable pub one_more : ℕ → ℕ → ℕ → ℕ
one_more count state next = cond (breaks state next) (added count 1) count

abbrev pub no_escapes : Escapes
no_escapes = record { state = 0; broken = 0 }

unfoldable pub escapes_from : ℕ → ℕ → List ℕ → Escapes
escapes_from state broken [] = record { state = state; broken = broken }
escapes_from state broken (b ∷ bs) = escapes_from (after state b) (one_more broken state (after state b)) bs

unfoldable pub escapes_in : Escapes → List ℕ → Escapes
escapes_in e bytes = escapes_from e.state e.broken bytes

-- one that the end of the input cuts short is broken off too
unfoldable pub broken_at_end : Escapes → ℕ
broken_at_end e = cond (eqb e.state 2) (added e.broken 1) (cond (eqb e.state 3) (added e.broken 1) e.broken)
