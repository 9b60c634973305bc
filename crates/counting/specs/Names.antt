-- The name of what is refused, from the bytes before it.
use Rattle.std.specs.Prelude.{Option, Some, None, cond, List, [], ◌∷◌, ℕ, zero, suc, ◌-◌, eqb, ltb, leb, get_or}
use Prim.Native.Char.{code}
use Rattle.counting.specs.declared.names.Letters.{Letters}

abbrev pub letters : ℕ → ℕ → Letters
letters a b = record { first = a; second = b }

-- a byte that belongs to no name
abbrev pub unnamed : Letters
unnamed = letters (code "?") (code "?")

-- a byte of an escape sequence
abbrev pub escaped : Letters
escaped = letters (code "^") (code "[")

-- "A letter may be of either case": as a capital; 0 for any other byte
unfoldable pub letter_of : ℕ → ℕ
letter_of b = cond (ltb b (code "A")) 0 (cond (leb b (code "Z")) b (cond (ltb b (code "a")) 0 (cond (leb b (code "z")) (b - 32) 0)))

-- a letter, if it is one
unfoldable pub seen : ℕ → Option ℕ
seen zero = None
seen (suc n) = Some (suc n)

-- the letter before the place n, which counts the bytes before it; 0 where there is none
unfoldable pub letter_before : List ℕ → ℕ → ℕ
letter_before bytes zero = 0
letter_before bytes (suc n) = letter_of (get_or bytes n 0)

-- the place after the last letter of the first n bytes; 0 where there is none
unfoldable pub letter_end : List ℕ → ℕ → ℕ
letter_end bytes zero = 0
letter_end bytes (suc n) = cond (eqb (letter_before bytes (suc n)) 0) (letter_end bytes n) (suc n)

-- where the last letter of the first n bytes stands, and the letter
unfoldable pub last_letter : List ℕ → ℕ → Option (ℕ × ℕ)
last_letter bytes zero = None
last_letter bytes (suc n) = cond (eqb (letter_before bytes (suc n)) 0) (last_letter bytes n) (Some (n, letter_before bytes (suc n)))

-- how many of the first n bytes stand before the first letter
unfoldable pub letterless : ℕ → List ℕ → ℕ
letterless zero bytes = 0
letterless (suc n) [] = 0
letterless (suc n) (b ∷ bytes) = cond (eqb (letter_of b) 0) (suc (letterless n bytes)) 0

-- the last two letters of the first n bytes; l is for those before these bytes
unfoldable pub two_letters : Letters → List ℕ → ℕ → ℕ → Letters
two_letters l bytes end start =
    cond (eqb start 0) (letters l.second (letter_before bytes end)) (letters (letter_before bytes start) (letter_before bytes end))

unfoldable pub letters_before : Letters → List ℕ → ℕ → Letters
letters_before l bytes n =
    cond (eqb (letter_end bytes n) 0) l (two_letters l bytes (letter_end bytes n) (letter_end bytes (letter_end bytes n - 1)))

-- what is refused, with a number, on the last of the first n bytes: with 1 the name that a letter completes, and nobody's where the byte is no
-- letter; with another number the instruction that is being read, whose name is the last two letters
unfoldable pub name_of : Letters → Letters → List ℕ → ℕ → ℕ → Letters
name_of l nobody bytes n number =
    cond (eqb number 1)
    (cond (eqb (letter_before bytes n) 0) nobody (letters (letters_before l bytes (n - 1)).second (letter_before bytes n)))
    (letters_before l bytes (n - 1))
