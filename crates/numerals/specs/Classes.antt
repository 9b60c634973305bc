-- The class of each of the 256 bytes, listed from byte 0 on beside document 01's sentences, and computed.
use Rattle.std.specs.Prelude.{◌≡◌, refl, Bool, true, false, List, [], ◌∷◌, ◌++◌, ℕ, zero, suc, ◌+◌, replicate}
use Rattle.numerals.specs.declared.bytes.Class.{Class}
use Rattle.numerals.specs.declared.bytes.Class.TheVariants.{Blank, Semicolon, Letter, Digit, Sign, Point, Other}
use Rattle.numerals.specs.Bytes.{low_class_of, is_digit, class_of}

-- n bytes of no other class
abbrev others : ℕ → List Class
others n = replicate n Other

-- "A letter may be of either case": both stand for the capital, A being 65
abbrev letters : List Class
letters =
    Letter 65 ∷ Letter 66 ∷ Letter 67 ∷ Letter 68 ∷ Letter 69 ∷ Letter 70 ∷ Letter 71 ∷ Letter 72 ∷ Letter 73 ∷ Letter 74 ∷ Letter 75 ∷ Letter 76 ∷ Letter 77 ∷
    Letter 78 ∷ Letter 79 ∷ Letter 80 ∷ Letter 81 ∷ Letter 82 ∷ Letter 83 ∷ Letter 84 ∷ Letter 85 ∷ Letter 86 ∷ Letter 87 ∷ Letter 88 ∷ Letter 89 ∷ Letter 90 ∷ []

abbrev digits : List Class
digits = Digit 0 ∷ Digit 1 ∷ Digit 2 ∷ Digit 3 ∷ Digit 4 ∷ Digit 5 ∷ Digit 6 ∷ Digit 7 ∷ Digit 8 ∷ Digit 9 ∷ []

-- "Blank is 9, 10, 13, 32 or a comma": 44. The plus is 43, the minus 45, the point 46, the semicolon 59; digits begin at 48, letters at 65 and at 97
abbrev pub classes : List Class
classes =
    others 9 ++ (Blank ∷ Blank ∷ [])
    ++ others 2 ++ (Blank ∷ [])
    ++ others 18 ++ (Blank ∷ [])
    ++ others 10 ++ (Sign false ∷ Blank ∷ Sign true ∷ Point ∷ [])
    ++ others 1 ++ digits
    ++ others 1 ++ (Semicolon ∷ [])
    ++ others 5 ++ letters
    ++ others 6 ++ letters
    ++ others 133

-- what f says of n bytes from b on
abbrev listed : (A : Type 0) → (ℕ → A) → ℕ → ℕ → List A
listed A f b zero = []
listed A f b (suc n) = f b ∷ listed A f (b + 1) n

pub classes-said : listed Class class_of 0 256 ≡ classes
unfolding low_class_of class_of
classes-said = refl

pub digits-said : listed Bool is_digit 0 256 ≡ replicate 48 false ++ replicate 10 true ++ replicate 198 false
unfolding is_digit
digits-said = refl
