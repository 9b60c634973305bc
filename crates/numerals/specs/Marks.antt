-- A number's text, read mark by mark.
use Rattle.std.specs.Prelude.{ℕ, Bool, true, false, List, [], ◌∷◌}
use Rattle.numerals.specs.declared.number.Number.{Number}
use Rattle.numerals.specs.Number.{start_of, point_of, digit_of}
use Rattle.numerals.specs.Numeral.{Sign, bare, plus, minus, Fraction, none, point, Numeral}

abbrev pub negative : Sign → Bool
negative bare = false
negative plus = false
negative minus = true

-- The number after all marks of a numeral, one after the other.
abbrev pub read_digits : Number → List ℕ → Number
read_digits n [] = n
read_digits n (d ∷ ds) = read_digits (digit_of n d) ds

abbrev pub read_fraction : Number → Fraction → Number
read_fraction n none = n
read_fraction n (point ds) = read_digits (point_of n) ds

abbrev pub read_numeral : Numeral → Number
read_numeral t = read_fraction (read_digits (start_of (negative t.sign)) t.whole) t.fraction
