-- An instruction as a person writes it, and the events that it is to have.
use Rattle.std.specs.Prelude.{◌≡◌, List, [], ◌∷◌, ◌++◌, ℕ, T, ℤ, Some}
use Prim.Native.Char.{code}
use Rattle.numerals.specs.declared.number.Number.{Number}
use Rattle.reader.specs.declared.Coordinates.{Coordinates}
use Rattle.reader.specs.declared.Numbers.{Numbers}
use Rattle.reader.specs.declared.Event.{Event}
use Rattle.reader.specs.declared.Event.TheVariants.{Pair, Ended}
use Rattle.numerals.specs.Marks.{read_numeral}
use Rattle.mnemonics.specs.Table.{first_letter, second_letter, cell_of}
use Rattle.reader.specs.Reader.{none_of, stored_of}
use Rattle.numerals.specs.Numeral.{Numeral, text, Digits, decimals, some, value_of}

-- The two letters of an instruction.
abbrev pub one : ℕ → ℕ
one op = cell_of op first_letter

abbrev pub two : ℕ → ℕ
two op = cell_of op second_letter

abbrev pub letters : ℕ → List ℕ
letters op = one op ∷ two op ∷ []

-- A number that is written out, and its value.
pub record Literal : Type 0 where
  pub numeral : Numeral
  pub value : ℤ
  pub written : T (some (text numeral))
  pub whole : Digits numeral.whole
  pub fraction : Digits (decimals numeral.fraction)
  pub good : value_of numeral ≡ Some value

-- The numbers between commas, and a semicolon.
abbrev pub printed : List Literal → List ℕ
printed [] = code ";" ∷ []
printed (l ∷ []) = text l.numeral ++ (code ";" ∷ [])
printed (l ∷ m ∷ ls) = text l.numeral ++ (code "," ∷ printed (m ∷ ls))

-- The numbers that the instruction has kept after them.
abbrev pub numbers_from : Numbers → List Literal → Numbers
numbers_from ns [] = ns
numbers_from ns (l ∷ ls) = numbers_from (stored_of ns l.value) ls

-- The number that the reader has read last after them.
abbrev pub last_from : Number → List Literal → Number
last_from n [] = n
last_from n (l ∷ ls) = last_from (read_numeral l.numeral) ls

-- Pairs, printed as numbers are, and the events of their ends: an instruction that ends with a pair has no further event.
pub record Two : Type 0 where
  pub x : Literal
  pub y : Literal

abbrev pub coordinates : Two → Coordinates
coordinates p = record { x = p.x.value; y = p.y.value }

abbrev pub flat : List Two → List Literal
flat [] = []
flat (p ∷ ps) = p.x ∷ p.y ∷ flat ps

abbrev pub pairs : ℕ → List Two → List Event
pairs op [] = Ended op none_of ∷ []
pairs op (p ∷ []) = Pair (coordinates p) ∷ []
pairs op (p ∷ q ∷ ps) = Pair (coordinates p) ∷ pairs op (q ∷ ps)
