-- The reader as three rows of numbers, and read back. What a readable reader is written as, is read as that reader.
use Rattle.std.specs.Prelude.{◌≡◌, refl, cond, List, [], ℕ, ◌≤◌, eqb, ℤ, pos}
use Rattle.std.proofs.Common.{ap₂, ◌∙◌, arith, lit≤}
use Rattle.rows.specs.declared.Row.{Row}
use Rattle.rows.specs.Rows.{row, lay, row_at, flag_number, flag_of, place_number, small_of, most_byte, most_word}
use Rattle.rows.specs.RowLaws.{flag-back, small-back, place-back}
use Rattle.numerals.specs.declared.number.Number.{Number}
use Rattle.reader.specs.declared.Numbers.{Numbers}
use Rattle.reader.specs.declared.Mode.{Mode}
use Rattle.reader.specs.declared.Mode.TheVariants.{Idle, First, Parameters, InNumber, PassOver, Label}
use Rattle.reader.specs.declared.Reader.{Reader}
use Rattle.reader.specs.Sizes.{SmallMode, SmallNumber, Small, Readable}

-- ---- where it is

unfoldable pub mode_tag : Mode → ℕ
mode_tag Idle = 0
mode_tag (First a) = 1
mode_tag Parameters = 2
mode_tag InNumber = 3
mode_tag PassOver = 4
mode_tag Label = 5

unfoldable pub mode_letter : Mode → ℕ
mode_letter Idle = 0
mode_letter (First a) = a
mode_letter Parameters = 0
mode_letter InNumber = 0
mode_letter PassOver = 0
mode_letter Label = 0

unfoldable pub mode_of : ℕ → ℕ → Mode
mode_of tag a =
    cond (eqb tag 1) (First a)
    (cond (eqb tag 2) Parameters
    (cond (eqb tag 3) InNumber
    (cond (eqb tag 4) PassOver
    (cond (eqb tag 5) Label
    Idle))))

unfoldable pub place_row : Mode → ℕ → Row
place_row m op = row (pos (mode_tag m)) (pos (mode_letter m)) (place_number op) (pos 0) (pos 0)

-- ---- its numbers

unfoldable pub numbers_row : Numbers → Row
numbers_row n = row (pos n.count) n.first n.second n.third n.fourth

unfoldable pub numbers_of : Row → Numbers
numbers_of r = record { count = small_of most_byte r.a; first = r.b; second = r.c; third = r.d; fourth = r.e }

unfoldable pub number_row : Number → Row
number_row n = row (flag_number n.negative) (flag_number n.filled) (flag_number n.pointed) (pos n.decimals) (pos n.magnitude)

unfoldable pub number_of : Row → Number
number_of r = record {
  negative = flag_of r.a;
  filled = flag_of r.b;
  pointed = flag_of r.c;
  decimals = small_of most_byte r.d;
  magnitude = small_of most_word r.e;
}

-- ---- the reader

abbrev pub reader_then : Reader → List ℤ → List ℤ
reader_then r zs = lay (place_row r.mode r.op) (lay (numbers_row r.numbers) (lay (number_row r.number) zs))

unfoldable pub reader_numbers : Reader → List ℤ
reader_numbers r = reader_then r []

unfoldable pub reader_of : Row → Row → Row → Reader
reader_of place numbers number = record {
  mode = mode_of (small_of most_byte place.a) (small_of most_byte place.b);
  op = small_of most_byte place.c;
  numbers = numbers_of numbers;
  number = number_of number;
}

unfoldable pub reader_at : List ℤ → Reader
reader_at zs = reader_of (row_at zs 0) (row_at zs 5) (row_at zs 10)

-- ---- what was written is read back

mode-back : (m : Mode) → mode_of (mode_tag m) (mode_letter m) ≡ m
unfolding mode_tag mode_letter mode_of
mode-back Idle = refl
mode-back (First a) = refl
mode-back Parameters = refl
mode-back InNumber = refl
mode-back PassOver = refl
mode-back Label = refl

tag_small : (m : Mode) → mode_tag m ≤ most_byte
unfolding mode_tag
tag_small Idle = lit≤ tt
tag_small (First a) = lit≤ tt
tag_small Parameters = lit≤ tt
tag_small InNumber = lit≤ tt
tag_small PassOver = lit≤ tt
tag_small Label = lit≤ tt

letter-small : (m : Mode) → SmallMode m → mode_letter m ≤ most_byte
unfolding mode_letter
letter-small Idle h = lit≤ tt
letter-small (First a) h = h
letter-small Parameters h = lit≤ tt
letter-small InNumber h = lit≤ tt
letter-small PassOver h = lit≤ tt
letter-small Label h = lit≤ tt

numbers-back : (n : Numbers) → Small n → numbers_of (numbers_row n) ≡ n
unfolding numbers_row numbers_of
numbers-back n h = λ i. record {
  count = small-back most_byte n.count (omega (arith, h.count)) i;
  first = n.first;
  second = n.second;
  third = n.third;
  fourth = n.fourth;
}

number-back : (n : Number) → SmallNumber n → number_of (number_row n) ≡ n
unfolding number_row number_of
number-back n h = λ i. record {
  negative = flag-back n.negative i;
  filled = flag-back n.filled i;
  pointed = flag-back n.pointed i;
  decimals = small-back most_byte n.decimals (omega (arith, h.decimals)) i;
  magnitude = small-back most_word n.magnitude (omega (arith, h.magnitude)) i;
}

-- the reader at the start of a list
pub reader-back : (r : Reader) (zs : List ℤ) → Readable r → reader_at (reader_then r zs) ≡ r
unfolding reader_at reader_of row_at place_row numbers_row number_row
reader-back r zs h = λ i. record {
  mode = (ap₂ mode_of (small-back most_byte (mode_tag r.mode) (tag_small r.mode)) (small-back most_byte (mode_letter r.mode) (letter-small r.mode h.mode)) ∙ mode-back r.mode) i;
  op = place-back r.op (omega (arith, h.op)) i;
  numbers = numbers-back r.numbers h.numbers i;
  number = number-back r.number h.number i;
}
