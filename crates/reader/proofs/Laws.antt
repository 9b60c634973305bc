-- The laws of the reader, for a person to read beside document 01. Each is proved in the file that its proof names.
use Rattle.std.specs.Prelude.{◌≡◌, true, false, List, [], ◌∷◌, ◌++◌, ℕ, ◌<◌, T, length}
use Prim.Native.Char.{code}
use Rattle.numerals.specs.declared.number.Number.{Number}
use Rattle.reader.specs.declared.Numbers.{Numbers}
use Rattle.reader.specs.declared.Event.TheVariants.{Nothing, Named, Ended, Refused}
use Rattle.reader.specs.declared.Mode.TheVariants.{Idle, Parameters, InNumber, Label}
use Rattle.reader.specs.declared.Reader.{Reader}
use Rattle.numerals.specs.Number.{finish_of}
use Rattle.mnemonics.specs.Table.{rows, count_fits, takes_pairs}
use Rattle.reader.specs.Reader.{unknown, label_end, none_of, fresh_reader}
use Rattle.reader.specs.Step.{step_of, passed_over}
use Rattle.numerals.specs.Numeral.{Numeral, text, Digits, decimals, some, value_of}
use Rattle.numerals.specs.Marks.{read_numeral}
use Rattle.reader.specs.Stream.{reader, ◌telling◌, Means, NoEnd}
use Rattle.reader.specs.Written.{letters, Literal, printed, numbers_from, last_from, Two, flat, pairs}
use Rattle.reader.specs.Sizes.{Caused, Readable, SizedStep}
use Rattle.numerals.proofs.NumeralLaws.{numeral-value}
use Rattle.reader.proofs.TextLaws.{numeral-text, label-byte, label-end, label-whole}
use Rattle.reader.proofs.InstructionLaws.{instruction-of-numbers, instruction-of-pairs}
use Rattle.reader.specs.CauseLaws.{step-caused}
use Rattle.reader.proofs.SizeLaws.{fresh-readable, step-sized, passed-over-readable}

-- A number's text of any length, mark by mark, comes to the value that a person reads in it.
pub number-law : (t : Numeral) → Digits (decimals t.fraction) → finish_of (read_numeral t) ≡ value_of t
number-law = numeral-value

-- In an instruction with no number open, the bytes of a number's text open that number, and mean nothing yet.
pub number-text-law :
    (op : ℕ) (ns : Numbers) (last : Number) (t : Numeral)
    → T (some (text t))
    → Digits t.whole
    → Digits (decimals t.fraction)
    → Means (reader op ns Parameters last) (text t) [] (reader op ns InNumber (read_numeral t))
number-text-law = numeral-text

-- An instruction that takes no pairs, written with as many numbers as the table allows: its name, then its end with them.
pub numbers-law :
    (o : ℕ) (ns : Numbers) (last : Number) (op : ℕ)
    → op < rows
    → (ls : List Literal)
    → takes_pairs op ≡ false
    → count_fits op (length ls) ≡ true
    → Means (reader o ns Idle last) (letters op ++ printed ls) (Named op ∷ Ended op (numbers_from none_of ls) ∷ [])
    (reader op (numbers_from none_of ls) Idle (last_from last ls))
numbers-law = instruction-of-numbers

-- An instruction that takes pairs, written with any number of them: its name, then the pairs in order.
pub pairs-law :
    (o : ℕ) (ns : Numbers) (last : Number) (op : ℕ)
    → op < rows
    → (ps : List Two)
    → takes_pairs op ≡ true
    → Means (reader o ns Idle last) (letters op ++ printed (flat ps)) (Named op ∷ pairs op ps) (reader op none_of Idle (last_from last (flat ps)))
pairs-law = instruction-of-pairs

-- "LB is refused with 1 on its B; its text, to and including byte 3, is passed over." In a label every byte but 3 leaves the
-- reader as it is, and 3 leads to between instructions.
pub label-byte-law : (op : ℕ) (ns : Numbers) (n : Number) (b : ℕ) → (b ≡ label_end → ⊥) → step_of (reader op ns Label n) b ≡ reader op ns Label n telling Nothing
label-byte-law = label-byte

pub label-end-law : (op : ℕ) (ns : Numbers) (n : Number) → step_of (reader op ns Label n) label_end ≡ reader op ns Idle n telling Nothing
label-end-law = label-end

pub label-law :
    (op : ℕ) (ns : Numbers) (n : Number) (bs : List ℕ)
    → NoEnd bs
    → Means (reader op ns Idle n) (code "L" ∷ code "B" ∷ (bs ++ (label_end ∷ []))) (Refused unknown ∷ []) (reader op ns Idle n)
label-law = label-whole

-- Whatever the reader and the byte, a refusal has the number 1, 2 or 3.
pub cause-law : (r : Reader) (b : ℕ) → Caused (step_of r b).event
cause-law = step-caused

-- Sizes: fresh's reader is readable, and so is every reader after it; what a byte means is of its size.
pub fresh-law : Readable fresh_reader
fresh-law = fresh-readable

pub step-law : (r : Reader) → Readable r → (b : ℕ) → SizedStep (step_of r b)
step-law = step-sized

pub passed-over-law : (r : Reader) → Readable r → Readable (passed_over r)
passed-over-law = passed-over-readable
