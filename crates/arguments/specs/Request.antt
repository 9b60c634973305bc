-- What a program is asked for by its arguments, word by word: limits, as four numbers or by the name of a sheet, a scale, a file, help or the version; or
-- which word is wrong, and why.
use Rattle.std.specs.Prelude.{true, false, cond, List, [], ◌∷◌, ℕ, ◌+◌, eqb, ℤ, pos, neg_ℤ, nat_abs, Option, None, Some, Result, Ok, Err}
use Prim.Native.Char.{code}
use Rattle.exact.specs.Whole.{◌<?◌}
use Rattle.exact.specs.Int16.{int16}
use Rattle.clip.specs.declared.Rect.{Rect}
use Rattle.hpgl.specs.Trace.{bytes}
use Rattle.textlines.specs.Word.{whole_of}
use Rattle.arguments.specs.declared.Wrong.{Wrong}
use Rattle.arguments.specs.declared.Wrong.TheVariants as wrong
use Rattle.arguments.specs.declared.Request.{Request}
use Rattle.arguments.specs.Names.{same, sheet_named}

-- ---- outcomes: a run, a text that is asked for, or why a word is wrong

abbrev pub run : ℕ
run = 0

abbrev pub help : ℕ
help = 1

abbrev pub version : ℕ
version = 2

-- begins with a minus and is no option, or is empty or too long
abbrev pub unknown : ℕ
unknown = 3

-- a limit is a number of 16 bits
abbrev pub out_of_range : ℕ
out_of_range = 4

-- the right is above the left, the top above the bottom
abbrev pub not_above : ℕ
not_above = 5

abbrev pub no_sheet : ℕ
no_sheet = 6

abbrev pub no_scale : ℕ
no_scale = 7

-- limits, scale or file are given already
abbrev pub again : ℕ
again = 8

-- the word after it is missing
abbrev pub missing : ℕ
missing = 9

-- one, two or three limits
abbrev pub fewer : ℕ
fewer = 10

-- the outcome that tells why a word is wrong
abbrev pub told : Wrong → ℕ
told wrong.Unknown = unknown
told wrong.OutOfRange = out_of_range
told wrong.NotAbove = not_above
told wrong.NoSheet = no_sheet
told wrong.NoScale = no_scale
told wrong.Again = again
told wrong.Missing = missing
told wrong.Fewer = fewer

-- what an outcome tells of a word: of a number that none has, that there is no such option
unfoldable pub tells : ℕ → Wrong
tells n =
    cond (eqb n out_of_range) wrong.OutOfRange (
    cond (eqb n not_above) wrong.NotAbove (
    cond (eqb n no_sheet) wrong.NoSheet (
    cond (eqb n no_scale) wrong.NoScale (
    cond (eqb n again) wrong.Again (
    cond (eqb n missing) wrong.Missing (
    cond (eqb n fewer) wrong.Fewer wrong.Unknown))))))

-- ---- what the next word is

abbrev pub anything : ℕ
anything = 0

abbrev pub a_sheet : ℕ
a_sheet = 1

abbrev pub a_scale : ℕ
a_scale = 2

-- ---- no word yet

-- "The program *strokes* (limits −10000,−7000,10000,7000)"
abbrev pub default_limits : Rect
default_limits = record { left = neg_ℤ (pos 10000); bottom = neg_ℤ (pos 7000); right = pos 10000; top = pos 7000 }

-- 1:40, where a unit is a millimetre on the ice
abbrev pub begun_of : Request
begun_of = record { outcome = run; at = 0; next = anything; given = 0; limits = default_limits; scale = 40; scaled = false; file = 0 }

-- ---- one part changed by the word at a place

abbrev pub decided_of : Request → ℕ → ℕ → Request
decided_of r at outcome = record {
  outcome = outcome;
  at = at;
  next = r.next;
  given = r.given;
  limits = r.limits;
  scale = r.scale;
  scaled = r.scaled;
  file = r.file;
}

abbrev pub expecting_of : Request → ℕ → ℕ → Request
expecting_of r at next = record {
  outcome = r.outcome;
  at = at;
  next = next;
  given = r.given;
  limits = r.limits;
  scale = r.scale;
  scaled = r.scaled;
  file = r.file;
}

abbrev pub bounded_of : Request → ℕ → Rect → ℕ → Request
bounded_of r at limits given = record {
  outcome = r.outcome;
  at = at;
  next = anything;
  given = given;
  limits = limits;
  scale = r.scale;
  scaled = r.scaled;
  file = r.file;
}

abbrev pub scaled_of : Request → ℕ → ℕ → Request
scaled_of r at scale = record {
  outcome = r.outcome;
  at = at;
  next = anything;
  given = r.given;
  limits = r.limits;
  scale = scale;
  scaled = true;
  file = r.file;
}

abbrev pub filed_of : Request → ℕ → Request
filed_of r at = record {
  outcome = r.outcome;
  at = r.at;
  next = r.next;
  given = r.given;
  limits = r.limits;
  scale = r.scale;
  scaled = r.scaled;
  file = at;
}

-- ---- words

-- what the code answers of a word at a place: a request, or why the word is wrong
abbrev pub settled : Request → ℕ → Result Request Wrong → Request
settled r at (Ok next) = next
settled r at (Err why) = decided_of r at (told why)

-- the third limit is above the first
unfoldable pub right_of : Request → ℕ → ℤ → Request
right_of r at z =
    let l : Rect = r.limits in
    cond (l.left <? z) (bounded_of r at (record { left = l.left; bottom = l.bottom; right = z; top = l.top }) 3) (decided_of r at not_above)

-- the fourth above the second
unfoldable pub top_of : Request → ℕ → ℤ → Request
top_of r at z =
    let l : Rect = r.limits in
    cond (l.bottom <? z) (bounded_of r at (record { left = l.left; bottom = l.bottom; right = l.right; top = z }) 4) (decided_of r at not_above)

-- the next of four limits: left, bottom, right, top
unfoldable pub placed_of : Request → ℕ → ℤ → Request
placed_of r at z =
    let l : Rect = r.limits in
    cond (eqb r.given 0) (bounded_of r at (record { left = z; bottom = l.bottom; right = l.right; top = l.top }) 1) (
    cond (eqb r.given 1) (bounded_of r at (record { left = l.left; bottom = z; right = l.right; top = l.top }) 2) (
    cond (eqb r.given 2) (right_of r at z) (
    cond (eqb r.given 3) (top_of r at z) (decided_of r at again))))

-- a number
unfoldable pub limit_of : Request → ℕ → ℤ → Request
limit_of r at z = cond (int16 z) (placed_of r at z) (decided_of r at out_of_range)

-- any other word is a file's name, if it does not begin with a minus
unfoldable pub file_of : Request → ℕ → List ℕ → Request
file_of r at [] = decided_of r at unknown
file_of r at (byte ∷ bytes) = cond (eqb byte (code "-")) (decided_of r at unknown) (cond (eqb r.file 0) (filed_of r at) (decided_of r at again))

abbrev number_or : Request → ℕ → List ℕ → Option ℤ → Request
number_or r at word (Some z) = limit_of r at z
number_or r at word None = file_of r at word

-- a word that is no option
unfoldable pub plain_of : Request → ℕ → List ℕ → Request
plain_of r at word = number_or r at word (whole_of word)

abbrev named_or : Request → ℕ → Option Rect → Request
named_or r at (Some limits) = bounded_of r at limits 4
named_or r at None = decided_of r at no_sheet

-- after --sheet
unfoldable pub sheet_of : Request → ℕ → List ℕ → Request
sheet_of r at word = named_or r at (sheet_named word)

-- a scale is a whole number from 1 to 255
unfoldable pub scale_number : Request → ℕ → ℤ → Request
scale_number r at z = cond (pos 0 <? z) (cond (z <? pos 256) (scaled_of r at (nat_abs z)) (decided_of r at no_scale)) (decided_of r at no_scale)

abbrev scale_or : Request → ℕ → Option ℤ → Request
scale_or r at (Some z) = scale_number r at z
scale_or r at None = decided_of r at no_scale

-- after --scale
unfoldable pub scale_of : Request → ℕ → List ℕ → Request
scale_of r at word = scale_or r at (whole_of word)

-- a sheet is named where no limits are given yet
unfoldable pub sheet_option : Request → ℕ → Request
sheet_option r at = cond (eqb r.given 0) (expecting_of r at a_sheet) (decided_of r at again)

unfoldable pub scale_option : Request → ℕ → Request
scale_option r at = cond r.scaled (decided_of r at again) (expecting_of r at a_scale)

-- a word after which no other is expected
unfoldable pub option_of : Request → ℕ → List ℕ → Request
option_of r at word =
    cond (same word (bytes "--help")) (decided_of r at help) (
    cond (same word (bytes "--version")) (decided_of r at version) (
    cond (same word (bytes "--sheet")) (sheet_option r at) (
    cond (same word (bytes "--scale")) (scale_option r at) (plain_of r at word))))

-- the next word, by what it is
abbrev pub word_of : ℕ → Request → ℕ → List ℕ → Request
word_of next r at word = cond (eqb next a_sheet) (sheet_of r at word) (cond (eqb next a_scale) (scale_of r at word) (option_of r at word))

-- The word at a place, counted from 1. The first word that asks for a text or is wrong decides, whatever follows it.
unfoldable pub taken_of : Request → ℕ → List ℕ → Request
taken_of r at word = cond (eqb r.outcome run) (word_of r.next r at word) r

-- limits are none or four
abbrev pub whole_limits : Request → Request
whole_limits r = cond (eqb r.given 0) r (cond (eqb r.given 4) r (decided_of r r.at fewer))

-- No word is left: an option waits for none, and limits are none or four.
unfoldable pub ended_of : Request → Request
ended_of r = cond (eqb r.outcome run) (cond (eqb r.next anything) (whole_limits r) (decided_of r r.at missing)) r

-- ---- all words

unfoldable pub words_from : Request → ℕ → List (List ℕ) → Request
words_from r at [] = ended_of r
words_from r at (word ∷ words) = words_from (taken_of r at word) (at + 1) words

unfoldable pub asked_of : List (List ℕ) → Request
asked_of words = words_from begun_of 1 words
