-- Some lists of words, and what they ask for, computed from the definitions.
use Rattle.std.specs.Prelude.{true, List, [], ◌∷◌, ◌≡◌, refl, ℕ, pos, neg_ℤ}
use Rattle.exact.specs.Whole.{◌<?◌, ◌≤?◌}
use Rattle.exact.specs.Int16.{int16}
use Rattle.hpgl.specs.Trace.{bytes, bytes_from}
use Rattle.textlines.specs.Word.{is_digit, value_from, digits_of, whole_of}
use Rattle.arguments.specs.Names.{same, sheet_named}
use Rattle.arguments.specs.Request as R

-- no words
pub none : R.asked_of [] ≡ R.begun_of
unfolding R.asked_of R.words_from R.ended_of
none = refl

pub curling :
    R.asked_of (bytes "--sheet" ∷ bytes "curling" ∷ bytes "--scale" ∷ bytes "20" ∷ bytes "rink.hpgl" ∷ [])
    ≡ record {
      outcome = R.run;
      at = 4;
      next = R.anything;
      given = 4;
      limits = record { left = neg_ℤ (pos 22860); bottom = neg_ℤ (pos 2500); right = pos 22860; top = pos 2500 };
      scale = 20;
      scaled = true;
      file = 5;
    }
unfolding R.asked_of R.words_from R.ended_of R.taken_of R.option_of R.plain_of R.sheet_option R.scale_option R.sheet_of R.scale_of R.scale_number R.file_of same sheet_named bytes bytes_from whole_of digits_of value_from is_digit ◌<?◌
curling = refl

-- a file stands before, between or after the limits
pub hockey :
    (R.asked_of (bytes "-30000" ∷ bytes "-15000" ∷ bytes "rink.hpgl" ∷ bytes "30000" ∷ bytes "15000" ∷ [])).limits
    ≡ (R.asked_of (bytes "--sheet" ∷ bytes "hockey" ∷ [])).limits
unfolding R.asked_of R.words_from R.ended_of R.taken_of R.option_of R.plain_of R.sheet_option R.sheet_of R.limit_of R.placed_of R.right_of R.top_of R.file_of same sheet_named bytes bytes_from whole_of digits_of value_from is_digit ◌<?◌ ◌≤?◌ int16
hockey = refl

-- what a list comes to, and the word that decides
abbrev decides : List (List ℕ) → ℕ × ℕ
decides words = ((R.asked_of words).outcome, (R.asked_of words).at)

-- the second word is wrong, whatever follows
pub another-sheet : decides (bytes "--sheet" ∷ bytes "hokey" ∷ bytes "--help" ∷ []) ≡ (R.no_sheet, 2)
unfolding R.asked_of R.words_from R.ended_of R.taken_of R.option_of R.sheet_option R.sheet_of same sheet_named bytes bytes_from
another-sheet = refl

-- the right of the limits is not above the left
pub swapped : decides (bytes "30000" ∷ bytes "0" ∷ bytes "-30000" ∷ []) ≡ (R.not_above, 3)
unfolding R.asked_of R.words_from R.ended_of R.taken_of R.option_of R.plain_of R.limit_of R.placed_of R.right_of same bytes bytes_from whole_of digits_of value_from is_digit ◌<?◌ ◌≤?◌ int16
swapped = refl

-- three limits: the last of them is told
pub three : decides (bytes "0" ∷ bytes "0" ∷ bytes "100" ∷ bytes "rink.hpgl" ∷ []) ≡ (R.fewer, 3)
unfolding R.asked_of R.words_from R.ended_of R.taken_of R.option_of R.plain_of R.limit_of R.placed_of R.right_of R.file_of same bytes bytes_from whole_of digits_of value_from is_digit ◌<?◌ ◌≤?◌ int16
three = refl
