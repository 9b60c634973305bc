-- "Two letters, the second directly after the first, name an instruction; a first letter followed by anything else is refused with 1 on that byte, an unknown name with 1
-- on its second letter." Which letters name one is computed in the crate mnemonics (Said.antt).
use Rattle.std.specs.Prelude.{◌≡◌, refl, Bool, true, false, cond, ℕ, Option, None, Some}
use Rattle.std.proofs.Common.{ap, ◌∙◌}
use Rattle.numerals.specs.declared.bytes.Class.{Class}
use Rattle.numerals.specs.declared.bytes.Class.TheVariants.{Blank, Semicolon, Letter, Digit, Sign, Point, Other}
use Rattle.numerals.specs.Bytes.{class_of}
use Rattle.mnemonics.specs.Table.{find_of, is_label}
use Rattle.reader.specs.declared.Event.{Event}
use Rattle.reader.specs.declared.Event.TheVariants.{Named, Refused}
use Rattle.reader.specs.declared.Mode.{Mode}
use Rattle.reader.specs.declared.Mode.TheVariants.{First, Label}
use Rattle.reader.specs.declared.Reader.{Reader}
use Rattle.reader.specs.Reader.{go_on_of, refuse_of, begin_of}
use Rattle.reader.specs.Step.{found_of, name_of, first_of, by_mode, step_of}

-- what the byte after a first letter means: the instruction that the two letters name, or 1
abbrev pub named : Option ℕ → Event
named (Some op) = Named op
named None = Refused 1

abbrev pub after : ℕ → Class → Event
after a (Letter b) = cond (is_label a b) (Refused 1) (named (find_of a b))
after a Blank = Refused 1
after a Semicolon = Refused 1
after a (Digit d) = Refused 1
after a (Sign s) = Refused 1
after a Point = Refused 1
after a Other = Refused 1

found-event : (r : Reader) (f : Option ℕ) → (found_of r f).event ≡ named f
unfolding found_of begin_of refuse_of go_on_of
found-event r (Some op) = refl
found-event r None = refl

name-event : (r : Reader) (a b : ℕ) → (name_of r a b).event ≡ cond (is_label a b) (Refused 1) (named (find_of a b))
unfolding name_of refuse_of go_on_of
name-event r a b = go (is_label a b)
  where
    go : (t : Bool) → (cond t (refuse_of r Label 1) (found_of r (find_of a b))).event ≡ cond t (Refused 1) (named (find_of a b))
    go true = refl
    go false = found-event r (find_of a b)

first-event : (r : Reader) (a : ℕ) (k : Class) → (first_of r a k).event ≡ after a k
unfolding first_of refuse_of go_on_of
first-event r a (Letter b) = name-event r a b
first-event r a Blank = refl
first-event r a Semicolon = refl
first-event r a (Digit d) = refl
first-event r a (Sign s) = refl
first-event r a Point = refl
first-event r a Other = refl

pub second-byte : (r : Reader) (a b : ℕ) → r.mode ≡ First a → (step_of r b).event ≡ after a (class_of b)
unfolding step_of by_mode
second-byte r a b e = ap (λ (m : Mode). (by_mode r b m).event) e ∙ first-event r a (class_of b)
