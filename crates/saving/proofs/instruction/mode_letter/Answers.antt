-- The proof of `mode_letter`: only the first letter of an instruction is kept.
use Rattle.exact.proofs.Rules.{rules}
use Rattle.std.proofs.Common.{◌≡◌, refl, ℕ}
use Rattle.reader.specs.declared.Mode.{Mode}
use Rattle.reader.specs.declared.Mode.TheVariants.{Idle, First, Parameters, InNumber, PassOver, Label}
use Rattle.saved.specs.SavedReader.{mode_letter}
use Rattle.saving.proofs.instruction.mode_letter.Goals as goal

none : (m : Mode) → ((a : ℕ) → m ≡ First a → ⊥) → 0 ≡ mode_letter m
unfolding mode_letter
none Idle h = refl
none (First a) h = absurd (h a refl)
none Parameters h = refl
none InNumber h = refl
none PassOver h = refl
none Label h = refl

pub returns-in-First : goal.returns-in-First
unfolding mode_letter
returns-in-First c = search (rules, c.in-First.is)

pub returns-in_default : goal.returns-in_default
returns-in_default c = none c.args.mode c.in_default.not-First
