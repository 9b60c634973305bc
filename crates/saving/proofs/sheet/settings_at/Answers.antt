-- The proof of `settings_at`: by its parts.
use mathlib.Core.Path.{refl}
use Rattle.saved.specs.Saved.{settings_at}
use Rattle.saving.proofs.sheet.settings_at.Goals as goal

pub returns : goal.returns
unfolding settings_at
returns c =
    simp (c.row_at.ensures, c.row_at-2.ensures, c.row_at-3.ensures, c.row_at-4.ensures, c.settings_of.ensures) refl
