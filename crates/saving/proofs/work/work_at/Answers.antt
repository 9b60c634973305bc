-- The proof of `work_at`: by its parts.
use mathlib.Core.Path.{refl}
use Rattle.saved.specs.Saved.{work_at}
use Rattle.saving.proofs.work.work_at.Goals as goal

pub returns : goal.returns
unfolding work_at
returns c =
    simp (c.row_at.ensures, c.row_at-2.ensures, c.row_at-3.ensures, c.row_at-4.ensures, c.work_of.ensures) refl
