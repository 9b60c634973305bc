-- The proof of `reader_at`: by its rows.
use mathlib.Core.Path.{refl}
use Rattle.saved.specs.SavedReader.{reader_at}
use Rattle.saving.proofs.instruction.reader_at.Goals as goal

pub returns : goal.returns
unfolding reader_at
returns c = simp (c.reader_of.ensures, c.row_at-3.ensures, c.row_at-2.ensures, c.row_at.ensures) refl
