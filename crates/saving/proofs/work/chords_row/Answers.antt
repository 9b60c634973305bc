-- The proof of `chords_row`: each part is a number of the row.
use Rattle.exact.proofs.Rules.{rules}
use Rattle.saved.specs.Saved.{chords_row}
use Rattle.saving.proofs.work.chords_row.Goals as goal

pub returns : goal.returns
unfolding chords_row
returns c =
    search (rules, ← c.whole.ensures, ← c.whole-2.ensures, ← c.whole-3.ensures)
