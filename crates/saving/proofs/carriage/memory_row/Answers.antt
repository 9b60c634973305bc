-- The proof of `memory_row`: each part is a number of the row.
use Rattle.exact.proofs.Rules.{rules}
use Rattle.saved.specs.Saved.{memory_row}
use Rattle.saving.proofs.carriage.memory_row.Goals as goal

pub returns : goal.returns
unfolding memory_row
returns c =
    search (rules, ← c.whole.ensures)
