-- The proof of `edges_row`: each part is a number of the row.
use Rattle.exact.proofs.Rules.{rules}
use Rattle.saved.specs.Saved.{edges_row}
use Rattle.saving.proofs.work.edges_row.Goals as goal

pub returns : goal.returns
unfolding edges_row
returns c =
    search (rules, ← c.whole.ensures, ← c.whole-2.ensures)
