-- The proof of `count_row`: each part is a number of the row.
use Rattle.exact.proofs.Rules.{rules}
use Rattle.saved.specs.Saved.{count_row}
use Rattle.saving.proofs.work.count_row.Goals as goal

pub returns : goal.returns
unfolding count_row
returns c =
    search (rules, ← c.whole.ensures)
