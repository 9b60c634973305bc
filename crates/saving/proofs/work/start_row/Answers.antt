-- The proof of `start_row`: each part is a number of the row.
use Rattle.exact.proofs.Rules.{rules}
use Rattle.saved.specs.Saved.{start_row}
use Rattle.saving.proofs.work.start_row.Goals as goal

pub returns : goal.returns
unfolding start_row
returns c = search rules
