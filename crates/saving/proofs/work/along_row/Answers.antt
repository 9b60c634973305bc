-- The proof of `along_row`: each part is a number of the row.
use Rattle.exact.proofs.Rules.{rules}
use Rattle.saved.specs.Saved.{along_row}
use Rattle.saving.proofs.work.along_row.Goals as goal

pub returns : goal.returns
unfolding along_row
returns c = search rules
