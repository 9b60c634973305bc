-- The proof of `blank_row`: each part is a number of the row.
use Rattle.exact.proofs.Rules.{rules}
use Rattle.saved.specs.Saved.{blank_row}
use Rattle.saving.proofs.work.blank_row.Goals as goal

pub returns : goal.returns
unfolding blank_row
returns c = search rules
