-- The proof of `line_row`: each part is a number of the row.
use Rattle.exact.proofs.Rules.{rules}
use Rattle.saved.specs.Saved.{line_row}
use Rattle.saving.proofs.work.line_row.Goals as goal

pub returns : goal.returns
unfolding line_row
returns c = search rules
