-- The proof of `across_row`: each part is a number of the row.
use Rattle.exact.proofs.Rules.{rules}
use Rattle.saved.specs.Saved.{across_row}
use Rattle.saving.proofs.work.across_row.Goals as goal

pub returns : goal.returns
unfolding across_row
returns c = search rules
