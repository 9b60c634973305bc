-- The proof of `range_y`: each part is a number of the row.
use Rattle.exact.proofs.Rules.{rules}
use Rattle.saved.specs.Saved.{range_y}
use Rattle.saving.proofs.sheet.range_y.Goals as goal

pub returns : goal.returns
unfolding range_y
returns c = search rules
