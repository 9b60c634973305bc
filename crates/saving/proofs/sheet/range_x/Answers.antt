-- The proof of `range_x`: each part is a number of the row.
use Rattle.exact.proofs.Rules.{rules}
use Rattle.saved.specs.Saved.{range_x}
use Rattle.saving.proofs.sheet.range_x.Goals as goal

pub returns : goal.returns
unfolding range_x
returns c = search rules
