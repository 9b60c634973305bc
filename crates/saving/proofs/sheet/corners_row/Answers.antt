-- The proof of `corners_row`: each part is a number of the row.
use Rattle.exact.proofs.Rules.{rules}
use Rattle.saved.specs.Saved.{corners_row}
use Rattle.saving.proofs.sheet.corners_row.Goals as goal

pub returns : goal.returns
unfolding corners_row
returns c = search rules
