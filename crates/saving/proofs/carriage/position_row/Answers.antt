-- The proof of `position_row`: each part is a number of the row.
use Rattle.exact.proofs.Rules.{rules}
use Rattle.saved.specs.Saved.{position_row}
use Rattle.saving.proofs.carriage.position_row.Goals as goal

pub returns : goal.returns
unfolding position_row
returns c =
    search (rules, ← c.flag_number.ensures)
