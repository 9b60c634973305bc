-- The proof of `polygon_row`: each part is a number of the row.
use Rattle.exact.proofs.Rules.{rules}
use Rattle.saved.specs.Saved.{polygon_row}
use Rattle.saving.proofs.carriage.polygon_row.Goals as goal

pub returns : goal.returns
unfolding polygon_row
returns c =
    search (rules, ← c.flag_number.ensures, ← c.whole.ensures, ← c.whole-2.ensures, ← c.flag_number-2.ensures)
