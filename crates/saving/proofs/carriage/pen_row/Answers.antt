-- The proof of `pen_row`: each part is a number of the row.
use Rattle.exact.proofs.Rules.{rules}
use Rattle.saved.specs.Saved.{pen_row}
use Rattle.saving.proofs.carriage.pen_row.Goals as goal

pub returns : goal.returns
unfolding pen_row
returns c =
    search (rules, ← c.whole.ensures, ← c.flag_number.ensures, ← c.flag_number-2.ensures)
