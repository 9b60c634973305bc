-- The proof of `window_row`: each part is a number of the row.
use Rattle.exact.proofs.Rules.{rules}
use Rattle.saved.specs.Saved.{window_row}
use Rattle.saving.proofs.sheet.window_row.Goals as goal

pub returns : goal.returns
unfolding window_row
returns c =
    search (rules, ← c.flag_number.ensures)
