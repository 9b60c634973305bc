-- The proof of `limits_row`: each part is a number of the row.
use Rattle.exact.proofs.Rules.{rules}
use Rattle.saved.specs.Saved.{limits_row}
use Rattle.saving.proofs.sheet.limits_row.Goals as goal

pub returns : goal.returns
unfolding limits_row
returns c =
    search (rules, ← c.place_number.ensures)
