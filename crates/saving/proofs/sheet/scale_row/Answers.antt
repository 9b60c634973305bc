-- The proof of `scale_row`: each part is a number of the row.
use Rattle.exact.proofs.Rules.{rules}
use Rattle.saved.specs.Saved.{scale_row}
use Rattle.saving.proofs.sheet.scale_row.Goals as goal

pub returns : goal.returns
unfolding scale_row
returns c =
    search (rules, ← c.flag_number.ensures)
