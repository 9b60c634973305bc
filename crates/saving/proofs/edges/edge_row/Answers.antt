-- The proof of `edge_row`: each part is a number of the row.
use Rattle.exact.proofs.Rules.{rules}
use Rattle.saved.specs.Saved.{edge_row}
use Rattle.saving.proofs.edges.edge_row.Goals as goal

pub returns : goal.returns
unfolding edge_row
returns c =
    search (rules, ← c.flag_number.ensures)
