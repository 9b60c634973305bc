-- The proof of `stroke_row`: each part is a number of the row.
use Rattle.exact.proofs.Rules.{rules}
use Rattle.answers.specs.Answers.{stroke_row}
use Rattle.answers.proofs.stroke_row.Goals as goal

pub returns : goal.returns
unfolding stroke_row
returns c =
    search (rules, ← c.whole.ensures)
