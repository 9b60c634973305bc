-- The proof of `look_row`: each part is a number of the row.
use Rattle.exact.proofs.Rules.{rules}
use Rattle.answers.specs.Answers.{look_row}
use Rattle.answers.proofs.look_row.Goals as goal

pub returns : goal.returns
unfolding look_row
returns c =
    search (rules, ← c.whole.ensures, ← c.flag_number.ensures, ← c.whole-2.ensures)
