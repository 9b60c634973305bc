use Rattle.exact.proofs.Rules.{rules}
use Rattle.saved.specs.SavedReader.{numbers_row}
use Rattle.saving.proofs.instruction.numbers_row.Goals as goal

pub returns : goal.returns
unfolding numbers_row
returns c = search (rules, ← c.whole.ensures)
