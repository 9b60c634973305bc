use Rattle.exact.proofs.Rules.{rules}
use Rattle.saved.specs.SavedReader.{number_row}
use Rattle.saving.proofs.instruction.number_row.Goals as goal

pub returns : goal.returns
unfolding number_row
returns c = search (rules, ← c.whole-2.ensures, ← c.whole.ensures, ← c.flag_number-3.ensures, ← c.flag_number-2.ensures, ← c.flag_number.ensures)
