use Rattle.exact.proofs.Rules.{rules}
use Rattle.saved.specs.SavedReader.{place_row}
use Rattle.saving.proofs.instruction.place_row.Goals as goal

pub returns : goal.returns
unfolding place_row
returns c = search (rules, ← c.place_number.ensures, ← c.whole-2.ensures, ← c.mode_letter.ensures, ← c.whole.ensures, ← c.mode_tag.ensures)
