-- The proof of `box_of`: each part is a number of the row.
use Rattle.exact.proofs.Rules.{rules}
use Rattle.saved.specs.Saved.{box_of}
use Rattle.saving.proofs.sheet.box_of.Goals as goal

pub returns : goal.returns
unfolding box_of
returns c = search rules
