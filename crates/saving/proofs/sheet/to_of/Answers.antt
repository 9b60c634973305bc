-- The proof of `to_of`: each part is a number of the row.
use Rattle.exact.proofs.Rules.{rules}
use Rattle.saved.specs.Saved.{to_of}
use Rattle.saving.proofs.sheet.to_of.Goals as goal

pub returns : goal.returns
unfolding to_of
returns c = search rules
