-- The proof of `position_of`: each part is a number of the row.
use Rattle.exact.proofs.Rules.{rules}
use Rattle.saved.specs.Saved.{position_of}
use Rattle.saving.proofs.carriage.position_of.Goals as goal

pub returns : goal.returns
unfolding position_of
returns c = search rules
