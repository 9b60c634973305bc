-- The proof of `way_of`: each part is a number of the row.
use Rattle.exact.proofs.Rules.{rules}
use Rattle.saved.specs.Saved.{way_of}
use Rattle.saving.proofs.work.way_of.Goals as goal

pub returns : goal.returns
unfolding way_of
returns c = search rules
