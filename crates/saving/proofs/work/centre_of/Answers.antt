-- The proof of `centre_of`: each part is a number of the row.
use Rattle.exact.proofs.Rules.{rules}
use Rattle.saved.specs.Saved.{centre_of}
use Rattle.saving.proofs.work.centre_of.Goals as goal

pub returns : goal.returns
unfolding centre_of
returns c = search rules
