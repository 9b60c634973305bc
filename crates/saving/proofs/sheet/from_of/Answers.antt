-- The proof of `from_of`: each part is a number of the row.
use Rattle.exact.proofs.Rules.{rules}
use Rattle.saved.specs.Saved.{from_of}
use Rattle.saving.proofs.sheet.from_of.Goals as goal

pub returns : goal.returns
unfolding from_of
returns c = search rules
