-- The proof of `reply_row`: each part is a number of the row.
use Rattle.exact.proofs.Rules.{rules}
use Rattle.saved.specs.Saved.{reply_row}
use Rattle.saving.proofs.work.reply_row.Goals as goal

pub returns : goal.returns
unfolding reply_row
returns c = search rules
