-- The proof of `apart`: by its two tests.
use borrow.Author.Rules.{rules}
use Rattle.exact.specs.Fit.{signed64}
use Rattle.settings.proofs.apart.Goals as goal

pub returns-then-p-q : goal.returns-then-p-q
returns-then-p-q c = search (rules, signed64)

pub returns-else-p-q : goal.returns-else-p-q
returns-else-p-q c = search (rules, signed64)
