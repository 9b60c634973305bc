-- By its tests.
use borrow.Author.Rules.{rules}
use Rattle.exact.specs.Fit.{signed64}
use Rattle.counting.specs.Tally.{same_ends}
use Rattle.counting.proofs.tally.same_ends.Goals as goal

pub returns-then-b-s : goal.returns-then-b-s
unfolding same_ends
returns-then-b-s c = search (rules, signed64)

pub returns-else-b-s : goal.returns-else-b-s
unfolding same_ends
returns-else-b-s c = search (rules, signed64)
