-- By its tests.
use borrow.Author.Rules.{rules}
use Rattle.exact.specs.Fit.{signed64}
use Rattle.repeats.specs.Repeats.{same_way}
use Rattle.repeats.proofs.same_way.Goals as goal

pub returns-then-l-m-3 : goal.returns-then-l-m-3
unfolding same_way
returns-then-l-m-3 c = search (rules, signed64)

pub returns-else-l-m-3 : goal.returns-else-l-m-3
unfolding same_way
returns-else-l-m-3 c = search (rules, signed64)
