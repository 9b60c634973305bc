-- By its tests.
use borrow.Author.Rules.{rules}
use Rattle.exact.specs.Fit.{signed64}
use Rattle.repeats.specs.Repeats.{other_way}
use Rattle.repeats.proofs.other_way.Goals as goal

pub returns-then-l-m-3 : goal.returns-then-l-m-3
unfolding other_way
returns-then-l-m-3 c = search (rules, signed64)

pub returns-else-l-m-3 : goal.returns-else-l-m-3
unfolding other_way
returns-else-l-m-3 c = search (rules, signed64)
