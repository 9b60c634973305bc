-- By its sign.
use borrow.Author.Rules.{rules}
use Rattle.exact.specs.Fit.{signed64}
use Rattle.repeats.specs.Repeats.{low_of}
use Rattle.repeats.proofs.low.Goals as goal

pub returns-then-z-lt0 : goal.returns-then-z-lt0
unfolding low_of
returns-then-z-lt0 c = search (rules, signed64, c.size-n.ensures)

pub returns : goal.returns
unfolding low_of
returns c = search (rules, signed64, c.size-n.ensures)
