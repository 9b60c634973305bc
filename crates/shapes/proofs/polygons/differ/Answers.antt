-- The proof of `differ`: by its tests.
use borrow.Author.Rules.{rules}
use Rattle.exact.specs.Fit.{signed64}
use Rattle.hpgl.specs.Rules.{differ}
use Rattle.shapes.proofs.polygons.differ.Goals as goal

pub returns-then-p-q : goal.returns-then-p-q
unfolding differ
returns-then-p-q c = search (rules, signed64)

pub returns-else-p-q : goal.returns-else-p-q
unfolding differ
returns-else-p-q c = search (rules, signed64)
