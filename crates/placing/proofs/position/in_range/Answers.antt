-- The proof of `in_range`: by its two tests.
use Rattle.std.proofs.Common.{rules}
use Rattle.exact.specs.Fit.{signed64}
use Rattle.plane.specs.Position.{in_range_of}
use Rattle.placing.proofs.position.in_range.Goals as goal

pub returns-then-n : goal.returns-then-n
unfolding in_range_of
returns-then-n c = search (rules, signed64)

pub returns-else-n : goal.returns-else-n
unfolding in_range_of
returns-else-n c = search (rules, signed64)
