-- The proof of `ends_equal`: by its two tests.
use Rattle.std.proofs.Common.{rules}
use Rattle.exact.specs.Fit.{signed64}
use Rattle.drive.specs.Drive.{ends_equal_of}
use Rattle.drive.proofs.ends_equal.Goals as goal

pub returns-then-s : goal.returns-then-s
unfolding ends_equal_of
returns-then-s c = search (rules, signed64)

pub returns-else-s : goal.returns-else-s
unfolding ends_equal_of
returns-else-s c = search (rules, signed64)
