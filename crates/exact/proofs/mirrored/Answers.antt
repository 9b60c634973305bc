-- The proof of `mirrored`: -1 - a fits where a does.
use mir.Syntax.{w64}
use lib.IntN.{negsuc}
use Rattle.exact.specs.Fit.{arg, num, put-by, fit-by, ◌⊖◌}
use Rattle.exact.specs.Steps.{mirrored_of, mirror-fits}
use Rattle.exact.proofs.mirrored.Goals as goal

pub overflow_sub-result : goal.overflow_sub-result
overflow_sub-result c = let a = c.before.ranges.a in fit-by w64 (num (negsuc 0) ⊖ arg w64 a) (mirror-fits _ a)

pub returns-then-below : goal.returns-then-below
unfolding mirrored_of
returns-then-below c = let a = c.before.ranges.a in rw c.if-below.true (put-by w64 (num (negsuc 0) ⊖ arg w64 a) (mirror-fits _ a)).is

pub returns-else-below : goal.returns-else-below
unfolding mirrored_of
returns-else-below c = rw c.if-below.false (arg w64 c.before.ranges.a).is
