-- No more pens are shown than were looked at.
use Rattle.std.proofs.Common.{◌≤◌}
use Rattle.captions.proofs.legend.Given as goal

abbrev pub invariant-loop-pen : goal.invariant-loop-pen
invariant-loop-pen l = l.shown ≤ l.pen
