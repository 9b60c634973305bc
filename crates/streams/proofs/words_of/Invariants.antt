-- The end is within the buffer.
use Rattle.std.proofs.Common.{◌≤◌}
use Rattle.streams.proofs.words_of.Given as goal

abbrev pub invariant-loop-at : goal.invariant-loop-at
invariant-loop-at l = l.end ≤ 256
