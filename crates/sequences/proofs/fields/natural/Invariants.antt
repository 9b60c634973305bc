-- The number so far has at most 18 digits.
use Rattle.std.proofs.Common.{◌<◌, ◌^◌}
use Rattle.sequences.proofs.fields.natural.Given as goal

abbrev pub invariant-loop-i : goal.invariant-loop-i
invariant-loop-i l = l.value < 10 ^ 18
