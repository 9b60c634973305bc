-- Each turn leaves less of the text.
use Rattle.std.proofs.Common.{length}
use Rattle.sequences.proofs.codes.written_out.Given as goal

abbrev pub decreases-loop-byte : goal.decreases-loop-byte
decreases-loop-byte l = length l.rest
