-- The bytes so far are put.
use Rattle.std.proofs.Common.{take}
use Rattle.output.specs.Texts.{Puts}
use Rattle.output.proofs.put_bytes.Given as goal

abbrev pub invariant-loop-byte : goal.invariant-loop-byte
invariant-loop-byte l = Puts (take l.byte-index l.bytes) l.used l.initial.buffer l.end l.buffer
