-- Byte by byte.
use Rattle.std.proofs.Common.{◌≡◌, drop}
use Rattle.scanning.specs.Types.{types_from}
use Rattle.scanning.proofs.types_in.Given as goal

abbrev pub invariant-loop-byte : goal.invariant-loop-byte
invariant-loop-byte l = types_from l.initial.mode l.initial.count l.bytes ≡ types_from l.mode l.count (drop l.byte-index l.bytes)
