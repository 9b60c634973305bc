-- Byte by byte.
use Rattle.std.proofs.Common.{◌≡◌, drop}
use Rattle.scanning.specs.Escapes.{escapes_from}
use Rattle.scanning.proofs.escapes.escapes_in.Given as goal

abbrev pub invariant-loop-byte : goal.invariant-loop-byte
invariant-loop-byte l = escapes_from l.initial.state l.initial.broken l.bytes ≡ escapes_from l.state l.broken (drop l.byte-index l.bytes)
