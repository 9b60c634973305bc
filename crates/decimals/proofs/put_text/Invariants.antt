-- The loop has put the bytes so far.
use Rattle.std.proofs.Common.{take}
use Rattle.decimals.specs.Puts.{Puts}
use Rattle.decimals.proofs.put_text.Given as goal

abbrev pub invariant-loop-byte : goal.invariant-loop-byte
invariant-loop-byte l = Puts (take l.byte-index l.text) l.initial.out l.out l.at l.end
