-- One byte more is put after those so far.
use Rattle.std.proofs.Common.{sym, arith, add-one}
use Rattle.std.proofs.Math.Seq.{take-suc}
use Rattle.decimals.specs.Puts.{puts-same, puts_then}
use Rattle.decimals.proofs.put_text.Goals as goal

pub loop-byte-preserved : goal.loop-byte-preserved
loop-byte-preserved c =
    rw add-one (puts-same (sym (take-suc c.args.text.now c.loop-byte.byte-index 0 (omega arith))) (puts_then c.loop-byte.invariant c.put_byte-end.ensures))
