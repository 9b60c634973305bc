-- Byte by byte.
use Rattle.std.proofs.Common.{refl, sym, ◌∙◌, arith}
use Rattle.scanning.specs.Types.{types_in}
use Rattle.scanning.specs.Laws.{types-one, types-end}
use Rattle.scanning.proofs.types_in.Goals as goal

pub loop-byte-init : goal.loop-byte-init
loop-byte-init c = refl

pub loop-byte-preserved : goal.loop-byte-preserved
loop-byte-preserved c =
    c.loop-byte.invariant ∙ types-one c.args.bytes.now c.loop-byte.byte-index c.loop-byte.mode c.loop-byte.count c.loop-byte-test.true
    ∙ rw (← c.type_after-mode.ensures, ← c.one_more-count.ensures) refl

pub returns : goal.returns
unfolding types_in
returns c =
    sym (c.loop-byte.invariant ∙ types-end c.args.bytes.now c.loop-byte.byte-index c.loop-byte.mode c.loop-byte.count (omega arith))
