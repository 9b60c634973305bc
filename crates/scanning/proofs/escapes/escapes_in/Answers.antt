-- Byte by byte.
use Rattle.std.proofs.Common.{refl, sym, ◌∙◌, arith}
use Rattle.scanning.specs.Escapes.{escapes_in}
use Rattle.scanning.specs.Laws.{escapes-one, escapes-end}
use Rattle.scanning.proofs.escapes.escapes_in.Goals as goal

pub loop-byte-init : goal.loop-byte-init
loop-byte-init c = refl

pub loop-byte-preserved : goal.loop-byte-preserved
loop-byte-preserved c =
    c.loop-byte.invariant ∙ escapes-one c.args.bytes.now c.loop-byte.byte-index c.loop-byte.state c.loop-byte.broken c.loop-byte-test.true
    ∙ rw (← c.after-next.ensures, ← c.one_more-broken.ensures) refl

pub returns : goal.returns
unfolding escapes_in
returns c =
    sym (c.loop-byte.invariant ∙ escapes-end c.args.bytes.now c.loop-byte.byte-index c.loop-byte.state c.loop-byte.broken (omega arith))
