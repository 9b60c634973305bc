-- The strokes passed are put.
use Rattle.std.proofs.Common.{arith}
use Rattle.redrawn.proofs.FirstStroke.{text-long}
use Rattle.redrawing.specs.RedrawingLaws.{putting-room, putting-more, putting-end}
use Rattle.redrawing.proofs.put_strokes.Goals as goal

pub put_start-end-requires : goal.put_start-end-requires
put_start-end-requires g c = omega (arith, c.requires.room, text-long _ c.requires.writable)

pub put_stroke-end-requires : goal.put_stroke-end-requires
put_stroke-end-requires g c =
    rw c.stroke-s.ensures (putting-room c.loop-i.invariant (omega (arith, c.loop-i-test.true, c.count-i-end.ensures)) c.requires.writable c.requires.room)

pub loop-i-preserved : goal.loop-i-preserved
loop-i-preserved g c =
    let put = rw c.stroke-s.ensures at c.put_stroke-end.ensures in
    rw c.stroke-s.ensures (putting-more c.loop-i.invariant (omega (arith, c.loop-i-test.true, c.count-i-end.ensures)) put)

pub returns : goal.returns
returns g c = putting-end c.loop-i.invariant (omega (arith, c.loop-i-test.false, c.count-i-end.ensures)) c.requires.writable
