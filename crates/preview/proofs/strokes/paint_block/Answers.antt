-- Each feed leaves a place of the block.
use Rattle.preview.specs.DrawingLaws.{step-within}
use Rattle.preview.proofs.strokes.paint_block.Goals as goal

pub loop-preserved : goal.loop-preserved
loop-preserved c =
    let q = c.loop.q in
    rw c.step.ensures (step-within q c.args.block.now c.step.new.d.hand c.loop.invariant)
