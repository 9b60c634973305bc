-- Each feed leaves a place of the block.
use Prim.Native.Nat.{◌≤◌}
use lib.ListN.{length}
use Rattle.preview.proofs.strokes.paint_block.Given as goal

abbrev pub invariant-loop : goal.invariant-loop
invariant-loop l = l.q.at ≤ length l.block
