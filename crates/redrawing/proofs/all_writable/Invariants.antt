-- The strokes passed can be written.
use Rattle.std.proofs.Common.{◌≡◌, drop}
use Rattle.redrawn.specs.Redrawn.{all_writable}
use Rattle.redrawing.proofs.all_writable.Given as goal

abbrev pub invariant-loop-i : goal.invariant-loop-i
invariant-loop-i g l = let ss = g.S.Strokes.strokes l.list in all_writable ss ≡ all_writable (drop l.i ss)
