-- The strokes passed are put.
use Rattle.redrawing.specs.RedrawingLaws.{Putting}
use Rattle.redrawing.proofs.put_strokes.Given as goal

abbrev pub invariant-loop-i : goal.invariant-loop-i
invariant-loop-i g l = Putting (g.S.Strokes.strokes l.list) l.fn.out l.out l.i l.before l.end
