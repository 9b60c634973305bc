-- The proof of `next_corner`: by its arms; where a chord waits its end is in range, and a circle has at most 720 chords.
use mathlib.Core.Path.{subst}
use native.Mathlib.Omega.{arith}
use Rattle.hpgl.specs.Valid.{ValidWork}
use Rattle.hpgl.proofs.ValidFacts.{fewer}
use Rattle.queue.proofs.drawing.next_corner.Goals as goal

pub overflow_add-i : goal.overflow_add-i
overflow_add-i c =
    record { fits = omega (arith, (subst ValidWork c.in-Chords.is c.requires.1).1) }

pub vertex-requires : goal.vertex-requires
vertex-requires c =
    let w = (subst ValidWork c.in-Chords.is c.requires.1).0 in
    (c.requires.0, fewer w _ 0 (omega arith) (omega (arith, c.if-n-eq0.false)), c.requires.2)
