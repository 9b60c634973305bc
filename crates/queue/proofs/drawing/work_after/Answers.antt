-- The proof of `work_after`: Works.antt, arm by arm.
use mathlib.Core.Path.{subst}
use native.Mathlib.Omega.{arith}
use Rattle.hpgl.specs.Valid.{ValidWork}
use Rattle.queue.proofs.drawing.work_after.Goals as goal

pub overflow_add-result : goal.overflow_add-result
overflow_add-result c =
    let h = subst ValidWork c.in-Chords.is c.requires in
    record { fits = omega (arith, h.1, c.if-n-le1.false) }

pub overflow_add-result-else-n-le1-2 : goal.overflow_add-result-else-n-le1-2
overflow_add-result-else-n-le1-2 c =
    let h = subst ValidWork c.in-Edges.is c.requires in
    record { fits = omega (arith, h, c.if-n-le1-2.false) }
