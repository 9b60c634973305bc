-- The proof of `corner`: by its arms.
use mathlib.Core.Path.{subst}
use native.Mathlib.Omega.{arith}
use Rattle.hpgl.specs.Valid.{ValidWork}
use Rattle.hpgl.proofs.ValidFacts.{fewer}
use Rattle.queue.proofs.drawing.corner.Goals as goal

pub vertex-requires : goal.vertex-requires
vertex-requires c =
    (c.requires.0, fewer (subst ValidWork c.in-Chords.is c.requires.1).0 _ 0 (omega arith) (omega arith), c.requires.2)
