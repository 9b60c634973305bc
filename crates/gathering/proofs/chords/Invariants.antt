-- The proof of `chords`. The invariant: for every feed or plot that was so far at the start, how far it is now, with the chords from one on waiting.
use mathlib.Core.Path.{◌≡◌}
use Prim.Native.Nat.{◌+◌, ◌-◌}
use Rattle.hpgl.specs.declared.Work.TheVariants.{Chords}
use Rattle.queue.specs.Corners.{vertex_at}
use Rattle.gathering.specs.Gather.{chords_left}
use Rattle.gathering.specs.Far.{Batching, Drew}
use Rattle.gathering.proofs.chords.Given as goal

abbrev pub invariant-loop-k : goal.invariant-loop-k
invariant-loop-k l =
    ((d : Batching l.initial.numbers l.frame l.pen (Chords l.circle l.from l.many) l.before) → Drew d l.numbers (chords_left l.circle (l.from + l.k) (l.many - l.k)) l.count)
    × (l.corner ≡ vertex_at l.frame.rows l.circle (l.from + l.k))
    × (l.k ≡ 0 → l.count ≡ l.before)
