-- The proof of `edges_here`: the rows that are left to test decide the whole.
use Rattle.std.proofs.Common.{◌≡◌, ◌+◌, ◌*◌, ◌-◌}
use Rattle.wellformed.specs.Sound.{edges_sound}
use Rattle.soundness.proofs.edges_here.Given as goal
use Rattle.saved.specs.Places.{edges_place}

abbrev pub invariant-loop-i : goal.invariant-loop-i
invariant-loop-i l = edges_sound l.numbers (edges_place + l.i * 5) (112 - l.i) ≡ edges_sound l.numbers edges_place 112
