-- The proof of `edges_at`: what is left to write over the array gives the whole.
use Rattle.std.proofs.Common.{◌≡◌, ◌+◌, ◌*◌, ◌-◌}
use Rattle.rows.specs.Rows.{over}
use Rattle.saved.specs.Places.{edges_place}
use Rattle.saved.specs.Saved.{edges_from}
use Rattle.saving.proofs.edges.edges_at.Given as goal

abbrev pub invariant-loop-i : goal.invariant-loop-i
invariant-loop-i l = over l.e-items l.i (edges_from l.numbers (edges_place + l.i * 5) (112 - l.i)) ≡ edges_from l.numbers edges_place 112
