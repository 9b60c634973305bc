-- The proof of `put_edges`: what is left to write over the list gives the whole.
use Rattle.std.proofs.Common.{◌≡◌, ◌+◌, ◌*◌, drop}
use Rattle.rows.specs.Rows.{over}
use Rattle.saved.specs.Places.{edges_place}
use Rattle.saved.specs.Saved.{edges_numbers}
use Rattle.saving.proofs.edges.put_edges.Given as goal

abbrev pub invariant-loop-i : goal.invariant-loop-i
invariant-loop-i l = over l.numbers (edges_place + l.i * 5) (edges_numbers (drop l.i l.e-items)) ≡ over l.initial.numbers edges_place (edges_numbers l.e-items)
