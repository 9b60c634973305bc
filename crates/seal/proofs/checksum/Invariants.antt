-- The proof of `checksum`: what the rows so far weigh by their columns is the sum from their place on.
use mathlib.Core.Path.{◌≡◌}
use Prim.Native.Nat.{◌+◌, ◌*◌, ◌-◌, ◌≤◌}
use lib.IntN.{pos}
use lib.ListN.{drop}
use Rattle.seal.specs.Seal.{weighed}
use Rattle.seal.specs.Light.{row_count, LightRow}
use Rattle.seal.specs.Columns.{columns_of, part_bound, all_bound}
use Rattle.seal.proofs.checksum.Given as goal

abbrev pub invariant-loop-k : goal.invariant-loop-k
invariant-loop-k l =
    (l.k ≤ row_count) × LightRow (part_bound (row_count - l.k)) l.part × LightRow (all_bound (row_count - l.k)) l.all × (columns_of (pos (l.k * 5)) l.part l.all ≡ weighed (l.k * 5 + 1) (drop (l.k * 5) l.numbers))

abbrev pub decreases-loop-k : goal.decreases-loop-k
decreases-loop-k l = l.k
