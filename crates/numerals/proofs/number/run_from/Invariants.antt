-- What the digits from `from` on come to is what those from `at` on come to, for the magnitude of the ones between them.
use mathlib.Core.Path.{◌≡◌}
use Prim.Native.Nat.{◌≤◌, max}
use lib.ListN.{length, drop}
use Rattle.numerals.specs.Run.{run_of}
use Rattle.numerals.proofs.number.run_from.Given as goal

abbrev pub invariant-loop-at : goal.invariant-loop-at
invariant-loop-at l =
    (run_of l.start (drop l.from l.bytes) l.from ≡ run_of l.magnitude (drop l.at l.bytes) l.at)
    × (l.at ≤ max l.from (length l.bytes))
