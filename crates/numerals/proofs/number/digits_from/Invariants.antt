-- What the digits from `from` on come to is what those from `at` on come to, for the number with the ones between them. A digit past the fourth decimal, one that
-- counts, and one of a number out of range meet after the branch.
use mathlib.Core.Path.{◌≡◌}
use Prim.Native.Nat.{◌≤◌, max}
use lib.ListN.{length, drop}
use Rattle.numerals.specs.Number.{so_far_of}
use Rattle.numerals.specs.Run.{digits_from}
use Rattle.numerals.proofs.number.digits_from.Given as goal

abbrev pub invariant-loop-at : goal.invariant-loop-at
invariant-loop-at l =
    (digits_from l.start (drop l.from l.bytes) l.from ≡ digits_from (so_far_of l.start l.filled l.decimals l.magnitude) (drop l.at l.bytes) l.at)
    × (l.at ≤ max l.from (length l.bytes))
