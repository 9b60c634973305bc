-- What the bytes from `from` on come to is what those from `at` on come to, for the reader that the ones between them left.
use mathlib.Core.Path.{◌≡◌}
use Prim.Native.Nat.{◌-◌}
use lib.ListN.{length, drop}
use Rattle.reader.specs.Next.{next_of}
use Rattle.reading.proofs.by_steps.Given as goal

abbrev pub invariant-loop-at : goal.invariant-loop-at
invariant-loop-at l = next_of l.initial.reader (drop l.from l.bytes) l.from ≡ next_of l.reader (drop l.at l.bytes) l.at

abbrev pub decreases-loop-at : goal.decreases-loop-at
decreases-loop-at l = length l.bytes - l.at
