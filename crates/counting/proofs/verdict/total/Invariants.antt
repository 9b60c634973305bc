-- What the numbers from i on add up to.
use Rattle.std.proofs.Common.{◌≡◌, ◌≤◌, length, drop}
use Rattle.counting.specs.Verdict.{total_of}
use Rattle.counting.proofs.verdict.total.Given as goal

abbrev pub invariant-loop-i : goal.invariant-loop-i
invariant-loop-i l = (l.i ≤ 9) × (9 ≡ length l.list) × (l.n ≡ total_of (drop l.i l.list))
