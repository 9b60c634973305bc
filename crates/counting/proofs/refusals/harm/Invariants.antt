-- What the groups from i on add up to.
use Rattle.std.proofs.Common.{◌≡◌, ◌≤◌, length, drop}
use Rattle.counting.specs.Refusals.{harm_in}
use Rattle.counting.proofs.refusals.harm.Given as goal

abbrev pub invariant-loop-i : goal.invariant-loop-i
invariant-loop-i l = (l.i ≤ 16) × (16 ≡ length l.groups) × (l.n ≡ harm_in (drop l.i l.groups) l.others)
