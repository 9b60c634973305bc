-- None of the slots that are passed has these ends.
use Rattle.std.proofs.Common.{◌≡◌, ◌≤◌}
use Rattle.repeats.specs.Repeats.{among}
use Rattle.repeats.proofs.among.Given as goal

abbrev pub invariant-loop-i : goal.invariant-loop-i
invariant-loop-i l = (l.i ≤ l.count) × (among l.lines l.count l.l ≡ among l.lines l.i l.l)
