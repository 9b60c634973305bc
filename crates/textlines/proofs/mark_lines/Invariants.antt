-- The loop has put the lines of i marks.
use Rattle.std.proofs.Common.{◌+◌, ◌*◌, ◌≤◌}
use Rattle.textlines.specs.Text.{marks_below, longest}
use Rattle.decimals.specs.Puts.{Puts}
use Rattle.textlines.proofs.mark_lines.Given as goal

abbrev pub invariant-loop-i : goal.invariant-loop-i
invariant-loop-i l = Puts (marks_below l.before l.numbers l.i) l.initial.out l.out l.at l.end × (l.end ≤ l.at + l.i * longest)
