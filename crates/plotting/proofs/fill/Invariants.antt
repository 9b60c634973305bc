-- From p to q some text was printed; each turn makes it longer, or leaves no more.
use Rattle.std.proofs.Common.{◌≡◌, ◌+◌, ◌-◌, ◌*◌, cond, length}
use Rattle.plotting.specs.Plotted.{Plotted, most_marks}
use Rattle.plotting.proofs.fill.Given as goal

abbrev pub invariant-loop-q : goal.invariant-loop-q
invariant-loop-q l = Plotted l.initial.q l.q l.block l.initial.text l.text × (length l.numbers ≡ most_marks * 5)

abbrev pub decreases-loop-q : goal.decreases-loop-q
decreases-loop-q l = length l.text - l.q.length + cond l.q.more 1 0
