-- What is left to draw comes to the same, and each draw leaves fewer.
use mathlib.Core.Path.{◌≡◌}
use lib.ListN.{length}
use Rattle.hpgl.specs.Machine.{waiting}
use Rattle.repeats.specs.Repeats.{painted_all}
use Rattle.surveying.specs.Drawing.{drawn_off}
use Rattle.surveying.specs.Strokes.{strokes_at}
use Rattle.surveying.proofs.drawn_off.Given as goal

abbrev pub invariant-loop-s : goal.invariant-loop-s
invariant-loop-s l =
    (drawn_off (waiting l.initial.machine.state.work) l.initial.machine.state l.initial.tally ≡ drawn_off (waiting l.machine.state.work) l.machine.state l.tally)
    × (length l.lines ≡ length l.initial.lines)
    × (painted_all l.initial.lines (strokes_at l.initial.machine.state) ≡ painted_all l.lines (strokes_at l.machine.state))

abbrev pub decreases-loop-s : goal.decreases-loop-s
decreases-loop-s l = waiting l.machine.state.work
