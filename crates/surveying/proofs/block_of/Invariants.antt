-- Each turn goes further, and what is left comes to the same.
use mathlib.Core.Path.{◌≡◌}
use Prim.Native.Nat.{◌-◌}
use lib.ListN.{length, drop}
use Rattle.repeats.specs.Repeats.{painted_all}
use Rattle.surveying.specs.Drawing.{stretch_numbers}
use Rattle.surveying.specs.States.{drawing_by}
use Rattle.surveying.specs.Laws.{Far}
use Rattle.surveying.specs.Strokes.{strokes_from}
use Rattle.surveying.proofs.block_of.Given as goal

abbrev pub invariant-loop-at : goal.invariant-loop-at
invariant-loop-at l =
    Far (drawing_by l.d) l.block l.machine.state l.tally l.refusals l.replies l.at × (length l.numbers ≡ stretch_numbers) × (length l.lines ≡ length l.initial.lines)
    × (painted_all l.initial.lines (strokes_from l.d.machine.state l.block) ≡ painted_all l.lines (strokes_from l.machine.state (drop l.at l.block)))

abbrev pub decreases-loop-at : goal.decreases-loop-at
decreases-loop-at l =
    length l.block - l.at
