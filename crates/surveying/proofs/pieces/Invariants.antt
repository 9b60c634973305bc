-- Each turn does a piece, and what is left comes to the same.
use mathlib.Core.Path.{◌≡◌}
use mathlib.Core.Bool.{false}
use Prim.Native.Nat.{◌+◌, ◌-◌, ◌≤◌}
use lib.ListN.{length, drop}
use Rattle.hpgl.specs.Machine.{occupied}
use Rattle.surveying.specs.States.{watched_by}
use Rattle.surveying.specs.Drawing.{watched_from}
use Rattle.repeats.specs.Repeats.{painted_all}
use Rattle.surveying.specs.Strokes.{strokes_from}
use Rattle.surveying.proofs.pieces.Given as goal

abbrev pub invariant-loop-turn : goal.invariant-loop-turn
invariant-loop-turn l =
    (watched_from (length l.block) (watched_by l.initial.far) l.block ≡ watched_from (length l.block - l.turn) (watched_by l.far) (drop l.at l.block)) × (occupied l.far.drawing.machine.state.work ≡ false)
    × (length l.lines ≡ length l.initial.lines)
    × (length l.block ≤ l.at + (length l.block - l.turn))
    × (painted_all l.initial.lines (strokes_from l.initial.far.drawing.machine.state l.block) ≡ painted_all l.lines (strokes_from l.far.drawing.machine.state (drop l.at l.block)))
