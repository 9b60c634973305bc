-- A block is read into the same place, and leaves a machine in which nothing waits.
use mathlib.Core.Bool.{false}
use mathlib.Core.Path.{◌≡◌}
use lib.ListN.{length}
use Rattle.hpgl.specs.Machine.{occupied}
use Rattle.repeats.specs.Repeats.{room}
use Rattle.surveying.proofs.survey.Given as goal

abbrev pub invariant-loop : goal.invariant-loop
invariant-loop l =
    (65536 ≡ length l.block) × (room ≡ length l.lines) × (occupied l.w.drawing.machine.state.work ≡ false)
