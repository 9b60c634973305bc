-- What gather and plot answer, whole: feed with the strokes in a list of plain numbers, and plot with its marks there.
use Rattle.std.specs.Prelude.{ℕ, length}
use Rattle.hpgl.specs.declared.State.{State}
use Rattle.feeding.specs.Feed.{Feed}
use Rattle.feeding.specs.Plot.{Plot}
use Rattle.gathering.specs.declared.Stopped.{Stopped}
use Rattle.machine.specs.declared.Gathered.{Gathered}

abbrev pub gathered_as : State → ℕ → ℕ → ℕ → Stopped
gathered_as m at k n = record { state = m; at = at; stored = k; number = n }

abbrev pub gathered_of : Feed → Stopped
gathered_of f = gathered_as f.state f.taken (length f.strokes) f.number

abbrev pub plotted_of : Plot → Stopped
plotted_of f = gathered_as f.state f.taken (length f.marks) f.number

-- where an answer stopped
abbrev pub gathered_by : Gathered → Stopped
gathered_by g = gathered_as g.machine.state g.at g.stored g.number
