-- Between two blocks all that was read is printed. A turn reads at most 65,536 bytes, so that 2^47 of them do not count past 2^63.
use Rattle.std.proofs.Common.{◌≡◌, ◌*◌, ◌≤◌, length}
use Rattle.delivery.specs.RanLaws.{Stands}
use Rattle.delivery.proofs.files.plot_file.Given as goal

abbrev pub invariant-loop-turn : goal.invariant-loop-turn
invariant-loop-turn l =
    (65536 ≡ length l.block) × (65536 ≡ length l.text) × (l.tally.read ≤ l.turn * 65536)
    × Stands l.started.state l.machine.state l.tally.read l.tally.handed
