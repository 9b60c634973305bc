-- Each turn hands the next part over, and makes what the block still asks for shorter.
use Rattle.std.proofs.Common.{◌≡◌, length}
use Rattle.plotting.specs.PlottedLaws.{Between, left}
use Rattle.delivery.specs.RanLaws.{Midway}
use Rattle.delivery.proofs.files.deliver_block.Given as goal

abbrev pub invariant-loop-p : goal.invariant-loop-p
invariant-loop-p l =
    Between l.p l.block × (length l.text ≡ 65536) × (l.tally.read ≡ l.initial.tally.read) × Midway l.started.state l.tally.read l.tally.handed l.p l.block

abbrev pub decreases-loop-p : goal.decreases-loop-p
decreases-loop-p l = left l.p l.block
