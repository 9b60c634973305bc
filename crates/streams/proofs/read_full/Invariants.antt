-- The bytes read so far stand at the start of the block.
use Rattle.std.proofs.Common.{length, take, ◌-◌, ◌≡◌, ◌≤◌}
use Rattle.std.specs.Io.KnownBytes.{Consumes}
use Rattle.streams.proofs.read_full.Given as goal

abbrev pub invariant-loop-done : goal.invariant-loop-done
invariant-loop-done g l = (length l.block ≡ length l.initial.block) × (l.done ≤ length l.block) × Consumes (g.R.Read.remaining l.initial.file.inner) (g.R.Read.remaining l.file.inner) (take l.done l.block)

abbrev pub decreases-loop-done : goal.decreases-loop-done
decreases-loop-done g l = length l.block - l.done
