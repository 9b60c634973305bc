-- A block stays as long as it is, and a read that failed gave nothing.
use Rattle.std.proofs.Common.{length, ◌≡◌}
use Rattle.std.specs.Io.KnownBytes.{Keeps}
use Rattle.streams.proofs.read.Given as goal

abbrev pub invariant-loop : goal.invariant-loop
invariant-loop g l = (length l.block ≡ length l.initial.block) × Keeps (g.R.Read.remaining l.initial.file.inner) (g.R.Read.remaining l.file.inner)
