-- The proof of `feed`. The invariant is `Far` (Done.antt): what is stored and what comes after it are all that feed is to do. The measure: a batch stores a stroke or is
-- the last.
use Rattle.std.proofs.Common.{length}
use Rattle.feed.proofs.Done.{Far, left}
use Rattle.feed.proofs.feed.Given as goal

abbrev pub invariant-loop-b : goal.invariant-loop-b
invariant-loop-b l = Far l.fn.machine l.fn.bytes l.fn.out l.b l.out

abbrev pub decreases-loop-b : goal.decreases-loop-b
decreases-loop-b l = left (length l.fn.out) l.b
