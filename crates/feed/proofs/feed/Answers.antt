-- The proof of `feed`: a batch keeps what is known of how far it is (Done.antt).
use Rattle.std.proofs.Common.{ℕ, subst}
use Rattle.batches.specs.Batches.{Batched}
use Rattle.feed.proofs.Done.{far-batch, placed}
use Rattle.feed.proofs.feed.Goals as goal

pub loop-b-preserved : goal.loop-b-preserved
loop-b-preserved c =
    let m = c.args.machine in
    let bytes = c.args.bytes.now in
    let xs = c.args.out.now in
    let l = c.loop-b in
    let far = l.invariant in
    let more = c.loop-b-test.true in
    let b = c.next_batch-b.result in
    let h = subst (λ (n : ℕ). Batched bytes n l.b.fed b) far.long c.next_batch-b.ensures in
    let new = c.copy_from_slice.new.self in
    let e = c.copy_from_slice.ensures in
    far-batch m bytes xs l.b l.out far more b h new e.after e.len _ (placed m bytes xs l.b l.out far more b h new e.after e.len)
