-- The proof of `records`: strokes 0 to i - 1 stand at their places.
use Rattle.std.proofs.Common.{◌≡◌, length, take}
use Rattle.batches.specs.Records.{strokes_of}
use Rattle.batches.proofs.records.Given as goal

abbrev pub invariant-loop-i : goal.invariant-loop-i
invariant-loop-i l = (length l.list ≡ 64) × (take l.i l.list ≡ strokes_of l.numbers l.i)
