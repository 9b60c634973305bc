-- One byte more is put after those so far.
use Rattle.std.proofs.Common.{ℕ, List, [], ◌∷◌, ◌++◌, ◌≡◌, ◌+◌, ◌<◌, length, take, get_or, ap, ◌∙◌, arith, add-one}
use Rattle.std.proofs.Math.Seq.{take-suc}
use Rattle.output.specs.Texts.{puts-nothing, puts-more}
use Rattle.output.proofs.put_bytes.Goals as goal

pub loop-byte-init : goal.loop-byte-init
loop-byte-init c = puts-nothing _ _

taken : (bytes : List ℕ) (i : ℕ) → i < length bytes → take (i + 1) bytes ≡ take i bytes ++ (get_or bytes i 0 ∷ [])
taken bytes i h = ap (λ (k : ℕ). take k bytes) (add-one i) ∙ take-suc bytes i 0 h

pub loop-byte-preserved : goal.loop-byte-preserved
loop-byte-preserved c =
    rw (taken c.args.bytes.now c.loop-byte.byte-index (omega arith)) (puts-more c.loop-byte.invariant c.put_byte-end.ensures)
