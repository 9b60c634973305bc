-- Many bytes, and at least one.
use Rattle.std.proofs.Common.{◌≡◌, refl, ap, ◌∙◌, ℕ, zero, suc, max, drop, eq-eqb, ne_eqb, le-ltb, arith}
use Rattle.scanning.specs.Pieces.{one_at_least, piece_of}
use Rattle.scanning.specs.Laws.{up_to_taken}
use Rattle.scanning.proofs.piece.Goals as goal

least : (n : ℕ) → max n 1 ≡ one_at_least n
unfolding one_at_least
least zero = refl
least (suc n) = rw (ne_eqb (suc n) 0 (λ z. omega arith)) (omega arith)

pub returns : goal.returns
unfolding piece_of
returns c =
    rw (eq-eqb _ _ c.if-mode-ne0.false, le-ltb _ _ c.if-escape-gt1.false)
    (c.max.ensures ∙ ap (λ (n : ℕ). max n 1) (c.up_to_stop.ensures ∙ up_to_taken (drop c.args.from c.args.bytes.now)) ∙ least _)
