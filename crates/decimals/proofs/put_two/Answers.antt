-- The proof of `put_two`: one digit after another.
use mathlib.Core.List.{[], ◌∷◌}
use Rattle.decimals.specs.Puts.{puts-same, puts_then}
use Rattle.decimals.proofs.put_two.Goals as goal

pub returns : goal.returns
returns c =
    puts-same (λ i. c.digit_code.ensures i ∷ c.digit_code-2.ensures i ∷ []) (puts_then c.put_byte-next.ensures c.put_byte.ensures)
