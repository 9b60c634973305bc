-- Texts without the blanks at their end.
use Rattle.std.specs.Prelude.{cond, List, ℕ, zero, suc, eqb, length, get_or}
use Prim.Native.Char.{code}

-- of the first n bytes, those up to the last that is no blank
unfoldable pub trimmed_to : List ℕ → ℕ → ℕ
trimmed_to text zero = 0
trimmed_to text (suc n) = cond (eqb (get_or text n 0) (code " ")) (trimmed_to text n) (suc n)

unfoldable pub trimmed : List ℕ → ℕ
trimmed text = trimmed_to text (length text)
