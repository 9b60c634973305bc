-- A file's name, by its first byte.
use Rattle.std.specs.Prelude.{cond, ◌≡◌, ℕ, eqb, length, get_or}
use mathlib.Core.List.{List, [], ◌∷◌}
use Rattle.std.proofs.Math.Path.{refl}
use Prim.Native.Char.{code}
use Rattle.std.proofs.Common.{arith, eq-eqb, ne_eqb}
use Rattle.arguments.specs.declared.Request.{Request}
use Rattle.arguments.specs.Request.{unknown, again, decided_of, filed_of, file_of}

module _ (r : Request) (at : ℕ) where
  pub file-empty : (word : List ℕ) → length word ≡ 0 → file_of r at word ≡ decided_of r at unknown
  unfolding file_of
  file-empty [] e = refl
  file-empty (b ∷ bs) e = absurd (omega arith)

  pub file-minus : (word : List ℕ) → get_or word 0 0 ≡ code "-" → file_of r at word ≡ decided_of r at unknown
  unfolding file_of
  file-minus [] e = refl
  file-minus (b ∷ bs) e = rw (eq-eqb b (code "-") e)

  pub file-name : (word : List ℕ) → (length word ≡ 0 → ⊥) → (get_or word 0 0 ≡ code "-" → ⊥)
      → file_of r at word ≡ cond (eqb r.file 0) (filed_of r at) (decided_of r at again)
  unfolding file_of
  file-name [] some e = absurd (some refl)
  file-name (b ∷ bs) some e = rw (ne_eqb b (code "-") e)
