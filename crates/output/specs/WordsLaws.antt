-- The blanks at the end of a text, one by one.
use Rattle.std.specs.Prelude.{List, ◌≡◌, get_or}
use Rattle.std.proofs.Math.Path.{refl}
use Prim.Native.Char.{code}
use Prim.Native.Nat.{ℕ, zero, suc, ◌-◌, ◌<◌}
use native.Mathlib.Omega.{arith}
use Rattle.std.proofs.Common.{eq-eqb, ne_eqb}
use Rattle.output.specs.Words.{trimmed_to}

module _ (text : List ℕ) where
  pub trim-blank : (n : ℕ) → 0 < n → get_or text (n - 1) 0 ≡ code " " → trimmed_to text n ≡ trimmed_to text (n - 1)
  unfolding trimmed_to
  trim-blank zero h e = absurd (omega arith)
  trim-blank (suc n) h e = let p : suc n - 1 ≡ n = omega arith in rw p (rw (eq-eqb (get_or text n 0) (code " ") (rw p at e)) refl)

  pub trim-other : (n : ℕ) → 0 < n → (get_or text (n - 1) 0 ≡ code " " → ⊥) → trimmed_to text n ≡ n
  unfolding trimmed_to
  trim-other zero h e = absurd (omega arith)
  trim-other (suc n) h e = let p : suc n - 1 ≡ n = omega arith in rw (ne_eqb (get_or text n 0) (code " ") (rw p at e)) refl
