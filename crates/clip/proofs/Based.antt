-- An exact position B + O · D / W is rounded by one division: B plus the nearest to O · D / W. Why it holds: a whole number more moves the nearest by itself.
use Rattle.std.specs.Prelude.{◌≡◌, refl, ℕ, zero, suc, ℤ, pos, negsuc, neg_ℤ, ◌+ℤ◌, ◌*ℤ◌}
use Rattle.std.proofs.Common.{sym, ap, ◌∙◌, subst, arith}
use Rattle.std.proofs.Math.IntN.{+ℤ_comm}
use Rattle.exact.specs.Whole.{ord}
use Rattle.exact.specs.Divide.{nearest_div}
use Rattle.exact.specs.Nearest.{nearest-shift}
use Rattle.exact.proofs.NearestLaws.{nearest-neg}
use Rattle.clip.specs.Line.{based, nearest_whole, Rounds}
use Rattle.clip.proofs.Halves.{rounds}

shift : (B n : ℤ) (w : ℕ) → nearest_div (B *ℤ pos (suc w) +ℤ n) (pos (suc w)) ≡ B +ℤ nearest_div n (pos (suc w))
shift B n w = ap (λ (z : ℤ). nearest_div z (pos (suc w))) (+ℤ_comm (B *ℤ pos (suc w)) n) ∙ sym (nearest-shift n (pos (suc w)) B (omega (arith, ord)))

pub based-nearest : (B O D W : ℤ) → (W ≡ pos 0 → ⊥) → nearest_whole (based B O D W) ≡ B +ℤ nearest_div (O *ℤ D) W
based-nearest B O D (pos zero) h = absurd (h refl)
based-nearest B O D (pos (suc w)) h = shift B (O *ℤ D) w
based-nearest B O D (negsuc w) h = shift B (neg_ℤ (O *ℤ D)) w ∙ ap (λ (z : ℤ). B +ℤ z) (nearest-neg (O *ℤ D) (negsuc w) h)

-- so that whole number, the location, rounds the exact position
pub based-rounds : (B O D W : ℤ) → (W ≡ pos 0 → ⊥) → Rounds (based B O D W) (B +ℤ nearest_div (O *ℤ D) W)
based-rounds B O D W h = subst (λ (z : ℤ). Rounds (based B O D W) z) (based-nearest B O D W h) (rounds (based B O D W))
