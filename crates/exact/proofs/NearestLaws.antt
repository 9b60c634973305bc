-- The laws of the nearest for divisors of both signs: what a sign of both and a factor of both do to it, and how large it is. They stand here, and not among the
-- others (Nearest.antt, Steps.antt), so that a definition which rounds a half another way for a negative divisor is refused by the law that it breaks.
use Rattle.std.specs.Prelude.{◌≡◌, refl, ◌⊎◌, ℕ, zero, suc, ◌+◌, ◌*◌, ◌≤◌, ℤ, pos, negsuc, neg_ℤ, nat_abs, ◌+ℤ◌, ◌*ℤ◌}
use Rattle.std.proofs.Common.{sym, ap, ap₂, ◌∙◌, inl, inr, arith}
use Rattle.std.proofs.Math.IntN.{neg_ℤ-neg_ℤ}
use Rattle.exact.specs.Whole.{◌≤ᶻ◌, ◌<ᶻ◌}
use Rattle.exact.specs.Laws.{sign, neg-*ℤ}
use Rattle.exact.specs.Fit.{Bd, abs-add, abs-mul, abs_neg}
use Rattle.exact.specs.Divide.{floor_div, nearest_div}
use Rattle.exact.specs.Nearest.{neg-pos, pos_of, scaled, product-some}
use Rattle.exact.specs.Steps.{abs-floor}

-- ---- a sign of both, a factor of both
pub nearest-neg : (n d : ℤ) → (d ≡ pos 0 → ⊥) → nearest_div (neg_ℤ n) (neg_ℤ d) ≡ nearest_div n d
unfolding nearest_div
nearest-neg n (pos zero) h = absurd (h refl)
nearest-neg n (pos (suc m)) h = ap (λ (x : ℤ). floor_div (pos 2 *ℤ x +ℤ pos (suc m)) (pos 2 *ℤ pos (suc m))) (neg_ℤ-neg_ℤ n)
nearest-neg n (negsuc m) h = refl

pub nearest-times : (n d k : ℤ) → (d ≡ pos 0 → ⊥) → pos 0 <ᶻ k → nearest_div n d ≡ nearest_div (n *ℤ k) (d *ℤ k)
nearest-times n d k z p = go (sign d)
  where
    go : (pos 0 ≤ᶻ d) ⊎ (d <ᶻ pos 0) → nearest_div n d ≡ nearest_div (n *ℤ k) (d *ℤ k)
    go (inl l) = scaled n d k (pos_of l z) p
    go (inr l) =
        sym (nearest-neg n d z) ∙ scaled (neg_ℤ n) (neg_ℤ d) k (neg-pos l) p ∙ ap₂ nearest_div (neg-*ℤ n k) (neg-*ℤ d k)
        ∙ nearest-neg (n *ℤ k) (d *ℤ k) (product-some z p)

-- ---- the size
abs-two : (n m : ℤ) → nat_abs (pos 2 *ℤ n +ℤ m) ≤ 2 * nat_abs n + nat_abs m
abs-two n m = omega (arith, abs-add (pos 2 *ℤ n) m, abs-mul (pos 2) n)

pub abs-nearest : (n d : ℤ) → nat_abs (nearest_div n d) ≤ 2 * nat_abs n + nat_abs d + 1
unfolding nearest_div
abs-nearest n (pos m) = omega (arith, abs-floor (pos 2 *ℤ n +ℤ pos m) (pos 2 *ℤ pos m), abs-two n (pos m))
abs-nearest n (negsuc m) = omega (arith, abs-floor (pos 2 *ℤ neg_ℤ n +ℤ pos (suc m)) (pos 2 *ℤ pos (suc m)), abs-two (neg_ℤ n) (pos (suc m)), abs_neg n)

pub nearest-size : {n d : ℤ} {a b : ℕ} → Bd n a → Bd d b → Bd (nearest_div n d) (2 * a + b + 1)
nearest-size {n} {d} h k = record { bd = omega (arith, abs-nearest n d, h.bd, k.bd) }
