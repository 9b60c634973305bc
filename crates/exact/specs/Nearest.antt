-- The laws of the two divisions: which number each is, that it is the only one, and what a shift, a factor, a sign and the order do to the nearest.
-- Use a quotient through these, never through its definition.
use Rattle.std.specs.Prelude.{◌≡◌, refl, ◌⊎◌, ℕ, zero, suc, ◌+◌, ◌*◌, ◌/◌, ◌≤◌, ◌<◌, ℤ, pos, negsuc, neg_ℤ, ◌+ℤ◌, ◌*ℤ◌}
use Rattle.std.proofs.Common.{ap, ◌∙◌, inl, inr, arith}
use Rattle.std.proofs.Math.Nat.{mul-div-le, lt-mul-div-succ}
use Rattle.std.proofs.Math.IntN.{suc_ℤ, +ℤ_one}
use Rattle.std.specs.Int.Signed.{shr_z}
use Rattle.exact.specs.Whole.{◌≤ᶻ◌, ◌<ᶻ◌, is, Z, ord, up_neg, dn-neg}
use Rattle.exact.specs.Laws.{lt_of_mul, mul-≤, mul-<, mul-posᶻ, sign, *ℤ-neg, neg-*ℤ}
use Rattle.exact.specs.Divide.{floor_div, nearest_div}

-- ---- the law of the floor
suc-neg : (k : ℕ) → negsuc k +ℤ pos 1 ≡ neg_ℤ (pos k)
suc-neg k = +ℤ_one (negsuc k) ∙ go k
  where
    go : (k : ℕ) → suc_ℤ (negsuc k) ≡ neg_ℤ (pos k)
    go zero = refl
    go (suc k) = refl

floor-pos : (z : ℤ) (m : ℕ) → 0 < m → (pos m *ℤ shr_z z m ≤ᶻ z) × (z <ᶻ pos m *ℤ (shr_z z m +ℤ pos 1))
floor-pos (pos a) m h = omega (arith, ord, mul-div-le a m, lt-mul-div-succ a h)
floor-pos (negsuc a) m h =
    let k = a / m in
    let l : m * k ≤ a = mul-div-le a m in
    let u : a < m * (k + 1) = lt-mul-div-succ a h in
    (omega (arith, ord, up_neg (pos (m * suc k)), dn-neg (pos (m * suc k))), rw (suc-neg, *ℤ-neg) (omega (arith, ord, up_neg (pos (m * k)), dn-neg (pos (m * k)))))

pub floor-law : (a b : ℤ) → pos 0 <ᶻ b → (b *ℤ floor_div a b ≤ᶻ a) × (a <ᶻ b *ℤ (floor_div a b +ℤ pos 1))
floor-law a (pos m) h = floor-pos a m (omega (arith, ord))
floor-law a (negsuc m) h = absurd (omega (arith, ord))

-- and the floor is the only number with the law
pub floor-only : (a b q : ℤ) → pos 0 <ᶻ b → b *ℤ q ≤ᶻ a → a <ᶻ b *ℤ (q +ℤ pos 1) → q ≡ floor_div a b
floor-only a b q h l u = le_antisymm (below q (floor_div a b) (lt_of_mul h (lt-chain l (floor-law a b h).1))) (below (floor_div a b) q (lt_of_mul h (lt-chain (floor-law a b h).0 u)))
  where
    lt-chain : {a b c : ℤ} → a ≤ᶻ b → b <ᶻ c → a <ᶻ c
    lt-chain h k = omega (arith, ord)

    below : (x y : ℤ) → x <ᶻ y +ℤ pos 1 → x ≤ᶻ y
    below x y = rw (is x, is y) (simp Z (omega arith))

    le_antisymm : {x y : ℤ} → x ≤ᶻ y → y ≤ᶻ x → x ≡ y
    le_antisymm h k = omega (arith, ord)

-- ---- signs
pub twice-pos : {d : ℤ} → pos 0 <ᶻ d → pos 0 <ᶻ pos 2 *ℤ d
twice-pos {d} = rw (is d) (simp Z (omega arith))

pub neg-pos : {d : ℤ} → d <ᶻ pos 0 → pos 0 <ᶻ neg_ℤ d
neg-pos {d} = rw (is d) (simp Z (omega arith))

pub pos_of : {d : ℤ} → pos 0 ≤ᶻ d → (d ≡ pos 0 → ⊥) → pos 0 <ᶻ d
pos_of {d = pos zero} h k = absurd (k refl)
pos_of {d = pos (suc n)} h k = omega (arith, ord)
pos_of {d = negsuc n} h k = absurd (omega (arith, ord))

-- ---- the law of the nearest
pub nearest-law : (n d : ℤ) → pos 0 <ᶻ d → (pos 2 *ℤ d *ℤ nearest_div n d ≤ᶻ pos 2 *ℤ n +ℤ d) × (pos 2 *ℤ n +ℤ d <ᶻ pos 2 *ℤ d *ℤ (nearest_div n d +ℤ pos 1))
unfolding nearest_div
nearest-law n (pos m) h = floor-law (pos 2 *ℤ n +ℤ pos m) (pos 2 *ℤ pos m) (omega (arith, ord))
nearest-law n (negsuc m) h = absurd (omega (arith, ord))

nearest-above : (n d : ℤ) → pos 0 <ᶻ d → floor_div (pos 2 *ℤ n +ℤ d) (pos 2 *ℤ d) ≡ nearest_div n d
unfolding nearest_div
nearest-above n (pos m) h = refl
nearest-above n (negsuc m) h = absurd (omega (arith, ord))

-- the nearest is the only number with its law
pub nearest-only : (n d q : ℤ) → pos 0 <ᶻ d → pos 2 *ℤ d *ℤ q ≤ᶻ pos 2 *ℤ n +ℤ d → pos 2 *ℤ n +ℤ d <ᶻ pos 2 *ℤ d *ℤ (q +ℤ pos 1) → q ≡ nearest_div n d
nearest-only n d q h l u = floor-only (pos 2 *ℤ n +ℤ d) (pos 2 *ℤ d) q (twice-pos h) l u ∙ nearest-above n d h

-- ---- a whole number more, before or after
pub nearest-shift : (n d k : ℤ) → pos 0 <ᶻ d → k +ℤ nearest_div n d ≡ nearest_div (n +ℤ k *ℤ d) d
nearest-shift n d k h = let l = nearest-law n d h in nearest-only (n +ℤ k *ℤ d) d (k +ℤ nearest_div n d) h (low (nearest_div n d) l.0) (high (nearest_div n d) l.1)
  where
    low : (q : ℤ) → pos 2 *ℤ d *ℤ q ≤ᶻ pos 2 *ℤ n +ℤ d → pos 2 *ℤ d *ℤ (k +ℤ q) ≤ᶻ pos 2 *ℤ (n +ℤ k *ℤ d) +ℤ d
    low q = rw (is n, is d, is k, is q) (simp Z (omega arith))

    high : (q : ℤ) → pos 2 *ℤ n +ℤ d <ᶻ pos 2 *ℤ d *ℤ (q +ℤ pos 1) → pos 2 *ℤ (n +ℤ k *ℤ d) +ℤ d <ᶻ pos 2 *ℤ d *ℤ (k +ℤ q +ℤ pos 1)
    high q = rw (is n, is d, is k, is q) (simp Z (omega arith))

-- a factor of both
pub scaled : (n d k : ℤ) → pos 0 <ᶻ d → pos 0 <ᶻ k → nearest_div n d ≡ nearest_div (n *ℤ k) (d *ℤ k)
scaled n d k h p =
    let l = nearest-law n d h in
    nearest-only (n *ℤ k) (d *ℤ k) (nearest_div n d) (mul-posᶻ h p) (low (nearest_div n d) (mul-≤ (weak p) l.0)) (high (nearest_div n d) (mul-< p l.1))
  where
    weak : {a b : ℤ} → a <ᶻ b → a ≤ᶻ b
    weak h = omega (arith, ord)

    low : (q : ℤ) → k *ℤ (pos 2 *ℤ d *ℤ q) ≤ᶻ k *ℤ (pos 2 *ℤ n +ℤ d) → pos 2 *ℤ (d *ℤ k) *ℤ q ≤ᶻ pos 2 *ℤ (n *ℤ k) +ℤ d *ℤ k
    low q = rw (is n, is d, is k, is q) (simp Z (omega arith))

    high : (q : ℤ) → k *ℤ (pos 2 *ℤ n +ℤ d) <ᶻ k *ℤ (pos 2 *ℤ d *ℤ (q +ℤ pos 1)) → pos 2 *ℤ (n *ℤ k) +ℤ d *ℤ k <ᶻ pos 2 *ℤ (d *ℤ k) *ℤ (q +ℤ pos 1)
    high q = rw (is n, is d, is k, is q) (simp Z (omega arith))

pub product-some : {d k : ℤ} → (d ≡ pos 0 → ⊥) → pos 0 <ᶻ k → d *ℤ k ≡ pos 0 → ⊥
product-some {d} {k} z p e = go (sign d)
  where
    above : {x : ℤ} → pos 0 <ᶻ x → x ≡ pos 0 → ⊥
    above h e = omega (arith, ord)

    go : (pos 0 ≤ᶻ d) ⊎ (d <ᶻ pos 0) → ⊥
    go (inl l) = above (mul-posᶻ (pos_of l z) p) e
    go (inr l) = above (mul-posᶻ (neg-pos l) p) (neg-*ℤ d k ∙ ap neg_ℤ e)

-- the order
pub nearest-mono : (m n d : ℤ) → pos 0 <ᶻ d → m ≤ᶻ n → nearest_div m d ≤ᶻ nearest_div n d
nearest-mono m n d h l = below (nearest_div m d) (nearest_div n d) (lt_of_mul {c = pos 2 *ℤ d} (twice-pos h) (go (nearest_div m d) (nearest_div n d) l (nearest-law m d h).0 (nearest-law n d h).1))
  where
    go : (p q : ℤ) → m ≤ᶻ n → pos 2 *ℤ d *ℤ p ≤ᶻ pos 2 *ℤ m +ℤ d → pos 2 *ℤ n +ℤ d <ᶻ pos 2 *ℤ d *ℤ (q +ℤ pos 1) → pos 2 *ℤ d *ℤ p <ᶻ pos 2 *ℤ d *ℤ (q +ℤ pos 1)
    go p q = rw (is m, is n, is d, is p, is q) (simp Z (omega arith))

    below : (p q : ℤ) → p <ᶻ q +ℤ pos 1 → p ≤ᶻ q
    below p q = rw (is p, is q) (simp Z (omega arith))
