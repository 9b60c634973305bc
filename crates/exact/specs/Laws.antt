-- The laws of ℤ that `lib.IntN` and `lib.Signed` lack: the ring's, and those of the order with products. What is linear needs no law: `rw (is x, ..) (simp Z (omega arith))`.
-- Assumes nothing.
use Rattle.std.specs.Prelude.{◌≡◌, ◌⊎◌, ℕ, ◌<◌, ℤ, pos, negsuc, neg_ℤ, ◌+ℤ◌, ◌-ℤ◌, ◌*ℤ◌}
use Rattle.std.proofs.Common.{sym, inl, inr, mul-pos, arith}
use Rattle.std.proofs.Math.IntN.{*ℤ_comm, +ℤ_comm, +ℤ_assoc}
use Rattle.exact.specs.Whole.{◌≤ᶻ◌, ◌<ᶻ◌, is, Z, ord}

-- ---- the ring
pub *ℤ-assoc : (a b c : ℤ) → (a *ℤ b) *ℤ c ≡ a *ℤ (b *ℤ c)
*ℤ-assoc a b c = rw (is a, is b, is c) (simp Z (omega arith))

pub *ℤ-left-comm : (a b c : ℤ) → a *ℤ (b *ℤ c) ≡ b *ℤ (a *ℤ c)
*ℤ-left-comm a b c = rw (is a, is b, is c) (simp Z (omega arith))

pub *ℤ-add : (a b c : ℤ) → a *ℤ (b +ℤ c) ≡ a *ℤ b +ℤ a *ℤ c
*ℤ-add a b c = rw (is a, is b, is c) (simp Z (omega arith))

pub add-*ℤ : (a b c : ℤ) → (a +ℤ b) *ℤ c ≡ a *ℤ c +ℤ b *ℤ c
add-*ℤ a b c = rw (is a, is b, is c) (simp Z (omega arith))

pub *ℤ-neg : (a b : ℤ) → a *ℤ neg_ℤ b ≡ neg_ℤ (a *ℤ b)
*ℤ-neg a b = rw (is a, is b) (simp Z (omega arith))

pub neg-*ℤ : (a b : ℤ) → neg_ℤ a *ℤ b ≡ neg_ℤ (a *ℤ b)
neg-*ℤ a b = rw (is a, is b) (simp Z (omega arith))

pub +ℤ-left-comm : (a b c : ℤ) → a +ℤ (b +ℤ c) ≡ b +ℤ (a +ℤ c)
+ℤ-left-comm a b c = rw (is a, is b, is c) (simp Z (omega arith))

-- products sorted, sums sorted, and products of sums multiplied out
pub ruleset *-ac = (*ℤ_comm, *ℤ-assoc, *ℤ-left-comm)

pub ruleset +-ac = (+ℤ_comm, +ℤ_assoc, +ℤ-left-comm)

pub ruleset spread = (*ℤ-add, add-*ℤ, *ℤ-neg, neg-*ℤ)

-- ---- the order

-- a sign is a case: z is a natural, or the negative of one that is not 0
pub sign : (z : ℤ) → (pos 0 ≤ᶻ z) ⊎ (z <ᶻ pos 0)
sign (pos n) = inl (omega (arith, ord))
sign (negsuc n) = inr (omega (arith, ord))

≤-total-by : (a b : ℤ) → (pos 0 ≤ᶻ b -ℤ a) ⊎ (b -ℤ a <ᶻ pos 0) → (a ≤ᶻ b) ⊎ (b <ᶻ a)
≤-total-by a b (inl h) = inl (go a b h)
  where
    go : (a b : ℤ) → pos 0 ≤ᶻ b -ℤ a → a ≤ᶻ b
    go a b = rw (is a, is b) (simp Z (omega arith))
≤-total-by a b (inr h) = inr (go a b h)
  where
    go : (a b : ℤ) → b -ℤ a <ᶻ pos 0 → b <ᶻ a
    go a b = rw (is a, is b) (simp Z (omega arith))

pub ≤-total : (a b : ℤ) → (a ≤ᶻ b) ⊎ (b <ᶻ a)
≤-total a b = ≤-total-by a b (sign (b -ℤ a))

pub sub-nonneg : {a b : ℤ} → a ≤ᶻ b → pos 0 ≤ᶻ b -ℤ a
sub-nonneg {a} {b} = rw (is a, is b) (simp Z (omega arith))

pub sub-pos : {a b : ℤ} → a <ᶻ b → pos 0 <ᶻ b -ℤ a
sub-pos {a} {b} = rw (is a, is b) (simp Z (omega arith))

-- the two facts on products, from which the others follow linearly
pub mul-nonneg : {a b : ℤ} → pos 0 ≤ᶻ a → pos 0 ≤ᶻ b → pos 0 ≤ᶻ a *ℤ b
mul-nonneg {a = pos a} {b = pos b} h k = omega (arith, ord)
mul-nonneg {a = pos a} {b = negsuc b} h k = absurd (omega (arith, ord))
mul-nonneg {a = negsuc a} {b} h k = absurd (omega (arith, ord))

pub mul-posᶻ : {a b : ℤ} → pos 0 <ᶻ a → pos 0 <ᶻ b → pos 0 <ᶻ a *ℤ b
mul-posᶻ {a = pos a} {b = pos b} h k = pos-go a b (omega (arith, ord)) (omega (arith, ord))
  where
    pos-go : (a b : ℕ) → 0 < a → 0 < b → pos 0 <ᶻ pos a *ℤ pos b
    pos-go a b h k = omega (arith, ord, mul-pos h k)
mul-posᶻ {a = pos a} {b = negsuc b} h k = absurd (omega (arith, ord))
mul-posᶻ {a = negsuc a} {b} h k = absurd (omega (arith, ord))

-- a square is not negative
pub square-nonneg : (a : ℤ) → pos 0 ≤ᶻ a *ℤ a
square-nonneg (pos n) = omega (arith, ord)
square-nonneg (negsuc n) = omega (arith, ord)

-- multiplication by what is not negative, or positive, keeps the order, and can be taken away
pub mul-≤ : {a b c : ℤ} → pos 0 ≤ᶻ c → a ≤ᶻ b → c *ℤ a ≤ᶻ c *ℤ b
mul-≤ {a} {b} {c} h k = go (mul-nonneg h (sub-nonneg k))
  where
    go : pos 0 ≤ᶻ c *ℤ (b -ℤ a) → c *ℤ a ≤ᶻ c *ℤ b
    go = rw (is a, is b, is c) (simp Z (omega arith))

pub mul-< : {a b c : ℤ} → pos 0 <ᶻ c → a <ᶻ b → c *ℤ a <ᶻ c *ℤ b
mul-< {a} {b} {c} h k = go (mul-posᶻ h (sub-pos k))
  where
    go : pos 0 <ᶻ c *ℤ (b -ℤ a) → c *ℤ a <ᶻ c *ℤ b
    go = rw (is a, is b, is c) (simp Z (omega arith))

<-weak : {a b : ℤ} → a <ᶻ b → a ≤ᶻ b
<-weak h = omega (arith, ord)

clash : {a b : ℤ} → a <ᶻ b → b ≤ᶻ a → ⊥
clash h k = omega (arith, ord)

pub lt_of_mul : {a b c : ℤ} → pos 0 <ᶻ c → c *ℤ a <ᶻ c *ℤ b → a <ᶻ b
lt_of_mul {a} {b} {c} h k = go (≤-total b a)
  where
    go : (b ≤ᶻ a) ⊎ (a <ᶻ b) → a <ᶻ b
    go (inl l) = absurd (clash k (mul-≤ (<-weak h) l))
    go (inr l) = l

pub le-of-mul : {a b c : ℤ} → pos 0 <ᶻ c → c *ℤ a ≤ᶻ c *ℤ b → a ≤ᶻ b
le-of-mul {a} {b} {c} h k = go (≤-total a b)
  where
    go : (a ≤ᶻ b) ⊎ (b <ᶻ a) → a ≤ᶻ b
    go (inl l) = l
    go (inr l) = absurd (clash (mul-< h l) k)

pub eq-of-mul : {a b c : ℤ} → pos 0 <ᶻ c → c *ℤ a ≡ c *ℤ b → a ≡ b
eq-of-mul {a} {b} {c} h e = anti (le-of-mul {c = c} h (eq-le e)) (le-of-mul {c = c} h (eq-le (sym e)))
  where
    eq-le : {x y : ℤ} → x ≡ y → x ≤ᶻ y
    eq-le e = omega (arith, ord)

    anti : {x y : ℤ} → x ≤ᶻ y → y ≤ᶻ x → x ≡ y
    anti h k = omega (arith, ord)
