-- The rules of sine and cosine at every whole angle: 01's rule by quarters, the turn, the table to 90 degrees, sizes and square sums.
-- Each angle is k turns, q quarters and i tenths in one way only, and the definitions go by q.
use Rattle.std.specs.Prelude.{◌≡◌, refl, ℕ, zero, suc, ◌+◌, ◌-◌, ◌*◌, ◌/◌, ◌%◌, ◌≤◌, ◌<◌, ◌⊎◌, ℤ, pos, negsuc, neg_ℤ, nat_abs, ◌+ℤ◌, ◌-ℤ◌, ◌*ℤ◌}
use Rattle.std.proofs.Common.{sym, ap, ap₂, ◌∙◌, subst, div-add-mod', mod-lt, eq-or-lt_of_le, le_of_suc-le-suc, le_of_lt, inl, inr, arith}
use Rattle.std.proofs.Math.IntN.{neg_ℤ-neg_ℤ}
use Rattle.exact.specs.Whole.{◌≤ᶻ◌, ◌<ᶻ◌, is, Z, ord}
use Rattle.exact.specs.Fit.{Bd, bd-neg, abs_neg}
use Rattle.exact.specs.Divide.{floor_div}
use Rattle.exact.specs.Nearest.{floor-only}
use Rattle.exact.specs.Steps.{rest-law}
use Rattle.sines.specs.Table.{sine_at, cosine_at, DifferBy}
use Rattle.sines.specs.Rules.{first, last, at_most, squares}
use Rattle.sines.specs.Angle.{sine_in, cosine_in, rest_of, sine_of, cosine_of}

-- ---- the angle a is k turns, q quarters and i tenths
record Stands (a k : ℤ) (q i : ℕ) : Type 0 where
  few : q < 4
  short : i < 900
  sum : a ≡ k *ℤ pos 3600 +ℤ pos (q * 900 + i)

above : pos 0 <ᶻ pos 3600
above = omega (arith, ord)

-- each is
parts : (a : ℤ) → Stands a (floor_div a (pos 3600)) (rest_of a / 900) (rest_of a % 900)
unfolding rest_of
parts a =
    let r = rest_of a in
    let l = rest-law a (pos 3600) above in
    let b : r < 3600 = below l.0 l.1 in
    let e : r / 900 * 900 + r % 900 ≡ r = div-add-mod' r 900 in
    record {
      few = omega arith;
      short = mod-lt r (omega arith);
      sum = back a (floor_div a (pos 3600)) (whole l.0) ∙ ap (λ (m : ℕ). floor_div a (pos 3600) *ℤ pos 3600 +ℤ pos m) (sym e);
    }
  where
    below : {z : ℤ} → pos 0 ≤ᶻ z → z <ᶻ pos 3600 → nat_abs z < 3600
    below {z = pos n} h k = omega (arith, ord)
    below {z = negsuc n} h k = absurd (omega (arith, ord))

    whole : {z : ℤ} → pos 0 ≤ᶻ z → z ≡ pos (nat_abs z)
    whole {z = pos n} h = refl
    whole {z = negsuc n} h = absurd (omega (arith, ord))

    back : (a k : ℤ) {m : ℕ} → a -ℤ k *ℤ pos 3600 ≡ pos m → a ≡ k *ℤ pos 3600 +ℤ pos m
    back a k = rw (is a, is k) (simp Z (omega arith))

-- in one way only
pub rest-is : (a k m : ℤ) → pos 0 ≤ᶻ m → m <ᶻ pos 3600 → a ≡ k *ℤ pos 3600 +ℤ m → rest_of a ≡ nat_abs m
unfolding rest_of
rest-is a k m l u e = ap nat_abs (subst (λ (q : ℤ). a -ℤ q *ℤ pos 3600 ≡ m) (floor-only a (pos 3600) k above (low l e) (high u e)) (back e))
  where
    low : pos 0 ≤ᶻ m → a ≡ k *ℤ pos 3600 +ℤ m → pos 3600 *ℤ k ≤ᶻ a
    low = rw (is a, is k, is m) (simp Z (omega arith))

    high : m <ᶻ pos 3600 → a ≡ k *ℤ pos 3600 +ℤ m → a <ᶻ pos 3600 *ℤ (k +ℤ pos 1)
    high = rw (is a, is k, is m) (simp Z (omega arith))

    back : a ≡ k *ℤ pos 3600 +ℤ m → a -ℤ k *ℤ pos 3600 ≡ m
    back = rw (is a, is k, is m) (simp Z (omega arith))

quarter-is : (r q i : ℕ) → i < 900 → r ≡ q * 900 + i → (r / 900 ≡ q) × (r % 900 ≡ i)
quarter-is r q i h e = let d = div-add-mod' r 900 in let l : r % 900 < 900 = mod-lt r (omega arith) in (omega arith, omega arith)

only : {a k : ℤ} {q i : ℕ} → Stands a k q i → (rest_of a / 900 ≡ q) × (rest_of a % 900 ≡ i)
only {a} {k} {q} {i} h = quarter-is (rest_of a) q i h.short (rest-is a k (pos (q * 900 + i)) (omega (arith, ord)) (omega (arith, ord, h.few, h.short)) h.sum)

sine-at : {a k : ℤ} {q i : ℕ} → Stands a k q i → sine_of a ≡ sine_in q i
unfolding sine_of
sine-at h = ap₂ sine_in (only h).0 (only h).1

cosine-at : {a k : ℤ} {q i : ℕ} → Stands a k q i → cosine_of a ≡ cosine_in q i
unfolding cosine_of
cosine-at h = ap₂ cosine_in (only h).0 (only h).1

-- ---- a quarter more, a turn more
next : {a k : ℤ} {q i : ℕ} → Stands a k q i → q < 3 → Stands (a +ℤ pos 900) k (suc q) i
next {a} {k} {q} {i} h f = record { few = omega arith; short = h.short; sum = go h.sum }
  where
    go : a ≡ k *ℤ pos 3600 +ℤ pos (q * 900 + i) → a +ℤ pos 900 ≡ k *ℤ pos 3600 +ℤ pos (suc q * 900 + i)
    go = rw (is a, is k) (simp Z (omega arith))

wraps : {a k : ℤ} {i : ℕ} → Stands a k 3 i → Stands (a +ℤ pos 900) (k +ℤ pos 1) 0 i
wraps {a} {k} {i} h = record { few = omega arith; short = h.short; sum = go h.sum }
  where
    go : a ≡ k *ℤ pos 3600 +ℤ pos (3 * 900 + i) → a +ℤ pos 900 ≡ (k +ℤ pos 1) *ℤ pos 3600 +ℤ pos (0 * 900 + i)
    go = rw (is a, is k) (simp Z (omega arith))

again : {a k : ℤ} {q i : ℕ} → Stands a k q i → Stands (a +ℤ pos 3600) (k +ℤ pos 1) q i
again {a} {k} {q} {i} h = record { few = h.few; short = h.short; sum = go h.sum }
  where
    go : a ≡ k *ℤ pos 3600 +ℤ pos (q * 900 + i) → a +ℤ pos 3600 ≡ (k +ℤ pos 1) *ℤ pos 3600 +ℤ pos (q * 900 + i)
    go = rw (is a, is k) (simp Z (omega arith))

quarter-more : {a k : ℤ} {q i : ℕ} → Stands a k q i → (q ≡ 3) ⊎ (q < 3) → (sine_of (a +ℤ pos 900) ≡ cosine_of a) × (cosine_of (a +ℤ pos 900) ≡ neg_ℤ (sine_of a))
unfolding sine_in
quarter-more h (inr f) = (sine-at (next h f) ∙ sym (cosine-at h), cosine-at (next h f) ∙ ap neg_ℤ (sym (sine-at h)))
quarter-more {a} {k} {i = i} h (inl f) =
    let d : Stands a k 3 i = subst (λ (q : ℕ). Stands a k q i) f h in (
      sine-at (wraps d) ∙ sym (neg_ℤ-neg_ℤ (pos (sine_at i))) ∙ sym (cosine-at d),
      cosine-at (wraps d) ∙ sym (neg_ℤ-neg_ℤ (pos (cosine_at i))) ∙ ap neg_ℤ (sym (sine-at d)),
    )

-- the rest is below four quarters
pub rest-quarters : (a : ℤ) → rest_of a / 900 < 4
rest-quarters a = (parts a).few

which : (a : ℤ) → (rest_of a / 900 ≡ 3) ⊎ (rest_of a / 900 < 3)
which a = eq-or-lt_of_le (le_of_suc-le-suc (parts a).few)

-- "sine(900 + i) is cosine i"
pub sine-quarter : (a : ℤ) → sine_of (a +ℤ pos 900) ≡ cosine_of a
sine-quarter a = (quarter-more (parts a) (which a)).0

-- "cosine(900 + i) is minus sine i"
pub cosine-quarter : (a : ℤ) → cosine_of (a +ℤ pos 900) ≡ neg_ℤ (sine_of a)
cosine-quarter a = (quarter-more (parts a) (which a)).1

-- a turn more
pub sine-turn : (a : ℤ) → sine_of (a +ℤ pos 3600) ≡ sine_of a
sine-turn a = sine-at (again (parts a)) ∙ sym (sine-at (parts a))

pub cosine-turn : (a : ℤ) → cosine_of (a +ℤ pos 3600) ≡ cosine_of a
cosine-turn a = cosine-at (again (parts a)) ∙ sym (cosine-at (parts a))

-- ---- the table, to 90 degrees
first-quarter : (i : ℕ) → i < 900 → Stands (pos i) (pos 0) 0 i
first-quarter i h = record { few = omega arith; short = h; sum = simp Z (omega arith) }

below-quarter : (i : ℕ) → i < 900 → (sine_of (pos i) ≡ pos (sine_at i)) × (cosine_of (pos i) ≡ pos (cosine_at i))
unfolding sine_in
below-quarter i h = (sine-at (first-quarter i h), cosine-at (first-quarter i h))

pub sine-zero : sine_of (pos 0) ≡ pos 0
sine-zero = (below-quarter 0 (omega arith)).0 ∙ ap pos first

pub cosine-zero : cosine_of (pos 0) ≡ pos 100000
cosine-zero = (below-quarter 0 (omega arith)).1 ∙ ap pos last

pub sine-table : (i : ℕ) → i ≤ 900 → sine_of (pos i) ≡ pos (sine_at i)
sine-table i h = go (eq-or-lt_of_le h)
  where
    go : (i ≡ 900) ⊎ (i < 900) → sine_of (pos i) ≡ pos (sine_at i)
    go (inl e) = rw e (sine-quarter (pos 0) ∙ (below-quarter 0 (omega arith)).1)
    go (inr l) = (below-quarter i l).0

-- "Cosine is the entry 900 − i."
pub cosine-table : (i : ℕ) → i ≤ 900 → cosine_of (pos i) ≡ pos (cosine_at i)
cosine-table i h = go (eq-or-lt_of_le h)
  where
    go : (i ≡ 900) ⊎ (i < 900) → cosine_of (pos i) ≡ pos (cosine_at i)
    go (inl e) = rw e (cosine-quarter (pos 0) ∙ ap neg_ℤ sine-zero ∙ sym (ap pos first))
    go (inr l) = (below-quarter i l).1

-- ---- the right angles, quarter by quarter
pub sine-900 : sine_of (pos 900) ≡ pos 100000
sine-900 = sine-quarter (pos 0) ∙ cosine-zero

pub cosine-900 : cosine_of (pos 900) ≡ pos 0
cosine-900 = cosine-quarter (pos 0) ∙ ap neg_ℤ sine-zero

pub sine-1800 : sine_of (pos 1800) ≡ pos 0
sine-1800 = sine-quarter (pos 900) ∙ cosine-900

pub cosine-1800 : cosine_of (pos 1800) ≡ negsuc 99999
cosine-1800 = cosine-quarter (pos 900) ∙ ap neg_ℤ sine-900

pub sine-2700 : sine_of (pos 2700) ≡ negsuc 99999
sine-2700 = sine-quarter (pos 1800) ∙ cosine-1800

pub cosine-2700 : cosine_of (pos 2700) ≡ pos 0
cosine-2700 = cosine-quarter (pos 1800) ∙ ap neg_ℤ sine-1800

-- ---- no sine or cosine is larger than 100,000
sizes : (q i : ℕ) → i ≤ 900 → Bd (sine_in q i) 100000 × Bd (cosine_in q i) 100000
unfolding sine_in
sizes zero i h = (record { bd = at_most i h }, record { bd = at_most (900 - i) (omega arith) })
sizes (suc q) i h = let s = sizes q i h in (s.1, bd-neg s.0)

pub tenths-few : (r : ℕ) → r % 900 ≤ 900
tenths-few r = le_of_lt (mod-lt r (omega arith))

pub sine-size : (a : ℤ) → Bd (sine_of a) 100000
unfolding sine_of
sine-size a = (sizes (rest_of a / 900) (rest_of a % 900) (tenths-few (rest_of a))).0

pub cosine-size : (a : ℤ) → Bd (cosine_of a) 100000
unfolding cosine_of
cosine-size a = (sizes (rest_of a / 900) (rest_of a % 900) (tenths-few (rest_of a))).1

-- ---- "Squares of sine and cosine sum to 10,000,000,000 within 150,000", at every angle
abbrev square : ℤ → ℕ
square z = nat_abs z * nat_abs z

sums : (q i : ℕ) → i ≤ 900 → DifferBy 150000 (square (sine_in q i) + square (cosine_in q i)) 10000000000
unfolding sine_in
sums zero i h = squares i h
sums (suc q) i h = swap (sine_in q i) (cosine_in q i) (sums q i h)
  where
    swap : (s c : ℤ) → DifferBy 150000 (square s + square c) 10000000000 → DifferBy 150000 (square c + square (neg_ℤ s)) 10000000000
    swap s c h = rw (abs_neg s) (omega arith, omega arith)

pub squares-all : (a : ℤ) → DifferBy 150000 (nat_abs (sine_of a) * nat_abs (sine_of a) + nat_abs (cosine_of a) * nat_abs (cosine_of a)) 10000000000
unfolding sine_of cosine_of
squares-all a = sums (rest_of a / 900) (rest_of a % 900) (tenths-few (rest_of a))
