-- How the code comes to its quotients, by `/`, which rounds toward zero, and by a remainder; and how large what it makes can be.
use Rattle.std.specs.Prelude.{◌≡◌, refl, Bool, true, false, cond, ℕ, suc, ◌+◌, ◌/◌, ◌≤◌, ℤ, pos, negsuc, neg_ℤ, nat_abs, ◌+ℤ◌, ◌-ℤ◌, ◌*ℤ◌}
use Rattle.std.proofs.Common.{ap, ◌∙◌, arith, SFits}
use Rattle.std.specs.Int.Signed.{mag, lt_z, quot_z, mag_shr}
use Rattle.std.specs.Int.{w64}
use mir.ValLaws.{sfits_le}
use Rattle.exact.specs.Whole.{◌≤ᶻ◌, ◌<ᶻ◌, lt_z-true, lt_z-false, is, Z, ord, ext, add_parts, up_neg, dn-neg}
use Rattle.exact.specs.Fit.{Bd, abs}
use Rattle.exact.specs.Divide.{floor_div, nearest_div}
use Rattle.exact.specs.Nearest.{floor-law, nearest-only}

-- ---- how the code comes to the floor, by `/`, which rounds toward zero
flip : (k : ℕ) → negsuc 0 -ℤ negsuc k ≡ pos k
flip k = ext (negsuc 0 -ℤ negsuc k) (pos k) (omega (arith, add_parts (negsuc 0) (pos (suc k))))

flop : (k : ℕ) → negsuc 0 -ℤ pos k ≡ negsuc k
flop k = ext (negsuc 0 -ℤ pos k) (negsuc k) (omega (arith, add_parts (negsuc 0) (neg_ℤ (pos k)), up_neg (pos k), dn-neg (pos k)))

-- a, or -1 - a
unfoldable pub mirrored_of : Bool → ℤ → ℤ
mirrored_of below a = cond below (negsuc 0 -ℤ a) a

floor-below : (a b : ℤ) → a <ᶻ pos 0 → pos 0 <ᶻ b → negsuc 0 -ℤ quot_z (negsuc 0 -ℤ a) b ≡ floor_div a b
floor-below (pos n) b h k = absurd (omega (arith, ord))
floor-below (negsuc n) (pos m) h k = ap (λ (x : ℤ). negsuc 0 -ℤ quot_z x (pos m)) (flip n) ∙ flop (n / m)
floor-below (negsuc n) (negsuc m) h k = absurd (omega (arith, ord))

floor-above : (a b : ℤ) → pos 0 ≤ᶻ a → pos 0 <ᶻ b → quot_z a b ≡ floor_div a b
floor-above (pos n) (pos m) h k = refl
floor-above (pos n) (negsuc m) h k = absurd (omega (arith, ord))
floor-above (negsuc n) b h k = absurd (omega (arith, ord))

pub floor-mirrored : (a b : ℤ) → pos 0 <ᶻ b → mirrored_of (lt_z a (pos 0)) (quot_z (mirrored_of (lt_z a (pos 0)) a) b) ≡ floor_div a b
unfolding mirrored_of
floor-mirrored a b h = go (lt_z a (pos 0)) refl
  where
    go : (t : Bool) → lt_z a (pos 0) ≡ t → mirrored_of t (quot_z (mirrored_of t a) b) ≡ floor_div a b
    go true e = floor-below a b (lt_z-true _ _ e) h
    go false e = floor-above a b (lt_z-false _ _ e) h

pub floor-fits : (a b : ℤ) → SFits w64 a → SFits w64 (floor_div a b)
floor-fits a b f = sfits_le (mag_shr a (nat_abs b)) f

pub mirror-fits : (a : ℤ) → SFits w64 a → SFits w64 (negsuc 0 -ℤ a)
mirror-fits (pos n) f = rw (flop n) (record { sfits = f.sfits })
mirror-fits (negsuc n) f = rw (flip n) (record { sfits = f.sfits })

pub flip-size : {a : ℤ} → SFits w64 a → a <ᶻ pos 0 → Bd (negsuc 0 -ℤ a) 9223372036854775807
flip-size {a = pos n} f h = absurd (omega (arith, ord))
flip-size {a = negsuc n} f h = rw (flip n) (record { bd = omega (arith, f.sfits) })

natural-size : {a : ℤ} → SFits w64 a → pos 0 ≤ᶻ a → Bd a 9223372036854775807
natural-size {a = pos n} f h = record { bd = omega (arith, f.sfits) }
natural-size {a = negsuc n} f h = absurd (omega (arith, ord))

pub mirror-size : (a : ℤ) → SFits w64 a → Bd (mirrored_of (lt_z a (pos 0)) a) 9223372036854775807
unfolding mirrored_of
mirror-size a f = go (lt_z a (pos 0)) refl
  where
    go : (t : Bool) → lt_z a (pos 0) ≡ t → Bd (mirrored_of t a) 9223372036854775807
    go true e = flip-size f (lt_z-true _ _ e)
    go false e = natural-size f (lt_z-false _ _ e)

pub not-zero : {b : ℤ} → pos 0 <ᶻ b → b ≡ pos 0 → ⊥
not-zero h e = omega (arith, ord)

-- ---- by the remainder m = n − q d of the floor q
pub rest-law : (n d : ℤ) → pos 0 <ᶻ d → (pos 0 ≤ᶻ n -ℤ floor_div n d *ℤ d) × (n -ℤ floor_div n d *ℤ d <ᶻ d)
rest-law n d h = let l = floor-law n d h in go (floor_div n d) l.0 l.1
  where
    go : (q : ℤ) → d *ℤ q ≤ᶻ n → n <ᶻ d *ℤ (q +ℤ pos 1) → (pos 0 ≤ᶻ n -ℤ q *ℤ d) × (n -ℤ q *ℤ d <ᶻ d)
    go q = rw (is n, is d, is q) (simp Z (λ a b. (omega arith, omega arith)))

up-low : (n d q : ℤ) → d -ℤ (n -ℤ q *ℤ d) ≤ᶻ n -ℤ q *ℤ d → pos 2 *ℤ d *ℤ (q +ℤ pos 1) ≤ᶻ pos 2 *ℤ n +ℤ d
up-low n d q = rw (is n, is d, is q) (simp Z (omega arith))

up-high : (n d q : ℤ) → n -ℤ q *ℤ d <ᶻ d → pos 0 ≤ᶻ n -ℤ q *ℤ d → pos 2 *ℤ n +ℤ d <ᶻ pos 2 *ℤ d *ℤ (q +ℤ pos 1 +ℤ pos 1)
up-high n d q = rw (is n, is d, is q) (simp Z (omega arith))

down-low : (n d q : ℤ) → pos 0 ≤ᶻ n -ℤ q *ℤ d → n -ℤ q *ℤ d <ᶻ d → pos 2 *ℤ d *ℤ q ≤ᶻ pos 2 *ℤ n +ℤ d
down-low n d q = rw (is n, is d, is q) (simp Z (omega arith))

down-high : (n d q : ℤ) → n -ℤ q *ℤ d <ᶻ d -ℤ (n -ℤ q *ℤ d) → pos 2 *ℤ n +ℤ d <ᶻ pos 2 *ℤ d *ℤ (q +ℤ pos 1)
down-high n d q = rw (is n, is d, is q) (simp Z (omega arith))

-- the remainder is at least what lacks to d: one more than the floor
pub nearest-up : (n d : ℤ) → pos 0 <ᶻ d → d -ℤ (n -ℤ floor_div n d *ℤ d) ≤ᶻ n -ℤ floor_div n d *ℤ d → floor_div n d +ℤ pos 1 ≡ nearest_div n d
nearest-up n d h l =
    let r = rest-law n d h in
    nearest-only n d (floor_div n d +ℤ pos 1) h (up-low n d (floor_div n d) l) (up-high n d (floor_div n d) r.1 r.0)

pub nearest-down : (n d : ℤ) → pos 0 <ᶻ d → n -ℤ floor_div n d *ℤ d <ᶻ d -ℤ (n -ℤ floor_div n d *ℤ d) → floor_div n d ≡ nearest_div n d
nearest-down n d h l =
    let r = rest-law n d h in
    nearest-only n d (floor_div n d) h (down-low n d (floor_div n d) r.0 r.1) (down-high n d (floor_div n d) l)

-- ---- sizes
pub rest-size : (n d : ℤ) {b : ℕ} → pos 0 <ᶻ d → Bd d b → Bd (n -ℤ floor_div n d *ℤ d) b
rest-size n d h k = let r = rest-law n d h in go r.0 r.1 k.bd
  where
    go : {m d : ℤ} {b : ℕ} → pos 0 ≤ᶻ m → m <ᶻ d → nat_abs d ≤ b → Bd m b
    go {m} {d} l u k = record { bd = omega (arith, ord, abs m, abs d) }

pub lack-size : (n d : ℤ) {b : ℕ} → pos 0 <ᶻ d → Bd d b → Bd (d -ℤ (n -ℤ floor_div n d *ℤ d)) b
lack-size n d h k = let r = rest-law n d h in go (low (n -ℤ floor_div n d *ℤ d) d r.1) (high (n -ℤ floor_div n d *ℤ d) d r.0) k.bd
  where
    low : (m d : ℤ) → m <ᶻ d → pos 0 ≤ᶻ d -ℤ m
    low m d = rw (is m, is d) (simp Z (omega arith))

    high : (m d : ℤ) → pos 0 ≤ᶻ m → d -ℤ m ≤ᶻ d
    high m d = rw (is m, is d) (simp Z (omega arith))

    go : {m d : ℤ} {b : ℕ} → pos 0 ≤ᶻ m → m ≤ᶻ d → nat_abs d ≤ b → Bd m b
    go {m} {d} l u k = record { bd = omega (arith, ord, abs m, abs d) }

-- q d = n − m
pub floor-times-size : (n d : ℤ) {a b : ℕ} → pos 0 <ᶻ d → Bd n a → Bd d b → Bd (floor_div n d *ℤ d) (a + b)
floor-times-size n d h k l = let r = rest-law n d h in go n (floor_div n d *ℤ d) d r.0 r.1 k.bd l.bd
  where
    low : (n z d : ℤ) → n -ℤ z <ᶻ d → n <ᶻ z +ℤ d
    low n z d = rw (is n, is z, is d) (simp Z (omega arith))

    high : (n z : ℤ) → pos 0 ≤ᶻ n -ℤ z → z ≤ᶻ n
    high n z = rw (is n, is z) (simp Z (omega arith))

    go : {a b : ℕ} (n z d : ℤ) → pos 0 ≤ᶻ n -ℤ z → n -ℤ z <ᶻ d → nat_abs n ≤ a → nat_abs d ≤ b → Bd z (a + b)
    go n z d p q k l = let e = low n z d q in let f = high n z p in record { bd = omega (arith, ord, e, f, add_parts z d, abs z, abs n, abs d, abs (z +ℤ d)) }

-- ---- the size of a quotient
abs_mag : (z : ℤ) → nat_abs z ≤ mag z + 1
abs_mag (pos n) = omega arith
abs_mag (negsuc n) = omega arith

mag-abs : (z : ℤ) → mag z ≤ nat_abs z
mag-abs (pos n) = omega arith
mag-abs (negsuc n) = omega arith

pub abs-floor : (a b : ℤ) → nat_abs (floor_div a b) ≤ nat_abs a + 1
abs-floor a b = omega (arith, abs_mag (floor_div a b), mag_shr a (nat_abs b), mag-abs a)

pub floor-size : (a b : ℤ) {n : ℕ} → Bd a n → Bd (floor_div a b) (n + 1)
floor-size a b h = record { bd = omega (arith, abs-floor a b, h.bd) }
