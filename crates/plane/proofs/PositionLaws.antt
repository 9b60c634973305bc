-- The laws of the position on an axis: its location rounds the exact position, and the bounds go round: Storable, a number more, Locatable, in range, Storable.
use Rattle.std.specs.Prelude.{◌≡◌, refl, ◌⊎◌, Bool, true, false, cond, ℕ, zero, suc, ◌+◌, ◌*◌, ◌≤◌, ◌<◌, ℤ, pos, negsuc, neg_ℤ, nat_abs, ◌+ℤ◌, ◌-ℤ◌, ◌*ℤ◌}
use Rattle.std.proofs.Common.{sym, ap, ◌∙◌, subst, inl, inr, mul-le-mul_left, arith}
use Rattle.std.proofs.Math.IntN.{+ℤ_idr}
use Rattle.exact.specs.Whole.{◌≤ᶻ◌, ◌<ᶻ◌, is, Z, ord, up_neg, dn-neg, ◌<?◌, <?-false, le-<?}
use Rattle.exact.specs.Laws.{mul-≤, sign, add-*ℤ}
use Rattle.exact.specs.Fit.{Bd, abs, abs-mul, abs-add, abs_neg, bd-le, lit, ◌⊟◌, ◌⊠◌}
use Rattle.exact.specs.Divide.{nearest_div}
use Rattle.exact.specs.Nearest.{nearest-law, nearest-only, pos_of, neg-pos}
use Rattle.exact.proofs.NearestLaws.{nearest-neg}
use Rattle.clip.specs.Line.{based, nearest_whole, Rounds}
use Rattle.clip.proofs.Based.{based-nearest}
use Rattle.clip.proofs.Halves.{rounds}
use Rattle.clip.specs.Reach.{reach}
use Rattle.plane.specs.declared.position.Axis.{Axis}
use Rattle.plane.specs.declared.position.ExactPosition.{ExactPosition}
use Rattle.clip.specs.Fractions.{sum_f, Same}
use Rattle.plane.specs.Position.{axis_of, absolute_of, relative_of, exact_of, location_of, in_range_of}
use Rattle.plane.specs.Bounds.{most_number, most_point, most_product, AxisBounds, Locatable, Storable}

-- ---- "the location is that, rounded"
pub location-nearest : (a : Axis) (p : ExactPosition) → (a.width ≡ pos 0 → ⊥) → location_of a p ≡ nearest_whole (exact_of a p)
unfolding location_of
location-nearest a p z = sym (based-nearest p.base p.offset a.span a.width z)

pub location-rounds : (a : Axis) (p : ExactPosition) → (a.width ≡ pos 0 → ⊥) → Rounds (exact_of a p) (location_of a p)
location-rounds a p z = subst (Rounds (exact_of a p)) (sym (location-nearest a p z)) (rounds (exact_of a p))

-- "Relative mode adds to O": n × D / W more, unrounded, and so however many numbers there are
pub relative-exact : (a : Axis) (p : ExactPosition) (n : ℤ) → (a.width ≡ pos 0 → ⊥) → Same (exact_of a (relative_of p n)) (sum_f (exact_of a p) (based (pos 0) n a.span a.width))
unfolding relative_of
relative-exact a p n z = go p.base p.offset a.span a.width z
  where
    plus : (d : ℕ) (B O D : ℤ) → pos (d * d) *ℤ (B *ℤ pos d +ℤ (O +ℤ n) *ℤ D) ≡ pos d *ℤ (pos d *ℤ (B *ℤ pos d +ℤ O *ℤ D) +ℤ pos d *ℤ (pos 0 *ℤ pos d +ℤ n *ℤ D))
    plus d B O D = rw (is B, is O, is n, is D) (simp Z (omega arith))

    minus : (d : ℕ) (B O D : ℤ) → pos (d * d) *ℤ (B *ℤ pos d -ℤ (O +ℤ n) *ℤ D) ≡ pos d *ℤ (pos d *ℤ (B *ℤ pos d -ℤ O *ℤ D) +ℤ pos d *ℤ (pos 0 *ℤ pos d -ℤ n *ℤ D))
    minus d B O D = rw (is B, is O, is n, is D) (simp Z (omega arith))

    go : (B O D W : ℤ) → (W ≡ pos 0 → ⊥) → Same (based B (O +ℤ n) D W) (sum_f (based B O D W) (based (pos 0) n D W))
    go B O D (pos zero) z = absurd (z refl)
    go B O D (pos (suc w)) z = record { eq = plus (suc w) B O D }
    go B O D (negsuc w) z = record { eq = minus (suc w) B O D }

pub relative-twice : (p : ExactPosition) (m n : ℤ) → relative_of (relative_of p m) n ≡ relative_of p (m +ℤ n)
unfolding relative_of
relative-twice p m n = λ i. record { base = p.base; offset = sum p.offset i }
  where
    sum : (O : ℤ) → O +ℤ m +ℤ n ≡ O +ℤ (m +ℤ n)
    sum O = rw (is O, is m, is n) (simp Z (omega arith))

-- "B becomes the location and O 0": the location stays
pub rebased-location : (a : Axis) (n : ℤ) → (a.width ≡ pos 0 → ⊥) → location_of a (record { base = n; offset = pos 0 }) ≡ n
unfolding location_of
rebased-location a n z = ap (λ (q : ℤ). n +ℤ q) (ap (λ (x : ℤ). nearest_div x a.width) (zero-times a.span) ∙ nothing (sign a.width)) ∙ +ℤ_idr n
  where
    zero-times : (D : ℤ) → pos 0 *ℤ D ≡ pos 0
    zero-times D = rw (is D) (simp Z (omega arith))

    above : (w : ℤ) → pos 0 <ᶻ w → nearest_div (pos 0) w ≡ pos 0
    above (pos w) h = sym (nearest-only (pos 0) (pos w) (pos 0) h (omega (arith, ord)) (omega (arith, ord)))
    above (negsuc w) h = absurd (omega (arith, ord))

    nothing : (pos 0 ≤ᶻ a.width) ⊎ (a.width <ᶻ pos 0) → nearest_div (pos 0) a.width ≡ pos 0
    nothing (inl l) = above a.width (pos_of l z)
    nothing (inr l) = sym (nearest-neg (pos 0) a.width z) ∙ above (neg_ℤ a.width) (neg-pos l)

-- ---- a location in range bounds the product: n / w rounds to at most 2,000,000, and so is at most 2,000,000.5
two-sided : {q : ℤ} → Bd q (2 * reach) → (q ≤ᶻ pos 2000000) × (negsuc 1999999 ≤ᶻ q)
two-sided {q} h = (omega (arith, ord, abs q, h.bd), omega (arith, ord, abs q, h.bd))

weak : {a b : ℤ} → a <ᶻ b → a ≤ᶻ b
weak h = omega (arith, ord)

product-above : (n w : ℤ) → pos 0 <ᶻ w → Bd (nearest_div n w) (2 * reach) → nat_abs n ≤ 2000001 * nat_abs w
product-above n w p h =
    let l = nearest-law n w p in
    let b = two-sided h in
    let k = between (nearest_div n w) p l.0 l.1 (mul-≤ (weak p) b.0) (mul-≤ (weak p) b.1) in
    size k.0 k.1 p
  where
    between : (q : ℤ) → pos 0 <ᶻ w → pos 2 *ℤ w *ℤ q ≤ᶻ pos 2 *ℤ n +ℤ w → pos 2 *ℤ n +ℤ w <ᶻ pos 2 *ℤ w *ℤ (q +ℤ pos 1) →
        w *ℤ q ≤ᶻ w *ℤ pos 2000000 → w *ℤ negsuc 1999999 ≤ᶻ w *ℤ q → (n ≤ᶻ pos 2000001 *ℤ w) × (neg_ℤ (pos 2000001 *ℤ w) ≤ᶻ n)
    between q = rw (is n, is w, is q) (simp Z (λ a b c d e. (omega arith, omega arith)))

    size : {a b : ℤ} → a ≤ᶻ pos 2000001 *ℤ b → neg_ℤ (pos 2000001 *ℤ b) ≤ᶻ a → pos 0 <ᶻ b → nat_abs a ≤ 2000001 * nat_abs b
    size {a} {b = pos b} h k l = omega (arith, ord, abs a, up_neg (pos 2000001 *ℤ pos b), dn-neg (pos 2000001 *ℤ pos b))
    size {a} {b = negsuc b} h k l = absurd (omega (arith, ord))

product-bound : (n w : ℤ) → (w ≡ pos 0 → ⊥) → Bd (nearest_div n w) (2 * reach) → nat_abs n ≤ 2000001 * nat_abs w
product-bound n w z h = go (sign w)
  where
    go : (pos 0 ≤ᶻ w) ⊎ (w <ᶻ pos 0) → nat_abs n ≤ 2000001 * nat_abs w
    go (inl l) = product-above n w (pos_of l z) h
    go (inr l) = omega (arith, abs_neg n, abs_neg w, product-above (neg_ℤ n) (neg_ℤ w) (neg-pos l) (subst (λ (q : ℤ). Bd q (2 * reach)) (sym (nearest-neg n w z)) h))

-- ---- the test of a location is its bound
pub in-range : (n : ℤ) → in_range_of n ≡ true → Bd n reach
unfolding in_range_of
in-range n = go (n <? neg_ℤ (pos reach)) refl (pos reach <? n) refl
  where
    no : false ≡ true → ⊥
    no e = let z : ◌≡◌ {A = ℕ} 0 1 = ap {B = ℕ} (λ (t : Bool). cond t 1 0) e in omega arith

    go : (s : Bool) → (n <? neg_ℤ (pos reach)) ≡ s → (t : Bool) → (pos reach <? n) ≡ t → cond s false (cond t false true) ≡ true → Bd n reach
    go true e t f h = absurd (no h)
    go false e true f h = absurd (no h)
    go false e false f h =
        let l = <?-false n (neg_ℤ (pos reach)) e in
        let u = <?-false (pos reach) n f in
        record { bd = omega (arith, ord, abs n, l, u) }

pub in-range-of : (n : ℤ) → Bd n reach → in_range_of n ≡ true
unfolding in_range_of
in-range-of n h =
    let l : neg_ℤ (pos reach) ≤ᶻ n = omega (arith, ord, abs n, h.bd) in
    let u : n ≤ᶻ pos reach = omega (arith, ord, abs n, h.bd) in
    rw (le-<? l, le-<? u) refl

-- ---- the bounds, from one to the next

-- the axis that the settings make: "P1 and P2 .. differ in x and in y", "min and max must differ"
pub axis-bounds : (scaled : Bool) (p1 p2 least most : ℤ) → Bd p1 most_point → Bd p2 most_point → Bd least most_number → Bd most most_number →
    (p1 ≡ p2 → ⊥) → (least ≡ most → ⊥) → AxisBounds (axis_of scaled p1 p2 least most)
unfolding axis_of
axis-bounds true p1 p2 least most a b c d e f = record {
  origin = a;
  least = c;
  span = b ⊟ a;
  moves = apart p1 p2 e;
  width = d ⊟ c;
  some = apart least most f;
}
  where
    apart : (a b : ℤ) → (a ≡ b → ⊥) → b -ℤ a ≡ pos 0 → ⊥
    apart a b z e = z (go a b e)
      where
        go : (a b : ℤ) → b -ℤ a ≡ pos 0 → a ≡ b
        go a b = rw (is a, is b) (simp Z (omega arith))
axis-bounds false p1 p2 least most a b c d e f = record {
  origin = bd-le (lit (pos 0)) tt;
  least = bd-le (lit (pos 0)) tt;
  span = bd-le (lit (pos 1)) tt;
  moves = λ e. omega (arith, ap nat_abs e);
  width = bd-le (lit (pos 10000)) tt;
  some = λ e. omega (arith, ap nat_abs e);
}

-- an absolute position
pub absolute-locatable : {a : Axis} (n : ℤ) → AxisBounds a → Bd n most_number → Locatable a (absolute_of a n)
unfolding absolute_of
absolute-locatable n s h = record { base = bd-le s.origin tt; product = bd-le ((h ⊟ s.least) ⊠ s.span) tt; width = s.width; some = s.some }

-- a number more
pub relative-locatable : {a : Axis} {p : ExactPosition} (n : ℤ) → AxisBounds a → Storable a p → Bd n most_number → Locatable a (relative_of p n)
unfolding relative_of
relative-locatable {a} {p} n s k h = record { base = k.base; product = more; width = s.width; some = s.some }
  where
    more : Bd ((p.offset +ℤ n) *ℤ a.span) most_product
    more =
        subst (λ (z : ℤ). Bd z most_product) (sym (add-*ℤ p.offset n a.span))
        (record { bd = omega (arith, abs-add (p.offset *ℤ a.span) (n *ℤ a.span), k.product.bd, s.width.bd, (h ⊠ s.span).bd) })

-- what stands already
pub storable-locatable : {a : Axis} {p : ExactPosition} → AxisBounds a → Storable a p → Locatable a p
storable-locatable s k = record { base = k.base; product = record { bd = omega (arith, k.product.bd, s.width.bd) }; width = s.width; some = s.some }

-- a position whose location is in range may be stored
pub located-storable : {a : Axis} {p : ExactPosition} → Locatable a p → Bd (location_of a p) reach → Storable a p
unfolding location_of
located-storable {a} {p} t h = record {
  base = t.base;
  product = record { bd = product-bound n a.width t.some (subst (λ (q : ℤ). Bd q (2 * reach)) (without p.base (nearest_div n a.width)) (bd-le (h ⊟ t.base) tt)) };
}
  where
    n : ℤ
    n = p.offset *ℤ a.span

    without : (B q : ℤ) → B +ℤ q -ℤ B ≡ q
    without B q = rw (is B, is q) (simp Z (omega arith))

pub absolute-storable : {a : Axis} (n : ℤ) → AxisBounds a → Bd n most_number → in_range_of (location_of a (absolute_of a n)) ≡ true → Storable a (absolute_of a n)
absolute-storable {a} n s h e = located-storable (absolute-locatable n s h) (in-range (location_of a (absolute_of a n)) e)

pub relative-storable : {a : Axis} {p : ExactPosition} (n : ℤ) → AxisBounds a → Storable a p → Bd n most_number → in_range_of (location_of a (relative_of p n)) ≡ true → Storable a (relative_of p n)
relative-storable {a} {p} n s k h e = located-storable (relative-locatable n s k h) (in-range (location_of a (relative_of p n)) e)

-- "B becomes the location and O 0"
pub rebased-storable : {a : Axis} (n : ℤ) → Bd n reach → Storable a (record { base = n; offset = pos 0 })
rebased-storable {a} n h = record { base = h; product = record { bd = omega (arith, abs-mul (pos 0) a.span) } }

-- the offset itself, for a factor is not larger than the product
pub offset-size : (O D : ℤ) (m : ℕ) → (D ≡ pos 0 → ⊥) → Bd (O *ℤ D) m → Bd O m
offset-size O D m z h = record { bd = omega (arith, abs-mul O D, h.bd, mul-le-mul_left (nat_abs O) (at_least z)) }
  where
    at_least : {d : ℤ} → (d ≡ pos 0 → ⊥) → 1 ≤ nat_abs d
    at_least {d = pos zero} z = absurd (z refl)
    at_least {d = pos (suc n)} z = omega arith
    at_least {d = negsuc n} z = omega arith

-- what `relative` asks
pub storable-offset : {a : Axis} {p : ExactPosition} → AxisBounds a → Storable a p → Bd p.offset most_product
storable-offset {a} {p} s k = offset-size p.offset a.span most_product s.moves (storable-locatable s k).product
