-- Proofs only, for ExactnessLaws.antt: both axes of `clip`. Why it holds: a point is in the box if it is in both its ranges, and the larger of two entries is
-- past both.
use Rattle.std.specs.Prelude.{◌≡◌, refl, ◌⊎◌, ℕ, zero, suc, ◌+◌, ◌*◌, ◌-◌, ◌≤◌, ◌<◌, max, ℤ, pos, Some, None}
use Rattle.std.proofs.Common.{sym, ◌∙◌, inl, inr, mul_comm, mul-pos, mul-le-mul_left, arith}
use Rattle.std.proofs.Math.Nat.{le_of_mul-le-mul_left}
use Rattle.exact.specs.Whole.{◌≤ᶻ◌, ◌<ᶻ◌, lt-<?, le-<?, up, dn, ord}
use Rattle.exact.specs.Parts.{Is, v, #, ◌⊕◌, ◌⊖◌, ◌⊗◌, ◌⊛◌, le→, →le}
use Rattle.exact.specs.Fit.{abs}
use Rattle.exact.specs.Laws.{≤-total}
use Rattle.clip.specs.Clip.{extent, steps, axis_entry, larger, entry, axis_place, place, clip}
use Rattle.clip.specs.Line.{whole, between, Inside, nearest_whole, exactly, nearest, at, Within}
use Rattle.clip.specs.Axis.{times, extent-sym, extent-pos, natural, recast, In, Past, in-past, past-in, place-nearest}
use Rattle.clip.specs.declared.Point.{Point}
use Rattle.clip.specs.declared.Rect.{Rect}

-- the steps of the segment, and those from a till the box is entered, as naturals
abbrev pub all : Point → Point → ℕ
all a b = up (extent a.x b.x) * up (extent a.y b.y)

abbrev pub till : Rect → Point → Point → ℕ
till r a b = up (entry r a b)

above : {z : ℤ} → pos 0 <ᶻ z → 0 < up z
above h = omega (arith, ord)

not-below : {z : ℤ} → pos 0 <ᶻ z → pos 0 ≤ᶻ z
not-below h = omega (arith, ord)

pub all_above : (a b : Point) → 0 < all a b
all_above a b = mul-pos (above (extent-pos a.x b.x)) (above (extent-pos a.y b.y))

pub all-sym : (a b : Point) → all b a ≡ all a b
all-sym a b = rw (extent-sym a.x b.x, extent-sym a.y b.y) refl

-- ---- the larger
larger-up : (a b : ℤ) → up (larger a b) ≡ max (up a) (up b)
unfolding larger
larger-up a b = go (≤-total b a)
  where
    go : (b ≤ᶻ a) ⊎ (a <ᶻ b) → up (larger a b) ≡ max (up a) (up b)
    go (inl h) = rw (le-<? h) (omega (arith, ord, abs a, abs b))
    go (inr h) = rw (lt-<? h) (omega (arith, ord, abs a, abs b))

larger-ge : (a b : ℤ) → a ≤ᶻ larger a b
unfolding larger
larger-ge a b = go (≤-total b a)
  where
    go : (b ≤ᶻ a) ⊎ (a <ᶻ b) → a ≤ᶻ larger a b
    go (inl h) = rw (le-<? h) (omega (arith, ord))
    go (inr h) = rw (lt-<? h) (omega (arith, ord))

pub entry-is : (r : Rect) (a b : Point) → Is (entry r a b) (till r a b) 0
unfolding entry
entry-is r a b = natural (larger-ge (pos 0) _)

pub till-max : (r : Rect) (a b : Point) →
    till r a b ≡ max (up (axis_entry r.left r.right a.x b.x (extent a.y b.y))) (up (axis_entry r.bottom r.top a.y b.y (extent a.x b.x)))
unfolding entry
till-max r a b = rw (larger-up, larger-up) (omega arith)

max-both : (x y z M Z : ℕ) → z ≡ max x y → x * M ≤ Z → y * M ≤ Z → z * M ≤ Z
max-both x y z M Z e h l = go (y - x) refl
  where
    go : (d : ℕ) → y - x ≡ d → z * M ≤ Z
    go zero q = let f : z ≡ x = omega arith in rw f h
    go (suc d) q = let f : z ≡ y = omega arith in rw f l

max-each : (x y z M Z : ℕ) → z ≡ max x y → z * M ≤ Z → (x * M ≤ Z) × (y * M ≤ Z)
max-each x y z M Z e h = omega (arith, mul-le-mul_left M (let l : x ≤ z = omega arith in l), mul-le-mul_left M (let l : y ≤ z = omega arith in l))

-- ---- between the words of Line.antt and ℕ
pub of-between : (p q : ℤ) (k n : ℕ) (h : 0 < n) → Is (between (whole p) (whole q) k n h).num ((n - k) * up p + k * up q) ((n - k) * dn p + k * dn q)
of-between p q k n h = recast (omega arith) (omega arith) ((n - k) * 1 ⊛ v p ⊕ k * 1 ⊛ v q)

pub inside-in : (lo hi p q : ℤ) (k n : ℕ) (h : 0 < n) → k ≤ n → Inside lo hi 0 (between (whole p) (whole q) k n h) → In lo hi p q (n - k) k
inside-in lo hi p q k n h l i =
    let e : n - k + k ≡ n = omega arith in
    record {
      low = omega (arith, times (up lo) e, times (dn lo) e, le→ (n * (1 * 1) ⊛ (v lo ⊕ # 0)) (1 ⊛ of-between p q k n h) i.low.le);
      high = omega (arith, times (up hi) e, times (dn hi) e, le→ (1 ⊛ of-between p q k n h) (n * (1 * 1) ⊛ (v hi ⊖ # 0)) i.high.le);
    }

pub in-inside : (lo hi p q : ℤ) (k n : ℕ) (h : 0 < n) → k ≤ n → In lo hi p q (n - k) k → Inside lo hi 0 (between (whole p) (whole q) k n h)
in-inside lo hi p q k n h l i =
    let e : n - k + k ≡ n = omega arith in
    record {
      low = record { le = →le (n * (1 * 1) ⊛ (v lo ⊕ # 0)) (1 ⊛ of-between p q k n h) (omega (arith, times (up lo) e, times (dn lo) e, i.low)) };
      high = record { le = →le (1 ⊛ of-between p q k n h) (n * (1 * 1) ⊛ (v hi ⊖ # 0)) (omega (arith, times (up hi) e, times (dn hi) e, i.high)) };
    }

-- ---- a point of the segment is in the box exactly if it is past the entry and before the exit
pub record Crosses (r : Rect) (a b : Point) (k n : ℕ) : Type 0 where
  pub after : till r a b * n ≤ k * all a b
  pub before : till r b a * n ≤ (n - k) * all a b

abbrev wide : Point → Point → ℤ
wide a b = extent a.x b.x

abbrev high : Point → Point → ℤ
high a b = extent a.y b.y

till-back : (r : Rect) (a b : Point) →
    till r b a ≡ max (up (axis_entry r.left r.right b.x a.x (high a b))) (up (axis_entry r.bottom r.top b.y a.y (wide a b)))
till-back r a b = rw (extent-sym a.x b.x, extent-sym a.y b.y) (till-max r b a)

module _ (r : Rect) (a b : Point) (k n : ℕ) (l : k ≤ n) (p : 0 < n) where
  pub crosses : Within r 0 (at (exactly a) (exactly b) k n p) → Crosses r a b k n
  crosses w =
      let x : Past r.left r.right a.x b.x (high a b) (n - k) k = in-past _ _ _ _ _ (n - k) k (omega arith) (extent-pos _ _) (inside-in _ _ _ _ k n p l w.x) in
      let y : Past r.bottom r.top a.y b.y (wide a b) (n - k) k = in-past _ _ _ _ _ (n - k) k (omega arith) (extent-pos _ _) (inside-in _ _ _ _ k n p l w.y) in
      let e : n - k + k ≡ n = omega arith in
      record {
        after = max-both _ _ _ n _ (till-max r a b) (rw e at x.after) (omega (arith, rw e at y.after));
        before = max-both _ _ _ n _ (till-back r a b) (rw e at x.before) (omega (arith, rw e at y.before));
      }

  pub within : Crosses r a b k n → Within r 0 (at (exactly a) (exactly b) k n p)
  within c =
      let e : n - k + k ≡ n = omega arith in
      let s = max-each _ _ _ n _ (till-max r a b) c.after in
      let t = max-each _ _ _ n _ (till-back r a b) c.before in
      let x : Past r.left r.right a.x b.x (high a b) (n - k) k = record { after = rw e s.0; before = rw e t.0 } in
      let y : Past r.bottom r.top a.y b.y (wide a b) (n - k) k = record { after = rw e (omega (arith, s.1)); before = rw e (omega (arith, t.1)) } in
      record {
        x = in-inside _ _ _ _ k n p l (past-in _ _ _ _ _ (n - k) k (omega arith) (extent-pos _ _) x);
        y = in-inside _ _ _ _ k n p l (past-in _ _ _ _ _ (n - k) k (omega arith) (extent-pos _ _) y);
      }

-- ---- the answer: a stroke exactly if the entry is not past the exit
pub shows : (r : Rect) (a b : Point) → till r a b + till r b a ≤ all a b → clip r a b ≡ Some (place a b (entry r a b), place b a (entry r b a))
unfolding clip steps
shows r a b h = rw (le-<? (→le (entry-is r a b ⊕ entry-is r b a) (natural (not-below (extent-pos a.x b.x)) ⊗ natural (not-below (extent-pos a.y b.y))) (omega arith)))

pub hides : (r : Rect) (a b : Point) → all a b < till r a b + till r b a → clip r a b ≡ None
unfolding clip steps
hides r a b h = rw (lt-<? (→lt (natural (not-below (extent-pos a.x b.x)) ⊗ natural (not-below (extent-pos a.y b.y))) (entry-is r a b ⊕ entry-is r b a) (omega arith)))
  where
    →lt : {a b : ℤ} {p n q m : ℕ} → Is a p n → Is b q m → p + m < q + n → a <ᶻ b
    →lt {a} {b} i j e = omega (arith, ord)

-- ---- the places are the nearest to the exact ones, k of n steps from either end
start-axis : (p q u m : ℤ) (k n : ℕ) (h : 0 < n) → pos 0 <ᶻ u → Is m k 0 → k ≤ n → n ≡ up (extent p q) * up u → axis_place p q u m ≡ nearest_whole (between (whole p) (whole q) k n h)
start-axis p q u m k n h pu im l e = place-nearest p q u m _ (n - k) k (n * (1 * 1)) pu im (omega arith) (of-between p q k n h) (omega arith)

stop-axis : (p q u m : ℤ) (k n : ℕ) (h : 0 < n) → pos 0 <ᶻ u → Is m k 0 → k ≤ n → n ≡ up (extent q p) * up u → axis_place q p u m ≡ nearest_whole (between (whole p) (whole q) (n - k) n h)
stop-axis p q u m k n h pu im l e =
    let f : n - (n - k) ≡ k = omega arith in
    place-nearest q p u m _ (n - k) k (n * (1 * 1)) pu im (omega arith) (recast (omega (arith, times (up p) f)) (omega (arith, times (dn p) f)) (of-between p q (n - k) n h)) (omega arith)

pub start-nearest : (a b : Point) (m : ℤ) (k : ℕ) → Is m k 0 → k ≤ all a b → place a b m ≡ nearest (at (exactly a) (exactly b) k (all a b) (all_above a b))
unfolding place
start-nearest a b m k im l = λ i. record {
  x = start-axis a.x b.x (high a b) m k (all a b) (all_above a b) (extent-pos _ _) im l refl i;
  y = start-axis a.y b.y (wide a b) m k (all a b) (all_above a b) (extent-pos _ _) im l (mul_comm _ _) i;
}

pub stop-nearest : (a b : Point) (m : ℤ) (k : ℕ) → Is m k 0 → k ≤ all a b → place b a m ≡ nearest (at (exactly a) (exactly b) (all a b - k) (all a b) (all_above a b))
unfolding place
stop-nearest a b m k im l = λ i. record {
  x = stop-axis a.x b.x (high b a) m k (all a b) (all_above a b) (extent-pos _ _) im l (rw (extent-sym a.x b.x, extent-sym a.y b.y) refl) i;
  y = stop-axis a.y b.y (wide b a) m k (all a b) (all_above a b) (extent-pos _ _) im l (rw (extent-sym a.x b.x, extent-sym a.y b.y) (mul_comm _ _)) i;
}

-- ---- and so is the answer
pub hidden≢ : {e : Point × Point} → None ≡ Some e → ⊥
hidden≢ e = cc

pub fits : (r : Rect) (a b s t : Point) → clip r a b ≡ Some (s, t) → till r a b + till r b a ≤ all a b
fits r a b s t h = go (till r a b + till r b a - all a b) refl
  where
    go : (d : ℕ) → till r a b + till r b a - all a b ≡ d → till r a b + till r b a ≤ all a b
    go zero e = omega arith
    go (suc d) e = absurd (hidden≢ (sym (hides r a b (omega arith)) ∙ h))

pub crossed : (r : Rect) (a b : Point) (k n : ℕ) → k ≤ n → 0 < n → Crosses r a b k n → till r a b + till r b a ≤ all a b
crossed r a b k n l p c = let e : n - k + k ≡ n = omega arith in le_of_mul-le-mul_left {k = n} (omega (arith, c.after, c.before, times (all a b) e)) p

-- measured from the other end
pub from_start : (k k' n D m d : ℕ) → k' + k ≡ n → d + m ≡ D → m * n ≤ k' * D → k * D ≤ d * n
from_start k k' n D m d e f h = omega (arith, times D e, times n f)

pub from-stop : (k k' n D m d : ℕ) → k' + k ≡ n → d + m ≡ D → k * D ≤ d * n → m * n ≤ k' * D
from-stop k k' n D m d e f h = omega (arith, times D e, times n f)
