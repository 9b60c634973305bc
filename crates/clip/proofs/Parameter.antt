-- Proofs only, for Nearness.antt: which point of the line belongs to a point of the stroke, and the other way. Why it holds: the stroke runs over the part
-- from `first` to `last` of the segment, so what is at k of n on it is at (n − k) first + k last of n · parts on the segment and on the line.
use Rattle.std.specs.Prelude.{◌≡◌, refl, ℕ, zero, suc, ◌+◌, ◌*◌, ◌-◌, ◌≤◌, ◌<◌, ℤ, Some}
use Rattle.std.proofs.Common.{sym, subst, mul-pos, mul-le-mul_left, arith}
use Rattle.exact.specs.Whole.{ext}
use Rattle.exact.specs.Parts.{v, #, ◌⊕◌, ◌⊖◌, ◌⊛◌, le→, →le}
use Rattle.clip.specs.Clip.{clip}
use Rattle.clip.specs.Line.{whole, between, Inside, Rounds, Exact, exactly, nearest, RoundsTo, at, Close, HasClose, Within}
use Rattle.clip.specs.Axis.{times}
use Rattle.clip.proofs.Crossing.{in-inside}
use Rattle.clip.specs.Exactness.{Part}
use Rattle.clip.proofs.ExactnessLaws.{exact-part, exact-ends}
use Rattle.clip.proofs.Halves.{rounds, near, keep}
use Rattle.clip.specs.declared.Point.{Point}
use Rattle.clip.specs.declared.Rect.{Rect}

rounds-by : (e : Exact) {s : Point} → s ≡ nearest e → RoundsTo e s
rounds-by e h = subst (λ (z : Point). RoundsTo e z) (sym h) (record { x = rounds e.x; y = rounds e.y })

-- what is known of a stroke: its ends round the ends of the part, which are in the box
pub record Shown (r : Rect) (a b s t : Point) : Type 0 where
  pub part : Part r a b
  pub start : RoundsTo (at (exactly a) (exactly b) part.first part.parts part.some) s
  pub stop : RoundsTo (at (exactly a) (exactly b) part.last part.parts part.some) t

pub shown : (r : Rect) (a b s t : Point) → clip r a b ≡ Some (s, t) → Shown r a b s t
shown r a b s t h = let e = exact-ends r a b s t h in record {
  part = exact-part r a b s t h;
  start = rounds-by _ e.start;
  stop = rounds-by _ e.stop;
}

kept : (r : Rect) (s : Point) (e : Exact) → Within r 0 e → RoundsTo e s → Within r 0 (exactly s)
kept r s e w h = record { x = keep _ _ _ _ w.x h.x; y = keep _ _ _ _ w.y h.y }

pub ends-within : {r : Rect} {a b s t : Point} → Shown r a b s t → Within r 0 (exactly s) × Within r 0 (exactly t)
ends-within {r} {a} {b} {s} {t} h =
    let i = h.part in
    let l : i.first * i.parts ≤ i.last * i.parts = omega (arith, mul-le-mul_left i.parts i.order) in
    let o : i.first ≤ i.parts = omega (arith, i.order, i.upto) in (
      kept r s _ ((i.points i.first i.parts o i.some).1 (omega arith, l)) h.start,
      kept r t _ ((i.points i.last i.parts i.upto i.some).1 (l, omega arith)) h.stop,
    )

-- the points at the same parameter are close
close : {r : Rect} {e f : Exact} {a b s t : Point} (h : Shown r a b s t) → RoundsTo e a → RoundsTo f b → (k n j m : ℕ) (pn : 0 < n) (pm : 0 < m) → k ≤ n → j ≤ m →
    ((n - k) * h.part.first + k * h.part.last) * m ≡ j * (n * h.part.parts) → Close (at (exactly s) (exactly t) k n pn) (at e f j m pm)
close {e = e} {f} h he hf k n j m pn pm kn jm q =
    let i = h.part in
    let o : i.first ≤ i.parts = omega (arith, i.order, i.upto) in record {
      x = near e.x f.x i.parts i.first i.last k n j m i.some pn pm o i.upto kn jm q h.start.x h.stop.x he.x hf.x;
      y = near e.y f.y i.parts i.first i.last k n j m i.some pn pm o i.upto kn jm q h.start.y h.stop.y he.y hf.y;
    }

turned : {e f : Exact} → Close e f → Close f e
turned c = record { x = record { above = c.x.below; below = c.x.above }; y = record { above = c.y.below; below = c.y.above } }

-- from the stroke to the line
share : (k k' D a0 a1 n : ℕ) → k' + k ≡ n → a0 ≤ D → a1 ≤ D → k' * a0 + k * a1 ≤ n * D
share k k' D a0 a1 n e h l = omega (arith, mul-le-mul_left k' h, mul-le-mul_left k l, times D e)

pub to-line : {r : Rect} {e f : Exact} {a b s t : Point} → Shown r a b s t → RoundsTo e a → RoundsTo f b → (k n : ℕ) (p : 0 < n) → k ≤ n → HasClose e f (at (exactly s) (exactly t) k n p)
to-line h he hf k n p l =
    let i = h.part in
    let j : ℕ = (n - k) * i.first + k * i.last in
    let u : j ≤ n * i.parts = share k (n - k) i.parts i.first i.last n (omega arith) (omega (arith, i.order, i.upto)) i.upto in
    record { k = j; n = n * i.parts; upto = u; some = mul-pos p i.some; close = close h he hf k n j (n * i.parts) p (mul-pos p i.some) l u refl }

-- from the line to the stroke: at k of k + k', or, where the part is one point, anywhere
record Share (j m D a0 a1 : ℕ) : Type 0 where
  k : ℕ
  n : ℕ
  upto : k ≤ n
  some : 0 < n
  here : ((n - k) * a0 + k * a1) * m ≡ j * (n * D)

same : (j m D a0 a1 k k' n : ℕ) → k + a0 * m ≡ j * D → k' + j * D ≡ a1 * m → k' + k ≡ n → (k' * a0 + k * a1) * m ≡ j * (n * D)
same j m D a0 a1 k k' n e f g = omega (arith, times m one, times (j * D) two)
  where
    one : k' * a0 + k * a1 + j * D * a0 ≡ j * D * a1
    one = omega (arith, times a0 f, times a1 e)

    two : n + a0 * m ≡ a1 * m
    two = omega arith

share-of : (j m D a0 a1 : ℕ) → 0 < m → a0 * m ≤ j * D → j * D ≤ a1 * m → Share j m D a0 a1
share-of j m D a0 a1 pm h l = go (a1 * m - a0 * m) refl
  where
    go : (d : ℕ) → a1 * m - a0 * m ≡ d → Share j m D a0 a1
    go zero e = record { k = 0; n = 1; upto = omega arith; some = omega arith; here = omega arith }
    go (suc d) e = record {
      k = j * D - a0 * m;
      n = suc d;
      upto = omega arith;
      some = omega arith;
      here = same j m D a0 a1 (j * D - a0 * m) (suc d - (j * D - a0 * m)) (suc d) (omega arith) (omega arith) (omega arith);
    }

pub to-stroke : {r : Rect} {e f : Exact} {a b s t : Point} → Shown r a b s t → RoundsTo e a → RoundsTo f b → (k n : ℕ) (p : 0 < n) → k ≤ n →
    Within r 0 (at (exactly a) (exactly b) k n p) → HasClose (exactly s) (exactly t) (at e f k n p)
to-stroke h he hf k n p l w =
    let i = h.part in
    let c = (i.points k n l p).0 w in
    let q = share-of k n i.parts i.first i.last p c.0 c.1 in
    record { k = q.k; n = q.n; upto = q.upto; some = q.some; close = turned (close h he hf q.k q.n k n q.some p q.upto l q.here) }

-- ---- an end of the segment that is in the box is where its part begins or ends, and what is rounded there is that end itself
only : (p s : ℤ) → Inside p p 0 (whole s) → s ≡ p
only p s i = ext s p (omega (arith, le→ (1 ⊛ (v p ⊕ # 0)) (1 ⊛ v s) i.low.le, le→ (1 ⊛ v s) (1 ⊛ (v p ⊖ # 0)) i.high.le))

itself : (p : ℤ) → Inside p p 0 (whole p)
itself p = record { low = record { le = →le (1 ⊛ (v p ⊕ # 0)) (1 ⊛ v p) (omega arith) }; high = record { le = →le (1 ⊛ v p) (1 ⊛ (v p ⊖ # 0)) (omega arith) } }

start-in : (lo hi p q : ℤ) (k n : ℕ) (h : 0 < n) → k ≡ 0 → Inside lo hi 0 (whole p) → Inside lo hi 0 (between (whole p) (whole q) k n h)
start-in lo hi p q k n h e i =
    let l = le→ (1 ⊛ (v lo ⊕ # 0)) (1 ⊛ v p) i.low.le in
    let u = le→ (1 ⊛ v p) (1 ⊛ (v hi ⊖ # 0)) i.high.le in
    let z : n - 0 ≡ n = omega arith in
    in-inside lo hi p q k n h (omega arith) (rw (e, z) (record { low = omega (arith, mul-le-mul_left n l); high = omega (arith, mul-le-mul_left n u) }))

stop-in : (lo hi p q : ℤ) (k n : ℕ) (h : 0 < n) → k ≡ n → Inside lo hi 0 (whole q) → Inside lo hi 0 (between (whole p) (whole q) k n h)
stop-in lo hi p q k n h e i =
    let l = le→ (1 ⊛ (v lo ⊕ # 0)) (1 ⊛ v q) i.low.le in
    let u = le→ (1 ⊛ v q) (1 ⊛ (v hi ⊖ # 0)) i.high.le in
    let z : n - n ≡ 0 = omega arith in
    in-inside lo hi p q k n h (omega arith) (rw (e, z) (record { low = omega (arith, mul-le-mul_left n l); high = omega (arith, mul-le-mul_left n u) }))

start-only : (p q s : ℤ) (k n : ℕ) (h : 0 < n) → k ≡ 0 → Rounds (between (whole p) (whole q) k n h) s → s ≡ p
start-only p q s k n h e i = only p s (keep p p s _ (start-in p p p q k n h e (itself p)) i)

stop-only : (p q s : ℤ) (k n : ℕ) (h : 0 < n) → k ≡ n → Rounds (between (whole p) (whole q) k n h) s → s ≡ q
stop-only p q s k n h e i = only q s (keep q q s _ (stop-in q q p q k n h e (itself q)) i)

pub kept-start : {r : Rect} {a b s t : Point} → Shown r a b s t → Within r 0 (exactly a) → s ≡ a
kept-start {r} {a} {b} {s} h w =
    let i = h.part in
    let one : 0 < 1 = omega arith in
    let c = (i.points 0 1 (omega arith) one).0 (record { x = start-in _ _ a.x b.x 0 1 one refl w.x; y = start-in _ _ a.y b.y 0 1 one refl w.y }) in
    let e : i.first ≡ 0 = omega (arith, c.0) in
    λ j. record { x = start-only a.x b.x s.x _ _ i.some e h.start.x j; y = start-only a.y b.y s.y _ _ i.some e h.start.y j }

pub kept-stop : {r : Rect} {a b s t : Point} → Shown r a b s t → Within r 0 (exactly b) → t ≡ b
kept-stop {r} {a} {b} {t = t} h w =
    let i = h.part in
    let one : 0 < 1 = omega arith in
    let c = (i.points 1 1 (omega arith) one).0 (record { x = stop-in _ _ a.x b.x 1 1 one refl w.x; y = stop-in _ _ a.y b.y 1 1 one refl w.y }) in
    let e : i.last ≡ i.parts = omega (arith, c.1, i.upto) in
    λ j. record { x = stop-only a.x b.x t.x _ _ i.some e h.stop.x j; y = stop-only a.y b.y t.y _ _ i.some e h.stop.y j }
