-- Proofs only, for proofs/ExactnessLaws.antt: one axis of `clip`. Why it holds: the segment from p to q crosses an edge lo after (lo − p) / (q − p) of its way,
-- which is (lo − p) · u of its |q − p| · u steps. Each whole number z is up z − dn z, so that omega reads it.
use Rattle.std.specs.Prelude.{◌≡◌, refl, ◌⊎◌, ℕ, ◌+◌, ◌*◌, ◌≤◌, ◌<◌, ℤ, pos, negsuc, neg_ℤ, ◌+ℤ◌, ◌-ℤ◌, ◌*ℤ◌}
use Rattle.std.proofs.Common.{sym, ap, ap₂, ◌∙◌, inl, inr, mul-le-mul_left, arith}
use Rattle.std.proofs.Math.Nat.{le_of_mul-le-mul_left}
use Rattle.exact.specs.Whole.{◌≤ᶻ◌, ◌<ᶻ◌, lt-<?, le-<?, up, dn, ext, is, Z, ord}
use Rattle.exact.specs.Parts.{Is, v, #, ◌⊕◌, ◌⊖◌, ◌⊗◌}
use Rattle.exact.specs.Fit.{abs}
use Rattle.exact.specs.Divide.{nearest_div}
use Rattle.exact.proofs.NearestLaws.{nearest-times}
use Rattle.exact.specs.Laws.{≤-total}
use Rattle.exact.specs.Steps.{not-zero}
use Rattle.clip.specs.Clip.{extent, axis_entry, toward, axis_place}

pub times : (k : ℕ) {a b : ℕ} → a ≡ b → k * a ≡ k * b
times k e = ap (λ (x : ℕ). k * x) e

-- ---- the order of p and q, and what the definitions then say
data Order (p q : ℤ) : Type 0 where
  ahead : p <ᶻ q → Order p q
  back : q <ᶻ p → Order p q
  still : p ≡ q → Order p q

order : (p q : ℤ) → Order p q
order p q = go (≤-total p q) (≤-total q p)
  where
    go : (p ≤ᶻ q) ⊎ (q <ᶻ p) → (q ≤ᶻ p) ⊎ (p <ᶻ q) → Order p q
    go (inr h) k = back h
    go (inl h) (inr k) = ahead k
    go (inl h) (inl k) = still (omega (arith, ord))

weak : {p q : ℤ} → p <ᶻ q → p ≤ᶻ q
weak h = omega (arith, ord)

same : (p : ℤ) → p ≤ᶻ p
same p = omega (arith, ord)

extent-ahead : {p q : ℤ} → p <ᶻ q → extent p q ≡ q -ℤ p
unfolding extent
extent-ahead h = rw (lt-<? h)

extent-back : {p q : ℤ} → p <ᶻ q → extent q p ≡ q -ℤ p
unfolding extent
extent-back h = rw (le-<? (weak h), lt-<? h)

extent-still : (p : ℤ) → extent p p ≡ pos 1
unfolding extent
extent-still p = rw (le-<? (same p))

pub extent-sym : (p q : ℤ) → extent p q ≡ extent q p
extent-sym p q = go (order p q)
  where
    go : Order p q → extent p q ≡ extent q p
    go (ahead h) = extent-ahead h ∙ sym (extent-back h)
    go (back h) = extent-back h ∙ sym (extent-ahead h)
    go (still e) = rw e refl

gap-pos : (p q : ℤ) → p <ᶻ q → pos 0 <ᶻ q -ℤ p
gap-pos p q = rw (is p, is q) (simp Z (omega arith))

pub extent-pos : (p q : ℤ) → pos 0 <ᶻ extent p q
extent-pos p q = go (order p q)
  where
    go : Order p q → pos 0 <ᶻ extent p q
    go (ahead h) = rw (extent-ahead h) (gap-pos p q h)
    go (back h) = rw (extent-back h) (gap-pos q p h)
    go (still e) = rw (e, extent-still q) (omega (arith, ord))

entry-ahead : (lo hi : ℤ) {p q : ℤ} (u : ℤ) → p <ᶻ q → axis_entry lo hi p q u ≡ (lo -ℤ p) *ℤ u
unfolding axis_entry
entry-ahead lo hi u h = rw (lt-<? h)

entry-back : (lo hi : ℤ) {p q : ℤ} (u : ℤ) → p <ᶻ q → axis_entry lo hi q p u ≡ (q -ℤ hi) *ℤ u
unfolding axis_entry
entry-back lo hi u h = rw (le-<? (weak h), lt-<? h)

-- ---- a number that is not negative is its own upper part
pub natural : {z : ℤ} → pos 0 ≤ᶻ z → Is z (up z) 0
natural {z = pos n} h = # n
natural {z = negsuc n} h = absurd (omega (arith, ord))

pub recast : {z : ℤ} {p n p' n' : ℕ} → p ≡ p' → n ≡ n' → Is z p n → Is z p' n'
recast e f i = record { eq = omega arith }

→eq : {a b : ℤ} {p n q m : ℕ} → Is a p n → Is b q m → p + m ≡ q + n → a ≡ b
→eq {a} {b} i j e = ext a b (omega arith)

-- the upper part of z = p − n: at least p − n, and if it is not 0 just that
exact : (z : ℤ) {p n : ℕ} → Is z p n → (up z ≡ 0) ⊎ (up z + n ≡ p)
exact (pos a) i = inr (omega arith)
exact (negsuc a) i = inl (omega arith)

-- ---- the number between p and q with the weights b and a is in lo..hi
pub record In (lo hi p q : ℤ) (b a : ℕ) : Type 0 where
  pub low : up lo * (b + a) + (b * dn p + a * dn q) ≤ b * up p + a * up q + dn lo * (b + a)
  pub high : b * up p + a * up q + dn hi * (b + a) ≤ up hi * (b + a) + (b * dn p + a * dn q)

flip : {lo hi p q : ℤ} {b a : ℕ} → In lo hi p q b a → In lo hi q p a b
flip i = omega arith

-- it lies past the steps till the entry, and, on the way back, before those till the exit
pub record Past (lo hi p q u : ℤ) (b a : ℕ) : Type 0 where
  pub after : up (axis_entry lo hi p q u) * (b + a) ≤ a * (up (extent p q) * up u)
  pub before : up (axis_entry lo hi q p u) * (b + a) ≤ b * (up (extent p q) * up u)

flip-past : {lo hi p q u : ℤ} {b a : ℕ} → Past lo hi p q u b a → Past lo hi q p u a b
flip-past {lo} {hi} {p} {q} {u} {b} {a} h = record { after = rw extent-sym (omega (arith, h.before)); before = rw extent-sym (omega (arith, h.after)) }

-- ---- one edge, towards which the way goes: from p − pn by d to q − qn, the edge lo − lon, which is z steps away
edge-past : (lo lon p pn q qn d u a b z : ℕ) → d + (qn + p) ≡ q + pn → (z ≡ 0) ⊎ (z + (lon + p) * u ≡ (lo + pn) * u) →
    lo * (b + a) + (b * pn + a * qn) ≤ b * p + a * q + lon * (b + a) → z * (b + a) ≤ a * (d * u)
edge-past lo lon p pn q qn d u a b z e (inl f) k = rw f (omega arith)
edge-past lo lon p pn q qn d u a b z e (inr f) k = omega (arith, times (b + a) f, mul-le-mul_left u k, times (a * u) e)

edge_in : (lo lon p pn q qn d u a b z : ℕ) → 0 < u → d + (qn + p) ≡ q + pn → (lo + pn) * u ≤ z + (lon + p) * u → z * (b + a) ≤ a * (d * u) →
    lo * (b + a) + (b * pn + a * qn) ≤ b * p + a * q + lon * (b + a)
edge_in lo lon p pn q qn d u a b z pu e f k = le_of_mul-le-mul_left {k = u} (omega (arith, mul-le-mul_left (b + a) f, times (a * u) e)) pu

gap : {p q : ℤ} → p <ᶻ q → up (extent p q) + (dn q + up p) ≡ up q + dn p
gap {p} {q} h = rw (extent-ahead h) (omega (arith, ord, (v q ⊖ v p).eq, abs (q -ℤ p)))

-- the way to lo from p, and to hi from q
to_low : (lo hi : ℤ) {p q u : ℤ} → p <ᶻ q → pos 0 <ᶻ u → Is (axis_entry lo hi p q u) ((up lo + dn p) * up u) ((dn lo + up p) * up u)
to_low lo hi {p} {q} {u} h k = rw (entry-ahead lo hi u h) (recast (omega arith) (omega arith) ((v lo ⊖ v p) ⊗ natural (weak k)))

to_high : (lo hi : ℤ) {p q u : ℤ} → p <ᶻ q → pos 0 <ᶻ u → Is (axis_entry lo hi q p u) ((dn hi + up q) * up u) ((up hi + dn q) * up u)
to_high lo hi {p} {q} {u} h k = rw (entry-back lo hi u h) (recast (omega arith) (omega arith) ((v q ⊖ v hi) ⊗ natural (weak k)))

ahead_past : (lo hi : ℤ) {p q u : ℤ} {b a : ℕ} → p <ᶻ q → pos 0 <ᶻ u → In lo hi p q b a → Past lo hi p q u b a
ahead_past lo hi {p} {q} {u} {b} {a} h k i = record {
  after = edge-past (up lo) (dn lo) (up p) (dn p) (up q) (dn q) (up (extent p q)) (up u) a b _ (gap h) (exact _ (to_low lo hi h k)) i.low;
  before =
      omega (arith, edge-past (dn hi) (up hi) (dn q) (up q) (dn p) (up p) (up (extent p q)) (up u) b a _ (omega (arith, gap h)) (exact _ (to_high lo hi h k)) (omega (arith, i.high)));
}

ahead_in : (lo hi : ℤ) {p q u : ℤ} {b a : ℕ} → p <ᶻ q → pos 0 <ᶻ u → Past lo hi p q u b a → In lo hi p q b a
ahead_in lo hi {p} {q} {u} {b} {a} h k i =
    let pu : 0 < up u = omega (arith, ord) in
    record {
      low = edge_in (up lo) (dn lo) (up p) (dn p) (up q) (dn q) (up (extent p q)) (up u) a b (up (axis_entry lo hi p q u)) pu (gap h) (omega (arith, (to_low lo hi h k).eq)) i.after;
      high =
          omega (arith, edge_in (dn hi) (up hi) (dn q) (up q) (dn p) (up p) (up (extent p q)) (up u) b a (up (axis_entry lo hi q p u)) pu (omega (arith, gap h)) (omega (arith, (to_high lo hi h k).eq)) (omega (arith, i.before)));
    }

-- where the way stays at p: it is in lo..hi, or no step enters
still-entry : (lo hi p u : ℤ) → lo ≤ᶻ p → p ≤ᶻ hi → axis_entry lo hi p p u ≡ pos 0
unfolding axis_entry
still-entry lo hi p u l h = rw (le-<? (same p), le-<? l, le-<? h)

still-below : (lo hi p u : ℤ) → p <ᶻ lo → axis_entry lo hi p p u ≡ u +ℤ pos 1
unfolding axis_entry
still-below lo hi p u l = rw (le-<? (same p), lt-<? l)

still-above : (lo hi p u : ℤ) → lo ≤ᶻ p → hi <ᶻ p → axis_entry lo hi p p u ≡ u +ℤ pos 1
unfolding axis_entry
still-above lo hi p u l h = rw (le-<? (same p), le-<? l, lt-<? h)

still-past : (lo hi p u : ℤ) (b a : ℕ) → 0 < b + a → In lo hi p p b a → Past lo hi p p u b a
still-past lo hi p u b a m i = let e = still-entry lo hi p u low high in record { after = rw e (omega arith); before = rw e (omega arith) }
  where
    low : lo ≤ᶻ p
    low = let h : up lo + dn p ≤ up p + dn lo = le_of_mul-le-mul_left {k = b + a} (omega (arith, i.low)) m in omega (arith, ord)

    high : p ≤ᶻ hi
    high = let h : up p + dn hi ≤ up hi + dn p = le_of_mul-le-mul_left {k = b + a} (omega (arith, i.high)) m in omega (arith, ord)

never : (u b a z : ℕ) → 0 < b + a → z ≡ u + 1 → z * (b + a) ≤ a * (1 * u) → ⊥
never u b a z m e h = omega (arith, times (b + a) e)

still-in : (lo hi p u : ℤ) (b a : ℕ) → 0 < b + a → pos 0 <ᶻ u → Past lo hi p p u b a → In lo hi p p b a
still-in lo hi p u b a m k i = go (≤-total lo p) (≤-total p hi)
  where
    out : axis_entry lo hi p p u ≡ u +ℤ pos 1 → ⊥
    out e = never (up u) b a (up (axis_entry lo hi p p u)) m (rw e (omega (arith, (natural (weak k) ⊕ # 1).eq, abs (u +ℤ pos 1)))) (rw (extent-still p) at i.after)

    go : (lo ≤ᶻ p) ⊎ (p <ᶻ lo) → (p ≤ᶻ hi) ⊎ (hi <ᶻ p) → In lo hi p p b a
    go (inr l) h = absurd (out (still-below lo hi p u l))
    go (inl l) (inr h) = absurd (out (still-above lo hi p u l h))
    go (inl l) (inl h) =
        let l' : up lo + dn p ≤ up p + dn lo = omega (arith, ord) in
        let h' : up p + dn hi ≤ up hi + dn p = omega (arith, ord) in
        record { low = omega (arith, mul-le-mul_left (b + a) l'); high = omega (arith, mul-le-mul_left (b + a) h') }

-- the points in lo..hi are those past the entry and before the exit
pub in-past : (lo hi p q u : ℤ) (b a : ℕ) → 0 < b + a → pos 0 <ᶻ u → In lo hi p q b a → Past lo hi p q u b a
in-past lo hi p q u b a m k i = go (order p q)
  where
    go : Order p q → Past lo hi p q u b a
    go (ahead h) = ahead_past lo hi h k i
    go (back h) = flip-past (ahead_past lo hi h k (flip i))
    go (still e) = rw e (still-past lo hi q u b a m (rw e at i))

pub past-in : (lo hi p q u : ℤ) (b a : ℕ) → 0 < b + a → pos 0 <ᶻ u → Past lo hi p q u b a → In lo hi p q b a
past-in lo hi p q u b a m k i = go (order p q)
  where
    go : Order p q → In lo hi p q b a
    go (ahead h) = ahead_in lo hi h k i
    go (back h) = flip (ahead_in lo hi h k (flip-past i))
    go (still e) = rw e (still-in lo hi q u b a m k (rw e at i))

-- ---- the place m steps after p is the nearest to the exact one
toward-ahead : {p q : ℤ} (m : ℤ) → p <ᶻ q → toward p q m ≡ m
unfolding toward
toward-ahead m h = rw (lt-<? h)

toward-back : {p q : ℤ} (m : ℤ) → p <ᶻ q → toward q p m ≡ neg_ℤ m
unfolding toward
toward-back m h = rw (le-<? (weak h), lt-<? h)

toward-still : (p m : ℤ) → toward p p m ≡ pos 0
unfolding toward
toward-still p m = rw (le-<? (same p))

toward-times : (p q m : ℤ) → toward p q m *ℤ extent p q ≡ m *ℤ (q -ℤ p)
toward-times p q m = go (order p q)
  where
    turn : (p q m : ℤ) → neg_ℤ m *ℤ (p -ℤ q) ≡ m *ℤ (q -ℤ p)
    turn p q m = rw (is p, is q, is m) (simp Z (omega arith))

    none : (q m : ℤ) → pos 0 *ℤ pos 1 ≡ m *ℤ (q -ℤ q)
    none q m = rw (is q, is m) (simp Z (omega arith))

    go : Order p q → toward p q m *ℤ extent p q ≡ m *ℤ (q -ℤ p)
    go (ahead h) = rw (toward-ahead m h, extent-ahead h) refl
    go (back h) = rw (toward-back m h, extent-back h) (turn p q m)
    go (still e) = rw (e, toward-still q m, extent-still q) (none q m)

-- z is b p + a q, the numerator over a + b of the exact place
pub place-nearest : (p q u m z : ℤ) (b a n : ℕ) → pos 0 <ᶻ u → Is m a 0 → b + a ≡ up (extent p q) * up u → Is z (b * up p + a * up q) (b * dn p + a * dn q) →
    n ≡ b + a → axis_place p q u m ≡ nearest_div z (pos n)
unfolding axis_place
place-nearest p q u m z b a n k im e iz en =
    nearest-times (u *ℤ p +ℤ toward p q m) u (extent p q) (not-zero k) (extent-pos p q) ∙ ap₂ nearest_div (spread u p (toward p q m) (extent p q) ∙ over) whole-way
  where
    iu : Is u (up u) 0
    iu = natural (weak k)

    ig : Is (extent p q) (up (extent p q)) 0
    ig = natural (weak (extent-pos p q))

    spread : (u p t g : ℤ) → (u *ℤ p +ℤ t) *ℤ g ≡ u *ℤ g *ℤ p +ℤ t *ℤ g
    spread u p t g = rw (is u, is p, is t, is g) (simp Z (omega arith))

    over : u *ℤ extent p q *ℤ p +ℤ toward p q m *ℤ extent p q ≡ z
    over = rw toward-times (→eq (iu ⊗ ig ⊗ v p ⊕ im ⊗ (v q ⊖ v p)) iz (omega (arith, times (up p) e, times (dn p) e)))

    whole-way : u *ℤ extent p q ≡ pos n
    whole-way = →eq (iu ⊗ ig) (# n) (omega arith)
