-- Proofs only, for Nearness.antt. Why it holds: at the same parameter the stroke, whose ends are rounded, is within a half of the segment's part, and the
-- segment, whose ends are rounded, is within a half of the exact line; two halves are one. And what is within a half of an edge, a whole number,
-- is rounded to its side of it.
use Rattle.std.specs.Prelude.{◌≡◌, refl, ℕ, ◌+◌, ◌*◌, ◌-◌, ◌≤◌, ◌<◌, ℤ, pos, ◌+ℤ◌, ◌*ℤ◌}
use Rattle.std.proofs.Common.{mul-pos, mul-le-mul_left, arith}
use Rattle.std.proofs.Math.Nat.{le_of_mul-le-mul_left}
use Rattle.exact.specs.Whole.{◌≤ᶻ◌, ◌<ᶻ◌, is, Z, ord, up, dn}
use Rattle.exact.specs.Parts.{Is, v, #, ◌⊕◌, ◌⊖◌, ◌⊛◌, le→, →le}
use Rattle.exact.specs.Nearest.{nearest-law}
use Rattle.clip.specs.Line.{Frac, whole, plus, between, ◌≤F◌, Near, Inside, nearest_whole, Rounds}
use Rattle.clip.specs.Axis.{times}
use Rattle.clip.proofs.Crossing.{of-between, in-inside}

-- ---- 2 (p − n) is at most c above 2 (q − m). With the parts of each number changed over, it is at most c below
record Up (c p n q m : ℕ) : Type 0 where
  hi : 2 * p + 2 * m ≤ 2 * q + 2 * n + c

scale : (k : ℕ) {c p n q m : ℕ} → Up c p n q m → Up (k * c) (k * p) (k * n) (k * q) (k * m)
scale k g = omega (arith, mul-le-mul_left k g.hi)

cancel : (k : ℕ) {c p n q m : ℕ} → 0 < k → Up (k * c) (k * p) (k * n) (k * q) (k * m) → Up c p n q m
cancel k pk g = record { hi = le_of_mul-le-mul_left {k = k} (omega arith) pk }

add : {c p n q m c' p' n' q' m' : ℕ} → Up c p n q m → Up c' p' n' q' m' → Up (c + c') (p + p') (n + n') (q + q') (m + m')
add g h = omega arith

-- the same, each number written otherwise
recast : {c p n q m c' p' n' q' m' : ℕ} → c ≡ c' → p ≡ p' → n ≡ n' → q ≡ q' → m ≡ m' → Up c p n q m → Up c' p' n' q' m'
recast ec ep en eq em g = omega arith

-- the stroke's point at k of n against the segment's, which runs from a0 to a1 of its D steps
stroke-part : (k k' n D a0 b0 a1 b1 s0 s0n s1 s1n l0 l0n l1 l1n : ℕ) → k' + k ≡ n →
    Up D (D * s0) (D * s0n) (b0 * l0 + a0 * l1) (b0 * l0n + a0 * l1n) →
    Up D (D * s1) (D * s1n) (b1 * l0 + a1 * l1) (b1 * l0n + a1 * l1n) →
    Up (n * D) (D * (k' * s0 + k * s1)) (D * (k' * s0n + k * s1n))
    ((k' * b0 + k * b1) * l0 + (k' * a0 + k * a1) * l1) ((k' * b0 + k * b1) * l0n + (k' * a0 + k * a1) * l1n)
stroke-part k k' n D a0 b0 a1 b1 s0 s0n s1 s1n l0 l0n l1 l1n e g h =
    recast (omega (arith, times D e)) (stroke s0 s1) (stroke s0n s1n) (line l0 l1) (line l0n l1n) (add (scale k' g) (scale k h))
  where
    stroke : (s s' : ℕ) → k' * (D * s) + k * (D * s') ≡ D * (k' * s + k * s')
    stroke s s' = omega arith

    line : (l l' : ℕ) → k' * (b0 * l + a0 * l') + k * (b1 * l + a1 * l') ≡ (k' * b0 + k * b1) * l + (k' * a0 + k * a1) * l'
    line l l' = omega arith

-- the same parameter, j of m, measured from the other end
other : (k k' n j j' m D a0 b0 a1 b1 : ℕ) → k' + k ≡ n → j' + j ≡ m → a0 + b0 ≡ D → a1 + b1 ≡ D →
    (k' * a0 + k * a1) * m ≡ j * (n * D) → (k' * b0 + k * b1) * m ≡ j' * (n * D)
other k k' n j j' m D a0 b0 a1 b1 en em p q e = omega (arith, times (k' * m) p, times (k * m) q, times (n * D) em, times (m * D) en)

-- at the same parameter the steps cancel
same-part : (n m j j' D A B X Xn l0 l0n l1 l1n : ℕ) → 0 < D → A * m ≡ j * (n * D) → B * m ≡ j' * (n * D) →
    Up (n * D) (D * X) (D * Xn) (B * l0 + A * l1) (B * l0n + A * l1n) →
    Up (n * m) (m * X) (m * Xn) (n * (j' * l0 + j * l1)) (n * (j' * l0n + j * l1n))
same-part n m j j' D A B X Xn l0 l0n l1 l1n pD eA eB g = cancel D pD (recast (omega arith) (omega arith) (omega arith) (line l0 l1) (line l0n l1n) (scale m g))
  where
    line : (l l' : ℕ) → m * (B * l + A * l') ≡ D * (n * (j' * l + j * l'))
    line l l' = omega (arith, times l eB, times l' eA)

-- the segment's point at j of m against the exact line's
segment-line : (j j' m w0 w1 l0 l0n l1 l1n e0 e0n e1 e1n : ℕ) → j' + j ≡ m → Up w0 (w0 * l0) (w0 * l0n) e0 e0n → Up w1 (w1 * l1) (w1 * l1n) e1 e1n →
    Up (m * (w0 * w1)) (w0 * w1 * (j' * l0 + j * l1)) (w0 * w1 * (j' * l0n + j * l1n)) (j' * w1 * e0 + j * w0 * e1) (j' * w1 * e0n + j * w0 * e1n)
segment-line j j' m w0 w1 l0 l0n l1 l1n e0 e0n e1 e1n e g h = omega (arith, times (w0 * w1) e, scale (j' * w1) g, scale (j * w0) h)

-- two halves are one
two-halves : (n m W X Xn Z Zn Q Qn : ℕ) → Up (n * m) (m * X) (m * Xn) (n * Z) (n * Zn) → Up (m * W) (W * Z) (W * Zn) Q Qn →
    m * W * X + n * Qn ≤ n * Q + m * W * Xn + n * (m * W)
two-halves n m W X Xn Z Zn Q Qn g h = omega (arith, scale W g, scale n h)

-- The point at k of n of the stroke s0–s1 is at most 1 above the point at j of m of the exact line e0/w0–e1/w1, if these are the same parameter,
-- the stroke's ends round the segment's after a0 and a1 of its D steps, and the segment's ends l0 and l1 round the line's.
core : (k k' n j j' m D a0 b0 a1 b1 w0 w1 s0 s0n s1 s1n l0 l0n l1 l1n e0 e0n e1 e1n : ℕ) → 0 < D → k' + k ≡ n → j' + j ≡ m →
    a0 + b0 ≡ D → a1 + b1 ≡ D → (k' * a0 + k * a1) * m ≡ j * (n * D) →
    Up D (D * s0) (D * s0n) (b0 * l0 + a0 * l1) (b0 * l0n + a0 * l1n) →
    Up D (D * s1) (D * s1n) (b1 * l0 + a1 * l1) (b1 * l0n + a1 * l1n) →
    Up w0 (w0 * l0) (w0 * l0n) e0 e0n → Up w1 (w1 * l1) (w1 * l1n) e1 e1n →
    m * (w0 * w1) * (k' * s0 + k * s1) + n * (j' * w1 * e0n + j * w0 * e1n) ≤
    n * (j' * w1 * e0 + j * w0 * e1) + m * (w0 * w1) * (k' * s0n + k * s1n) + n * (m * (w0 * w1))
core k k' n j j' m D a0 b0 a1 b1 w0 w1 s0 s0n s1 s1n l0 l0n l1 l1n e0 e0n e1 e1n pD en em p q e g0 g1 h0 h1 =
    two-halves n m (w0 * w1) _ _ _ _ _ _
    (same-part n m j j' D _ _ _ _ l0 l0n l1 l1n pD e (other k k' n j j' m D a0 b0 a1 b1 en em p q e)
    (stroke-part k k' n D a0 b0 a1 b1 s0 s0n s1 s1n l0 l0n l1 l1n en g0 g1))
    (segment-line j j' m w0 w1 l0 l0n l1 l1n e0 e0n e1 e1n em h0 h1)

-- ---- rounding, over ℕ: 2 (p − n) and 2 (q − m) are at most c apart
record Half (c p n q m : ℕ) : Type 0 where
  above : Up c p n q m
  below : Up c n p m q

half : (f : Frac) {p : ℤ} {w e en : ℕ} → Rounds f p → f.den ≡ w → Is f.num e en → Half w (w * up p) (w * dn p) e en
half f {p} h e i = record {
  above = record { hi = omega (arith, times (up p) e, times (dn p) e, le→ (2 ⊛ (f.den ⊛ v p)) (2 ⊛ i ⊕ # f.den) h.above) };
  below = record { hi = omega (arith, times (up p) e, times (dn p) e, le→ (2 ⊛ i) (2 ⊛ (f.den ⊛ v p) ⊕ # f.den) h.below) };
}

pub rounds : (f : Frac) → Rounds f (nearest_whole f)
rounds f = let l = nearest-law f.num (pos f.den) (let h : 0 < f.den = f.above in omega (arith, ord)) in record {
  above = low f.num (pos f.den) (nearest_whole f) l.0;
  below = high f.num (pos f.den) (nearest_whole f) l.1;
}
  where
    low : (n d q : ℤ) → pos 2 *ℤ d *ℤ q ≤ᶻ pos 2 *ℤ n +ℤ d → pos 2 *ℤ (d *ℤ q) ≤ᶻ pos 2 *ℤ n +ℤ d
    low n d q = rw (is n, is d, is q) (simp Z (omega arith))

    high : (n d q : ℤ) → pos 2 *ℤ n +ℤ d <ᶻ pos 2 *ℤ d *ℤ (q +ℤ pos 1) → pos 2 *ℤ n ≤ᶻ pos 2 *ℤ (d *ℤ q) +ℤ d
    high n d q = rw (is n, is d, is q) (simp Z (omega arith))

-- ---- an exact line's numerator, and an order of fractions
of-line : (f g : Frac) (k n : ℕ) (h : 0 < n) →
    Is (between f g k n h).num ((n - k) * g.den * up f.num + k * f.den * up g.num) ((n - k) * g.den * dn f.num + k * f.den * dn g.num)
of-line f g k n h = (n - k) * g.den ⊛ v f.num ⊕ k * f.den ⊛ v g.num

above→ : (f g : Frac) {P Pn Q Qn N : ℕ} → Is f.num P Pn → Is g.num Q Qn → f.den ≡ N →
    g.den * P + N * Qn ≤ N * Q + g.den * Pn + N * g.den → f ≤F plus g (pos 1)
above→ f g i j e h = record { le = →le (g.den ⊛ i) (f.den ⊛ (j ⊕ 1 ⊛ # g.den)) (rw e (omega arith)) }

below→ : (f g : Frac) {P Pn Q Qn N : ℕ} → Is f.num P Pn → Is g.num Q Qn → f.den ≡ N →
    g.den * Pn + N * Q ≤ N * Qn + g.den * P + N * g.den → g ≤F plus f (pos 1)
below→ f g i j e h = record { le = →le (f.den ⊛ j) (g.den ⊛ (i ⊕ 1 ⊛ # f.den)) (rw e (omega arith)) }

-- ---- one axis: the points of the stroke s–t and of the line f–g at the same parameter are near
pub near : {p q s t : ℤ} (f g : Frac) (D a0 a1 k n j m : ℕ) (pD : 0 < D) (pn : 0 < n) (pm : 0 < m) → a0 ≤ D → a1 ≤ D → k ≤ n → j ≤ m →
    ((n - k) * a0 + k * a1) * m ≡ j * (n * D) →
    Rounds (between (whole p) (whole q) a0 D pD) s → Rounds (between (whole p) (whole q) a1 D pD) t → Rounds f p → Rounds g q →
    Near (between (whole s) (whole t) k n pn) (between f g j m pm)
near {p} {q} {s} {t} f g D a0 a1 k n j m pD pn pm l0 l1 kn jm e hs ht hf hg =
    let S = half (between (whole p) (whole q) a0 D pD) hs (let d : D * (1 * 1) ≡ D = omega arith in d) (of-between p q a0 D pD) in
    let T = half (between (whole p) (whole q) a1 D pD) ht (let d : D * (1 * 1) ≡ D = omega arith in d) (of-between p q a1 D pD) in
    let F = half f hf refl (v f.num) in
    let G = half g hg refl (v g.num) in
    record {
      above = above→ (between (whole s) (whole t) k n pn) (between f g j m pm) (of-between s t k n pn) (of-line f g j m pm) (omega arith)
          (core k (n - k) n j (m - j) m D a0 (D - a0) a1 (D - a1) f.den g.den (up s) (dn s) (up t) (dn t) _ _ _ _ _ _ _ _ pD (omega arith) (omega arith) (omega arith) (omega arith) e
          S.above T.above F.above G.above);
      below = below→ (between (whole s) (whole t) k n pn) (between f g j m pm) (of-between s t k n pn) (of-line f g j m pm) (omega arith)
          (core k (n - k) n j (m - j) m D a0 (D - a0) a1 (D - a1) f.den g.den (dn s) (up s) (dn t) (up t) _ _ _ _ _ _ _ _ pD (omega arith) (omega arith) (omega arith) (omega arith) e
          S.below T.below F.below G.below);
    }

-- ---- edges, which are whole numbers
-- what is in lo..hi is rounded into it
kept : (D lo lon s sn y yn : ℕ) → 0 < D → D * lo + yn ≤ y + D * lon → Up D (D * sn) (D * s) yn y → lo + sn ≤ s + lon
kept D lo lon s sn y yn pD h g = omega (arith, le_of_mul-le-mul_left {m = 2 * lo + 2 * sn} {n = 2 * s + 2 * lon + 1} {k = D} (omega arith) pD)

pub keep : (lo hi s : ℤ) (f : Frac) → Inside lo hi 0 f → Rounds f s → Inside lo hi 0 (whole s)
keep lo hi s f i h =
    let H = half f h refl (v f.num) in
    let l : up lo + dn s ≤ up s + dn lo = kept f.den (up lo) (dn lo) (up s) (dn s) _ _ f.above (omega (arith, le→ (f.den ⊛ (v lo ⊕ # 0)) (1 ⊛ v f.num) i.low.le)) H.below in
    let u : dn hi + up s ≤ dn s + up hi = kept f.den (dn hi) (up hi) (dn s) (up s) _ _ f.above (omega (arith, le→ (1 ⊛ v f.num) (f.den ⊛ (v hi ⊖ # 0)) i.high.le)) H.above in
    record { low = record { le = →le (1 ⊛ (v lo ⊕ # 0)) (1 ⊛ v s) (omega arith) }; high = record { le = →le (1 ⊛ v s) (1 ⊛ (v hi ⊖ # 0)) (omega arith) } }

-- what lies between two numbers in lo..hi is in it
pub mix : (lo hi s t : ℤ) (k n : ℕ) (h : 0 < n) → k ≤ n → Inside lo hi 0 (whole s) → Inside lo hi 0 (whole t) → Inside lo hi 0 (between (whole s) (whole t) k n h)
mix lo hi s t k n h l i j =
    let a = le→ (1 ⊛ (v lo ⊕ # 0)) (1 ⊛ v s) i.low.le in
    let b = le→ (1 ⊛ v s) (1 ⊛ (v hi ⊖ # 0)) i.high.le in
    let c = le→ (1 ⊛ (v lo ⊕ # 0)) (1 ⊛ v t) j.low.le in
    let d = le→ (1 ⊛ v t) (1 ⊛ (v hi ⊖ # 0)) j.high.le in
    in-inside lo hi s t k n h l (record {
      low = omega (arith, mul-le-mul_left (n - k) a, mul-le-mul_left k c);
      high = omega (arith, mul-le-mul_left (n - k) b, mul-le-mul_left k d);
    })

-- where the exact line is in lo..hi by 1, the segment is in it
inner : (m W lo lon Q Qn Z Zn : ℕ) → 0 < W → m * W * (lo + 1) + Qn ≤ Q + m * W * lon → Up (m * W) (W * Zn) (W * Z) Qn Q → lo * m + Zn ≤ Z + lon * m
inner m W lo lon Q Qn Z Zn pW h g =
    omega (arith, le_of_mul-le-mul_left {m = 2 * (m * lo) + m + 2 * Zn} {n = 2 * Z + 2 * (m * lon)} {k = W} (omega arith) pW)

pub inward : (lo hi p q : ℤ) (f g : Frac) (k n : ℕ) (h : 0 < n) → k ≤ n → Rounds f p → Rounds g q → Inside lo hi 1 (between f g k n h) → Inside lo hi 0 (between (whole p) (whole q) k n h)
inward lo hi p q f g k n h l hf hg i =
    let F = half f hf refl (v f.num) in
    let G = half g hg refl (v g.num) in
    let e : n - k + k ≡ n = omega arith in
    let a = inner n (f.den * g.den) (up lo) (dn lo) _ _ _ _ (mul-pos f.above g.above)
    (omega (arith, le→ (n * (f.den * g.den) ⊛ (v lo ⊕ # 1)) (1 ⊛ of-line f g k n h) i.low.le))
    (segment-line k (n - k) n f.den g.den (dn p) (up p) (dn q) (up q) _ _ _ _ e F.below G.below) in
    let b = inner n (f.den * g.den) (dn hi) (up hi) _ _ _ _ (mul-pos f.above g.above)
    (omega (arith, le→ (1 ⊛ of-line f g k n h) (n * (f.den * g.den) ⊛ (v hi ⊖ # 1)) i.high.le))
    (segment-line k (n - k) n f.den g.den (up p) (dn p) (up q) (dn q) _ _ _ _ e F.above G.above) in
    in-inside lo hi p q k n h l (record { low = omega (arith, times (up lo) e, times (dn lo) e, a); high = omega (arith, times (up hi) e, times (dn hi) e, b) })
