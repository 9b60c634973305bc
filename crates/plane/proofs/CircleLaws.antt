-- The laws of circles: a vertex is the nearest whole number of its exact place, and the split centre finds it; where the points at the radius are in range,
-- so is every vertex; how many chords, and at which angles.
use Rattle.std.specs.Prelude.{◌≡◌, refl, ◌⊎◌, Bool, true, false, cond, ℕ, ◌+◌, ◌-◌, ◌*◌, ◌≤◌, ◌<◌, ltb, ℤ, pos, negsuc, neg_ℤ, nat_abs, ◌+ℤ◌, ◌-ℤ◌, ◌*ℤ◌}
use Rattle.std.proofs.Common.{sym, ap₂, ◌∙◌, subst, inl, inr, mul-le-mul_left, arith, ltb-true}
use Rattle.std.proofs.Math.Path.{ap}
use Rattle.std.proofs.Math.Nat.{mul-div-le, lt-mul-div-succ}
use Rattle.exact.specs.Whole.{◌≤ᶻ◌, ◌<ᶻ◌, is, Z, ord, up_neg, dn-neg, ◌<?◌, lt-<?, le-<?}
use Rattle.exact.specs.Laws.{mul-posᶻ, sign}
use Rattle.exact.specs.Fit.{Bd, abs, abs-mul, bd-neg, ◌⊞◌, ◌⊟◌, ◌⊠◌}
use Rattle.exact.specs.Divide.{floor_div, nearest_div}
use Rattle.exact.specs.Nearest.{nearest-shift, nearest-mono, product-some, pos_of, neg-pos}
use Rattle.exact.proofs.NearestLaws.{nearest-neg, nearest-times}
use Rattle.exact.specs.Steps.{rest-size, floor-size}
use Rattle.clip.specs.Line.{nearest_whole, Rounds}
use Rattle.clip.proofs.Based.{based-nearest}
use Rattle.clip.proofs.Halves.{rounds}
use Rattle.clip.specs.Reach.{reach, SmallPoint}
use Rattle.sines.specs.Angle.{sine_of, cosine_of}
use Rattle.sines.proofs.Quarters.{sine-size, cosine-size, sine-zero, cosine-zero, sine-900, cosine-900, sine-1800, cosine-1800, sine-2700, cosine-2700}
use Rattle.plane.specs.declared.position.Axis.{Axis}
use Rattle.plane.specs.declared.position.ExactPosition.{ExactPosition}
use Rattle.plane.specs.declared.circle.Way.{Way}
use Rattle.plane.specs.declared.circle.Centre.{Centre}
use Rattle.plane.specs.Position.{relative_of, location_of}
use Rattle.plane.specs.Bounds.{most_product, most_span, most_width, most_way, AxisBounds, Locatable, WayBounds, CentreBounds}
use Rattle.plane.specs.Circle.{chords_of, angle_of, rotated_of, exact_vertex, vertex_of, vertex_point_of, split_of, centre_of, from_centre, point_from_centre}

-- ---- chords: as many as the angle needs to go round, and the vertices' angles are below a turn
pub chords-law : (a : ℕ) → 0 < a → (3600 ≤ a * chords_of a) × (a * chords_of a < 3600 + a)
unfolding chords_of
chords-law a h =
    let l = mul-div-le (3600 + a - 1) a in
    let u = lt-mul-div-succ (3600 + a - 1) h in
    (omega (arith, u), omega (arith, l))

pub angle-law : (a i : ℕ) → 0 < a → i < chords_of a → i * a < 3600
angle-law a i h l = omega (arith, (chords-law a h).1, mul-le-mul_left a l)

pub angle-size : (a i : ℕ) → 0 < a → (pos 0 ≤ᶻ angle_of a i) × (angle_of a i <ᶻ pos 3600)
unfolding angle_of
angle-size a i h = go (ltb i (chords_of a)) refl
  where
    go : (t : Bool) → ltb i (chords_of a) ≡ t → (pos 0 ≤ᶻ pos (cond t (i * a) 0)) × (pos (cond t (i * a) 0) <ᶻ pos 3600)
    go true e = let l = angle-law a i h (ltb-true i (chords_of a) e) in (omega (arith, ord), omega (arith, ord))
    go false e = (omega (arith, ord), omega (arith, ord))

-- ---- a vertex is its exact place, rounded
scale : pos 0 <ᶻ pos 100000
scale = omega (arith, ord)

pub wide-some : {w : ℤ} → (w ≡ pos 0 → ⊥) → w *ℤ pos 100000 ≡ pos 0 → ⊥
wide-some z = product-some z scale

pub vertex-nearest : (a : Axis) (p : ExactPosition) (t : ℤ) → (a.width ≡ pos 0 → ⊥) → vertex_of a p t ≡ nearest_whole (exact_vertex a p t)
unfolding vertex_of
vertex-nearest a p t z = sym (based-nearest p.base (p.offset *ℤ pos 100000 +ℤ t) a.span (a.width *ℤ pos 100000) (wide-some z))

pub vertex-rounds : (a : Axis) (p : ExactPosition) (t : ℤ) → (a.width ≡ pos 0 → ⊥) → Rounds (exact_vertex a p t) (vertex_of a p t)
vertex-rounds a p t z = subst (Rounds (exact_vertex a p t)) (sym (vertex-nearest a p t z)) (rounds (exact_vertex a p t))

-- ---- the split centre finds it: the whole part of n / w comes out of the quotient
split-vertex : (B n d w t : ℤ) → pos 0 <ᶻ w → from_centre (split_of B n d w) t ≡ B +ℤ nearest_div (n *ℤ pos 100000 +ℤ t *ℤ d) (w *ℤ pos 100000)
unfolding from_centre split_of
split-vertex B n d w t h = go (floor_div n w)
  where
    out : (B q r : ℤ) → B +ℤ q +ℤ r ≡ B +ℤ (q +ℤ r)
    out B q r = rw (is B, is q, is r) (simp Z (omega arith))

    all : (q : ℤ) → (n -ℤ q *ℤ w) *ℤ pos 100000 +ℤ t *ℤ d +ℤ q *ℤ (w *ℤ pos 100000) ≡ n *ℤ pos 100000 +ℤ t *ℤ d
    all q = rw (is n, is d, is w, is q, is t) (simp Z (omega arith))

    go : (q : ℤ) → B +ℤ q +ℤ nearest_div ((n -ℤ q *ℤ w) *ℤ pos 100000 +ℤ t *ℤ d) (w *ℤ pos 100000) ≡ B +ℤ nearest_div (n *ℤ pos 100000 +ℤ t *ℤ d) (w *ℤ pos 100000)
    go q =
        let m : ℤ = (n -ℤ q *ℤ w) *ℤ pos 100000 +ℤ t *ℤ d in
        out B q (nearest_div m (w *ℤ pos 100000))
        ∙ ap (λ (z : ℤ). B +ℤ z) (nearest-shift m (w *ℤ pos 100000) q (mul-posᶻ h scale) ∙ ap (λ (z : ℤ). nearest_div z (w *ℤ pos 100000)) (all q))

-- either sign of the width
pub vertex-split : (a : Axis) (p : ExactPosition) (t : ℤ) → (a.width ≡ pos 0 → ⊥) → from_centre (centre_of a p) t ≡ vertex_of a p t
unfolding centre_of vertex_of
vertex-split a p t z = go (sign W)
  where
    O : ℤ
    O = p.offset

    D : ℤ
    D = a.span

    W : ℤ
    W = a.width

    plain : (O D t : ℤ) → O *ℤ D *ℤ pos 100000 +ℤ t *ℤ D ≡ (O *ℤ pos 100000 +ℤ t) *ℤ D
    plain O D t = rw (is O, is D, is t) (simp Z (omega arith))

    minus : (O D t : ℤ) → neg_ℤ (O *ℤ D) *ℤ pos 100000 +ℤ t *ℤ neg_ℤ D ≡ neg_ℤ ((O *ℤ pos 100000 +ℤ t) *ℤ D)
    minus O D t = rw (is O, is D, is t) (simp Z (omega arith))

    wide : (w : ℤ) → neg_ℤ w *ℤ pos 100000 ≡ neg_ℤ (w *ℤ pos 100000)
    wide w = rw (is w) (simp Z (omega arith))

    go : (pos 0 ≤ᶻ W) ⊎ (W <ᶻ pos 0) →
        from_centre (cond (W <? pos 0) (split_of p.base (neg_ℤ (O *ℤ D)) (neg_ℤ D) (neg_ℤ W)) (split_of p.base (O *ℤ D) D W)) t ≡ p.base +ℤ nearest_div ((O *ℤ pos 100000 +ℤ t) *ℤ D) (W *ℤ pos 100000)
    go (inl l) = rw (le-<? l) (split-vertex p.base (O *ℤ D) D W t (pos_of l z) ∙ ap (λ (x : ℤ). p.base +ℤ nearest_div x (W *ℤ pos 100000)) (plain O D t))
    go (inr l) =
        rw (lt-<? l)
        (split-vertex p.base (neg_ℤ (O *ℤ D)) (neg_ℤ D) (neg_ℤ W) t (neg-pos l)
        ∙ ap (λ (x : ℤ). p.base +ℤ x) (ap₂ nearest_div (minus O D t) (wide W) ∙ nearest-neg ((O *ℤ pos 100000 +ℤ t) *ℤ D) (W *ℤ pos 100000) (wide-some z)))

-- both axes
pub vertex-point-split : (ax ay : Axis) (px py : ExactPosition) (w : Way) (angle : ℤ) → (ax.width ≡ pos 0 → ⊥) → (ay.width ≡ pos 0 → ⊥) →
    point_from_centre (centre_of ax px) (centre_of ay py) w angle ≡ vertex_point_of ax ay px py w angle
unfolding point_from_centre vertex_point_of
vertex-point-split ax ay px py w angle zx zy =
    let r = rotated_of w angle in
    λ i. record { x = vertex-split ax px r.u zx i; y = vertex-split ay py r.v zy i }

-- ---- what the code asks
split-bounds : (B n d w : ℤ) → Bd B reach → Bd n most_product → Bd d most_span → Bd w most_width → pos 0 <ᶻ w → CentreBounds (split_of B n d w)
unfolding split_of
split-bounds B n d w b k s l h = record { base = b ⊞ floor-size n w k; part = rest-size n w h l; span = s; width = l; some = h }

pub centre-bounds : (a : Axis) (p : ExactPosition) → AxisBounds a → Locatable a p → CentreBounds (centre_of a p)
unfolding centre_of
centre-bounds a p s t = go (sign a.width)
  where
    go : (pos 0 ≤ᶻ a.width) ⊎ (a.width <ᶻ pos 0) →
        CentreBounds (cond (a.width <? pos 0) (split_of p.base (neg_ℤ (p.offset *ℤ a.span)) (neg_ℤ a.span) (neg_ℤ a.width)) (split_of p.base (p.offset *ℤ a.span) a.span a.width))
    go (inl l) = rw (le-<? l) (split-bounds p.base (p.offset *ℤ a.span) a.span a.width t.base t.product s.span s.width (pos_of l s.some))
    go (inr l) =
        rw (lt-<? l)
        (split-bounds p.base (neg_ℤ (p.offset *ℤ a.span)) (neg_ℤ a.span) (neg_ℤ a.width) t.base (bd-neg t.product) (bd-neg s.span) (bd-neg s.width) (neg-pos l))

pub rotated-size : (w : Way) (angle : ℤ) → WayBounds w → Bd (rotated_of w angle).u most_way × Bd (rotated_of w angle).v most_way
unfolding rotated_of
rotated-size w angle h = ((h.u ⊠ cosine-size angle) ⊟ (h.v ⊠ sine-size angle), (h.u ⊠ sine-size angle) ⊞ (h.v ⊠ cosine-size angle))

-- ---- the four points at 0, 90, 180, 270 degrees: a circle's way is (radius, 0), and each is a location with the radius more or less on one axis
abbrev pub radius : ℤ → Way
radius r = record { u = r; v = pos 0 }

rotated-radius : (r angle : ℤ) → rotated_of (radius r) angle ≡ record { u = r *ℤ cosine_of angle; v = r *ℤ sine_of angle }
unfolding rotated_of
rotated-radius r angle = λ i. record { u = minus (cosine_of angle) (sine_of angle) i; v = plus (sine_of angle) (cosine_of angle) i }
  where
    minus : (c s : ℤ) → r *ℤ c -ℤ pos 0 *ℤ s ≡ r *ℤ c
    minus c s = rw (is r, is c, is s) (simp Z (omega arith))

    plus : (s c : ℤ) → r *ℤ s +ℤ pos 0 *ℤ c ≡ r *ℤ s
    plus s c = rw (is r, is c, is s) (simp Z (omega arith))

-- no way, the radius, and minus the radius: on one axis
at-centre : (a : Axis) (p : ExactPosition) (r : ℤ) → (a.width ≡ pos 0 → ⊥) → vertex_of a p (r *ℤ pos 0) ≡ location_of a p
unfolding location_of vertex_of
at-centre a p r z =
    ap (λ (q : ℤ). p.base +ℤ q) (ap (λ (x : ℤ). nearest_div x (a.width *ℤ pos 100000)) (go p.offset a.span) ∙ sym (nearest-times (p.offset *ℤ a.span) a.width (pos 100000) z scale))
  where
    go : (O D : ℤ) → (O *ℤ pos 100000 +ℤ r *ℤ pos 0) *ℤ D ≡ O *ℤ D *ℤ pos 100000
    go O D = rw (is O, is D, is r) (simp Z (omega arith))

at-radius : (a : Axis) (p : ExactPosition) (r : ℤ) → (a.width ≡ pos 0 → ⊥) → vertex_of a p (r *ℤ pos 100000) ≡ location_of a (relative_of p r)
unfolding location_of relative_of vertex_of
at-radius a p r z =
    ap (λ (q : ℤ). p.base +ℤ q) (ap (λ (x : ℤ). nearest_div x (a.width *ℤ pos 100000)) (go p.offset a.span) ∙ sym (nearest-times ((p.offset +ℤ r) *ℤ a.span) a.width (pos 100000) z scale))
  where
    go : (O D : ℤ) → (O *ℤ pos 100000 +ℤ r *ℤ pos 100000) *ℤ D ≡ (O +ℤ r) *ℤ D *ℤ pos 100000
    go O D = rw (is O, is D, is r) (simp Z (omega arith))

at-minus : (a : Axis) (p : ExactPosition) (r : ℤ) → (a.width ≡ pos 0 → ⊥) → vertex_of a p (r *ℤ negsuc 99999) ≡ location_of a (relative_of p (neg_ℤ r))
at-minus a p r z = ap (vertex_of a p) go ∙ at-radius a p (neg_ℤ r) z
  where
    go : r *ℤ negsuc 99999 ≡ neg_ℤ r *ℤ pos 100000
    go = rw (is r) (simp Z (omega arith))

module _ (ax ay : Axis) (px py : ExactPosition) (r : ℤ) (zx : ax.width ≡ pos 0 → ⊥) (zy : ay.width ≡ pos 0 → ⊥) where
  point : {c s x y : ℤ} (angle : ℤ) → cosine_of angle ≡ c → sine_of angle ≡ s → vertex_of ax px (r *ℤ c) ≡ x → vertex_of ay py (r *ℤ s) ≡ y →
      vertex_point_of ax ay px py (radius r) angle ≡ record { x = x; y = y }
  unfolding vertex_point_of
  point angle ec es ex ey =
      let w = rotated-radius r angle in
      let x = ap (λ (z : Way). vertex_of ax px z.u) w ∙ ap (λ (z : ℤ). vertex_of ax px (r *ℤ z)) ec ∙ ex in
      let y = ap (λ (z : Way). vertex_of ay py z.v) w ∙ ap (λ (z : ℤ). vertex_of ay py (r *ℤ z)) es ∙ ey in
      λ i. record { x = x i; y = y i }

  pub point-0 : vertex_point_of ax ay px py (radius r) (pos 0) ≡ record { x = location_of ax (relative_of px r); y = location_of ay py }
  point-0 = point (pos 0) cosine-zero sine-zero (at-radius ax px r zx) (at-centre ay py r zy)

  pub point-90 : vertex_point_of ax ay px py (radius r) (pos 900) ≡ record { x = location_of ax px; y = location_of ay (relative_of py r) }
  point-90 = point (pos 900) cosine-900 sine-900 (at-centre ax px r zx) (at-radius ay py r zy)

  pub point-180 : vertex_point_of ax ay px py (radius r) (pos 1800) ≡ record { x = location_of ax (relative_of px (neg_ℤ r)); y = location_of ay py }
  point-180 = point (pos 1800) cosine-1800 sine-1800 (at-minus ax px r zx) (at-centre ay py r zy)

  pub point-270 : vertex_point_of ax ay px py (radius r) (pos 2700) ≡ record { x = location_of ax px; y = location_of ay (relative_of py (neg_ℤ r)) }
  point-270 = point (pos 2700) cosine-2700 sine-2700 (at-centre ax px r zx) (at-minus ay py r zy)

-- ---- "The four points at 0, 90, 180, 270 degrees must be in range": then so is every vertex, for a sine or cosine is at most 100,000 in size

-- the vertex goes as t × span does
mono : (c : Centre) (t u : ℤ) → pos 0 <ᶻ c.width → t *ℤ c.span ≤ᶻ u *ℤ c.span → from_centre c t ≤ᶻ from_centre c u
unfolding from_centre
mono c t u h l =
    let m : ℤ = c.part *ℤ pos 100000 in
    let w : ℤ = c.width *ℤ pos 100000 in
    add c.base (nearest_div (m +ℤ t *ℤ c.span) w) (nearest_div (m +ℤ u *ℤ c.span) w) (nearest-mono (m +ℤ t *ℤ c.span) (m +ℤ u *ℤ c.span) w (mul-posᶻ h scale) (add m (t *ℤ c.span) (u *ℤ c.span) l))
  where
    add : (b x y : ℤ) → x ≤ᶻ y → b +ℤ x ≤ᶻ b +ℤ y
    add b x y = rw (is b, is x, is y) (simp Z (omega arith))

squeeze : {lo z hi : ℤ} {N : ℕ} → lo ≤ᶻ z → z ≤ᶻ hi → Bd lo N → Bd hi N → Bd z N
squeeze {lo} {z} {hi} l u h k = record { bd = omega (arith, ord, abs z, abs lo, abs hi, h.bd, k.bd) }

pub centre-range : (c : Centre) (t r : ℤ) (N : ℕ) → pos 0 <ᶻ c.width → nat_abs t ≤ 100000 * nat_abs r →
    Bd (from_centre c (r *ℤ pos 100000)) N → Bd (from_centre c (neg_ℤ r *ℤ pos 100000)) N → Bd (from_centre c t) N
centre-range c t r N h l p m = go (between (t *ℤ D) (r *ℤ pos 100000 *ℤ D) (omega (arith, abs-mul t D, abs-mul (r *ℤ pos 100000) D ∙ ap (λ (k : ℕ). k * nat_abs D) (abs-mul r (pos 100000)), mul-le-mul_left (nat_abs D) l)))
  where
    D : ℤ
    D = c.span

    -- x is between y and −y
    between : (x y : ℤ) → nat_abs x ≤ nat_abs y → ((x ≤ᶻ y) × (neg_ℤ y ≤ᶻ x)) ⊎ ((x ≤ᶻ neg_ℤ y) × (y ≤ᶻ x))
    between x (pos n) h = inl (omega (arith, ord, abs x), omega (arith, ord, abs x, up_neg (pos n), dn-neg (pos n)))
    between x (negsuc n) h = inr (omega (arith, ord, abs x), omega (arith, ord, abs x))

    minus : (d : ℤ) → neg_ℤ (r *ℤ pos 100000 *ℤ d) ≡ neg_ℤ r *ℤ pos 100000 *ℤ d
    minus d = rw (is r, is d) (simp Z (omega arith))

    go : ((t *ℤ D ≤ᶻ r *ℤ pos 100000 *ℤ D) × (neg_ℤ (r *ℤ pos 100000 *ℤ D) ≤ᶻ t *ℤ D)) ⊎ ((t *ℤ D ≤ᶻ neg_ℤ (r *ℤ pos 100000 *ℤ D)) × (r *ℤ pos 100000 *ℤ D ≤ᶻ t *ℤ D)) → Bd (from_centre c t) N
    go (inl (u, v)) = squeeze (mono c (neg_ℤ r *ℤ pos 100000) t h (subst (λ (z : ℤ). z ≤ᶻ t *ℤ D) (minus D) v)) (mono c t (r *ℤ pos 100000) h u) m p
    go (inr (u, v)) = squeeze (mono c (r *ℤ pos 100000) t h v) (mono c t (neg_ℤ r *ℤ pos 100000) h (subst (λ (z : ℤ). t *ℤ D ≤ᶻ z) (minus D) u)) p m

pub vertex-range : (a : Axis) (p : ExactPosition) (t r : ℤ) (N : ℕ) → AxisBounds a → Locatable a p → nat_abs t ≤ 100000 * nat_abs r →
    Bd (location_of a (relative_of p r)) N → Bd (location_of a (relative_of p (neg_ℤ r))) N → Bd (vertex_of a p t) N
vertex-range a p t r N s k l h m =
    subst (λ (z : ℤ). Bd z N) (vertex-split a p t s.some)
    (centre-range (centre_of a p) t r N (centre-bounds a p s k).some l (there r h) (there (neg_ℤ r) m))
  where
    there : (r : ℤ) → Bd (location_of a (relative_of p r)) N → Bd (from_centre (centre_of a p) (r *ℤ pos 100000)) N
    there r = subst (λ (z : ℤ). Bd z N) (sym (at-radius a p r s.some) ∙ sym (vertex-split a p (r *ℤ pos 100000) s.some))

-- every vertex of the circle may be clipped
radius-size : (r angle : ℤ) → (nat_abs (rotated_of (radius r) angle).u ≤ 100000 * nat_abs r) × (nat_abs (rotated_of (radius r) angle).v ≤ 100000 * nat_abs r)
radius-size r angle = let w = rotated-radius r angle in (at_most (ap (λ (z : Way). z.u) w) (cosine-size angle), at_most (ap (λ (z : Way). z.v) w) (sine-size angle))
  where
    at_most : {x c : ℤ} → x ≡ r *ℤ c → Bd c 100000 → nat_abs x ≤ 100000 * nat_abs r
    at_most {x} {c} e h = omega (arith, ap nat_abs e, abs-mul r c, mul-le-mul_left (nat_abs r) h.bd)

pub circle-small : (ax ay : Axis) (px py : ExactPosition) (r angle : ℤ) → AxisBounds ax → AxisBounds ay → Locatable ax px → Locatable ay py →
    let vertex = vertex_point_of ax ay px py (radius r) in
    SmallPoint (vertex (pos 0)) → SmallPoint (vertex (pos 900)) → SmallPoint (vertex (pos 1800)) → SmallPoint (vertex (pos 2700)) → SmallPoint (vertex angle)
unfolding vertex_point_of
circle-small ax ay px py r angle h k lx ly e n w s =
    let t = rotated_of (radius r) angle in
    let z = radius-size r angle in
    record {
      x = vertex-range ax px t.u r reach h lx z.0 (subst SmallPoint (point-0 ax ay px py r h.some k.some) e).x (subst SmallPoint (point-180 ax ay px py r h.some k.some) w).x;
      y = vertex-range ay py t.v r reach k ly z.1 (subst SmallPoint (point-90 ax ay px py r h.some k.some) n).y (subst SmallPoint (point-270 ax ay px py r h.some k.some) s).y;
    }

-- the same of a centre that is at hand: where its two points on each axis are in range, so is every vertex
pub end-range : (a : Axis) (p : ExactPosition) (r : ℤ) (N : ℕ) → (a.width ≡ pos 0 → ⊥) → Bd (location_of a (relative_of p r)) N → Bd (from_centre (centre_of a p) (r *ℤ pos 100000)) N
end-range a p r N z = subst (λ (x : ℤ). Bd x N) (sym (at-radius a p r z) ∙ sym (vertex-split a p (r *ℤ pos 100000) z))

pub ends-small : (cx cy : Centre) (w : Way) (angle : ℤ) → w.v ≡ pos 0 → pos 0 <ᶻ cx.width → pos 0 <ᶻ cy.width →
    Bd (from_centre cx (w.u *ℤ pos 100000)) reach → Bd (from_centre cx (neg_ℤ w.u *ℤ pos 100000)) reach →
    Bd (from_centre cy (w.u *ℤ pos 100000)) reach → Bd (from_centre cy (neg_ℤ w.u *ℤ pos 100000)) reach → SmallPoint (point_from_centre cx cy w angle)
unfolding point_from_centre
ends-small cx cy w angle flat hx hy right left up down =
    let same : radius w.u ≡ w = λ i. record { u = w.u; v = sym flat i } in
    let z = radius-size w.u angle in
    record {
      x = centre-range cx (rotated_of w angle).u w.u reach hx (subst (λ (q : Way). nat_abs (rotated_of q angle).u ≤ 100000 * nat_abs w.u) same z.0) right left;
      y = centre-range cy (rotated_of w angle).v w.u reach hy (subst (λ (q : Way). nat_abs (rotated_of q angle).v ≤ 100000 * nat_abs w.u) same z.1) up down;
    }
