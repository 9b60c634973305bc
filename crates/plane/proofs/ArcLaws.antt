-- The laws of arcs: the way is the nearest to the exact one; how many chords, and what the way is turned by at each vertex; the location of a vertex rounds it; a circle is
-- the arc of a whole turn; and when every vertex is in range.
use Rattle.std.specs.Prelude.{◌≡◌, ◌⊎◌, Bool, cond, ◌&&◌, [], ◌∷◌, ltb, ℤ, pos, negsuc, neg_ℤ, nat_abs, ◌+ℤ◌, ◌-ℤ◌, ◌*ℤ◌}
use Rattle.std.proofs.Math.Path.{refl, subst}
use Rattle.std.proofs.Common.{sym, ap, ap₂, ◌∙◌, inl, inr, mul-le-mul_left, eq-or-lt_of_le, arith, ltb-true, lt-ltb, le-ltb}
use Rattle.std.proofs.Math.Bool.{true, false}
use Prim.Native.Nat.{ℕ, zero, suc, ◌+◌, ◌-◌, ◌*◌, ◌≤◌, ◌<◌}
use Rattle.std.proofs.Math.Nat.{mul-div-le, lt-mul-div-succ}
use Rattle.std.proofs.Math.Dec.{eqb-suc-zero}
use Rattle.std.proofs.Math.IntN.{neg_ℤ-neg_ℤ}
use Rattle.exact.specs.Whole.{◌≤ᶻ◌, ◌<ᶻ◌, is, Z, ord, ◌<?◌, <?-false, le-<?}
use Rattle.exact.specs.Ring.{#, con, ◌:+◌, ◌:-◌, ◌:*◌, ring}
use Rattle.exact.specs.Fit.{Bd, abs, abs-add, abs-sub, abs-mul, abs_neg}
use Rattle.exact.specs.Divide.{nearest_div}
use Rattle.clip.specs.Line.{based, nearest_whole, Rounds}
use Rattle.clip.proofs.Based.{based-nearest}
use Rattle.clip.proofs.Halves.{rounds}
use Rattle.clip.specs.Reach.{reach, SmallPoint}
use Rattle.clip.specs.declared.Point.{Point}
use Rattle.sines.specs.Angle.{sine_of, cosine_of}
use Rattle.sines.proofs.Quarters.{sine-size, cosine-size, sine-turn, cosine-turn}
use Rattle.plane.specs.declared.position.Axis.{Axis}
use Rattle.plane.specs.declared.position.ExactPosition.{ExactPosition}
use Rattle.plane.specs.declared.circle.Way.{Way}
use Rattle.plane.specs.declared.circle.Centre.{Centre}
use Rattle.plane.specs.Bounds.{most_number, WayBounds}
use Rattle.plane.specs.Position.{relative_of, exact_of, location_of, in_range_of}
use Rattle.plane.proofs.PositionLaws.{location-nearest, rebased-location, in-range, in-range-of}
use Rattle.plane.specs.Circle.{chords_of, angle_of, rotated_of, vertex_point_of, centre_of, from_centre, point_from_centre}
use Rattle.plane.proofs.CircleLaws.{vertex-nearest, vertex-point-split, centre-range, ends-small}
use Rattle.plane.specs.Arc.{exact_way, way_of, way_fits, parts_of, towards, bend_of, exact_arc, arc_of, arc_point, both_in_range, fits_from, arc_fits, ends_fit, round_fits}

-- ---- the way

-- "rounded to ten-thousandths": it is the nearest to the exact one, and of two the larger
pub way-nearest : (a : Axis) (p q : ExactPosition) → (a.span ≡ pos 0 → ⊥) → way_of a p q ≡ nearest_whole (exact_way a p q)
unfolding way_of
way-nearest a p q z = sym (based-nearest (p.offset -ℤ q.offset) (p.base -ℤ q.base) a.width a.span z)

pub way-rounds : (a : Axis) (p q : ExactPosition) → (a.span ≡ pos 0 → ⊥) → Rounds (exact_way a p q) (way_of a p q)
way-rounds a p q z = subst (Rounds (exact_way a p q)) (sym (way-nearest a p q z)) (rounds (exact_way a p q))

-- "in current units": the exact position is the exact centre and the exact way × D / W, multiplied out
module _ (B O b o : ℤ) where
  less : (x : ℤ) → neg_ℤ x ≡ pos 0 -ℤ x
  less x = rw (is x) (simp Z (omega arith))

  -- d and w are the sizes of D and W
  neither-below : (d w : ℤ) → ((B *ℤ w +ℤ O *ℤ d) *ℤ w -ℤ (b *ℤ w +ℤ o *ℤ d) *ℤ w) *ℤ (w *ℤ d) ≡ ((O -ℤ o) *ℤ d +ℤ (B -ℤ b) *ℤ w) *ℤ d *ℤ (w *ℤ w)
  neither-below d w =
      ring (B ∷ O ∷ b ∷ o ∷ d ∷ w ∷ [])
      (((# 0 :* # 5 :+ # 1 :* # 4) :* # 5 :- (# 2 :* # 5 :+ # 3 :* # 4) :* # 5) :* (# 5 :* # 4))
      (((# 1 :- # 3) :* # 4 :+ (# 0 :- # 2) :* # 5) :* # 4 :* (# 5 :* # 5)) tt

  width-below : (d w : ℤ) → ((B *ℤ w -ℤ O *ℤ d) *ℤ w -ℤ (b *ℤ w -ℤ o *ℤ d) *ℤ w) *ℤ (neg_ℤ w *ℤ d) ≡ ((O -ℤ o) *ℤ d +ℤ (B -ℤ b) *ℤ neg_ℤ w) *ℤ d *ℤ (w *ℤ w)
  width-below d w =
      rw (less w)
      (ring (B ∷ O ∷ b ∷ o ∷ d ∷ w ∷ [])
      (((# 0 :* # 5 :- # 1 :* # 4) :* # 5 :- (# 2 :* # 5 :- # 3 :* # 4) :* # 5) :* ((con (pos 0) :- # 5) :* # 4))
      (((# 1 :- # 3) :* # 4 :+ (# 0 :- # 2) :* (con (pos 0) :- # 5)) :* # 4 :* (# 5 :* # 5)) tt)

  span_below : (d w : ℤ) → ((B *ℤ w +ℤ O *ℤ neg_ℤ d) *ℤ w -ℤ (b *ℤ w +ℤ o *ℤ neg_ℤ d) *ℤ w) *ℤ (w *ℤ d) ≡ ((O -ℤ o) *ℤ d -ℤ (B -ℤ b) *ℤ w) *ℤ neg_ℤ d *ℤ (w *ℤ w)
  span_below d w =
      rw (less d)
      (ring (B ∷ O ∷ b ∷ o ∷ d ∷ w ∷ [])
      (((# 0 :* # 5 :+ # 1 :* (con (pos 0) :- # 4)) :* # 5 :- (# 2 :* # 5 :+ # 3 :* (con (pos 0) :- # 4)) :* # 5) :* (# 5 :* # 4))
      (((# 1 :- # 3) :* # 4 :- (# 0 :- # 2) :* # 5) :* (con (pos 0) :- # 4) :* (# 5 :* # 5)) tt)

  both_below : (d w : ℤ) →
      ((B *ℤ w -ℤ O *ℤ neg_ℤ d) *ℤ w -ℤ (b *ℤ w -ℤ o *ℤ neg_ℤ d) *ℤ w) *ℤ (neg_ℤ w *ℤ d) ≡ ((O -ℤ o) *ℤ d -ℤ (B -ℤ b) *ℤ neg_ℤ w) *ℤ neg_ℤ d *ℤ (w *ℤ w)
  both_below d w =
      rw (less d, less w)
      (ring (B ∷ O ∷ b ∷ o ∷ d ∷ w ∷ [])
      (((# 0 :* # 5 :- # 1 :* (con (pos 0) :- # 4)) :* # 5 :- (# 2 :* # 5 :- # 3 :* (con (pos 0) :- # 4)) :* # 5) :* ((con (pos 0) :- # 5) :* # 4))
      (((# 1 :- # 3) :* # 4 :- (# 0 :- # 2) :* (con (pos 0) :- # 5)) :* (con (pos 0) :- # 4) :* (# 5 :* # 5)) tt)

  difference : (D W : ℤ) → (D ≡ pos 0 → ⊥) → (W ≡ pos 0 → ⊥) →
      let f = based b o D W in
      let g = based B O D W in
      let way = based (O -ℤ o) (B -ℤ b) W D in
      (g.num *ℤ pos f.den -ℤ f.num *ℤ pos g.den) *ℤ (W *ℤ pos way.den) ≡ way.num *ℤ D *ℤ (pos f.den *ℤ pos g.den)
  difference (pos zero) W y z = absurd (y refl)
  difference (pos (suc d)) (pos zero) y z = absurd (z refl)
  difference (pos (suc d)) (pos (suc w)) y z = neither-below (pos (suc d)) (pos (suc w))
  difference (pos (suc d)) (negsuc w) y z = width-below (pos (suc d)) (pos (suc w))
  difference (negsuc d) (pos zero) y z = absurd (z refl)
  difference (negsuc d) (pos (suc w)) y z = span_below (pos (suc d)) (pos (suc w))
  difference (negsuc d) (negsuc w) y z = both_below (pos (suc d)) (pos (suc w))

pub way-exact : (a : Axis) (p q : ExactPosition) → (a.span ≡ pos 0 → ⊥) → (a.width ≡ pos 0 → ⊥) →
    let f = exact_of a q in
    let g = exact_of a p in
    let way = exact_way a p q in
    (g.num *ℤ pos f.den -ℤ f.num *ℤ pos g.den) *ℤ (a.width *ℤ pos way.den) ≡ way.num *ℤ a.span *ℤ (pos f.den *ℤ pos g.den)
way-exact a p q y z = difference p.base p.offset q.base q.offset a.span a.width y z

-- the way from a centre that is n further is minus n, whatever the scale: AR's
pub relative-way : (a : Axis) (p : ExactPosition) (n : ℤ) → (a.span ≡ pos 0 → ⊥) → way_of a p (relative_of p n) ≡ neg_ℤ n
unfolding way_of relative_of location_of
relative-way a p n z =
    ap₂ (λ (o b : ℤ). o +ℤ nearest_div (b *ℤ a.width) a.span) (back p.offset) (none p.base)
    ∙ rebased-location (record { origin = a.origin; least = a.least; span = a.width; width = a.span }) (neg_ℤ n) z
  where
    back : (O : ℤ) → O -ℤ (O +ℤ n) ≡ neg_ℤ n
    back O = rw (is O, is n) (simp Z (omega arith))

    none : (B : ℤ) → B -ℤ B ≡ pos 0
    none B = rw (is B) (simp Z (omega arith))

-- the test of a way is its bounds
no : false ≡ true → ⊥
no e = let z : ◌≡◌ {A = ℕ} 0 1 = ap {B = ℕ} (λ (t : Bool). cond t 1 0) e in omega arith

pub way-bounds : (w : Way) → way_fits w ≡ true → WayBounds w
unfolding way_fits
way-bounds w = go (w.u <? neg_ℤ (pos most_number)) refl (pos most_number <? w.u) refl (w.v <? neg_ℤ (pos most_number)) refl (pos most_number <? w.v) refl
  where
    between : {z : ℤ} → (z <? neg_ℤ (pos most_number)) ≡ false → (pos most_number <? z) ≡ false → Bd z most_number
    between {z} l u = record { bd = omega (arith, ord, abs z, <?-false z (neg_ℤ (pos most_number)) l, <?-false (pos most_number) z u) }

    go : (q : Bool) → (w.u <? neg_ℤ (pos most_number)) ≡ q → (r : Bool) → (pos most_number <? w.u) ≡ r →
        (s : Bool) → (w.v <? neg_ℤ (pos most_number)) ≡ s → (t : Bool) → (pos most_number <? w.v) ≡ t →
        cond q false (cond r false (cond s false (cond t false true))) ≡ true → WayBounds w
    go false c false d false e false f h = record { u = between c d; v = between e f }
    go false c false d false e true f h = absurd (no h)
    go false c false d true e t f h = absurd (no h)
    go false c true d s e t f h = absurd (no h)
    go true c r d s e t f h = absurd (no h)

pub way-fits : (w : Way) → WayBounds w → way_fits w ≡ true
unfolding way_fits
way-fits w h = rw (low h.u, high h.u, low h.v, high h.v) refl
  where
    low : {z : ℤ} → Bd z most_number → (z <? neg_ℤ (pos most_number)) ≡ false
    low {z} h = let l : neg_ℤ (pos most_number) ≤ᶻ z = omega (arith, ord, abs z, h.bd) in le-<? l

    high : {z : ℤ} → Bd z most_number → (pos most_number <? z) ≡ false
    high {z} h = let l : z ≤ᶻ pos most_number = omega (arith, ord, abs z, h.bd) in le-<? l

-- ---- chords: as many as go through the sweep, and none more
pub parts-law : (sweep : ℤ) (a : ℕ) → 0 < a → (nat_abs sweep ≤ a * parts_of sweep a) × (a * parts_of sweep a < nat_abs sweep + a)
unfolding parts_of
parts-law sweep a h =
    let n = nat_abs sweep in
    let l = mul-div-le (n + a - 1) a in
    let u = lt-mul-div-succ (n + a - 1) h in
    (omega (arith, u), omega (arith, l))

pub parts-some : (sweep : ℤ) (a : ℕ) → 0 < a → (sweep ≡ pos 0 → ⊥) → 0 < parts_of sweep a
parts-some sweep a h z = go (parts_of sweep a) (size sweep z) (parts-law sweep a h).0
  where
    size : (s : ℤ) → (s ≡ pos 0 → ⊥) → 0 < nat_abs s
    size (pos zero) z = absurd (z refl)
    size (pos (suc n)) z = omega arith
    size (negsuc n) z = omega arith

    go : (n : ℕ) → 0 < nat_abs sweep → nat_abs sweep ≤ a * n → 0 < n
    go zero s l = absurd (omega arith)
    go (suc n) s l = omega arith

-- as many as there are degrees halves at most: a sweep of at most a turn, and a chord angle of at least 5
pub parts-most : (sweep : ℤ) (a : ℕ) → nat_abs sweep ≤ 3600 → 5 ≤ a → parts_of sweep a ≤ 720
parts-most sweep a s h = go (parts_of sweep a) (parts-law sweep a (omega arith)).1
  where
    go : (n : ℕ) → a * n < nat_abs sweep + a → n ≤ 720
    go zero l = omega arith
    go (suc n) l = omega (arith, mul-le-mul_left n h)

-- and never more than tenths of a degree
pub parts-few : (sweep : ℤ) (a : ℕ) → 0 < a → parts_of sweep a ≤ nat_abs sweep
parts-few sweep a h = go (parts_of sweep a) (parts-law sweep a h).1
  where
    go : (n : ℕ) → a * n < nat_abs sweep + a → n ≤ nat_abs sweep
    go zero l = omega arith
    go (suc n) l = omega (arith, mul-le-mul_left n h)

-- ---- what the way is turned by

-- whole chord angles before the last, in the sense of the sweep, and short of it
pub bend-inner : (sweep : ℤ) (a i : ℕ) → i < parts_of sweep a → bend_of sweep a i ≡ towards sweep (i * a)
unfolding bend_of
bend-inner sweep a i l = rw (lt-ltb i (parts_of sweep a) l) refl

pub inner-short : (sweep : ℤ) (a i : ℕ) → 0 < a → i < parts_of sweep a → i * a < nat_abs sweep
inner-short sweep a i h l = omega (arith, (parts-law sweep a h).1, mul-le-mul_left a l)

-- the swept angle itself at the last
pub bend-last : (sweep : ℤ) (a i : ℕ) → parts_of sweep a ≤ i → bend_of sweep a i ≡ sweep
unfolding bend_of
bend-last sweep a i l = rw (le-ltb i (parts_of sweep a) l) refl

not-below : (k : ℕ) → (pos (suc k) <? pos 0) ≡ false
not-below k = le-<? (omega (arith, ord))

-- "positive is from x towards y": the other sweep goes the other way
pub towards-back : (sweep : ℤ) (n : ℕ) → (sweep ≡ pos 0 → ⊥) → towards (neg_ℤ sweep) n ≡ neg_ℤ (towards sweep n)
unfolding towards ◌<?◌
towards-back (pos zero) n z = absurd (z refl)
towards-back (pos (suc k)) n z = ap (λ (t : Bool). neg_ℤ (cond t (neg_ℤ (pos n)) (pos n))) (sym (not-below k))
towards-back (negsuc k) n z = ap (λ (t : Bool). cond t (neg_ℤ (pos n)) (pos n)) (not-below k) ∙ sym (neg_ℤ-neg_ℤ (pos n))

pub towards-size : (sweep : ℤ) (n : ℕ) → nat_abs (towards sweep n) ≡ n
unfolding towards
towards-size sweep n = go (sweep <? pos 0)
  where
    go : (t : Bool) → nat_abs (cond t (neg_ℤ (pos n)) (pos n)) ≡ n
    go true = abs_neg (pos n)
    go false = refl

pub bend-back : (sweep : ℤ) (a i : ℕ) → (sweep ≡ pos 0 → ⊥) → bend_of (neg_ℤ sweep) a i ≡ neg_ℤ (bend_of sweep a i)
unfolding bend_of parts_of
bend-back sweep a i z = rw (abs_neg sweep, towards-back sweep (i * a) z) (go (ltb i (parts_of sweep a)))
  where
    go : (t : Bool) → cond t (neg_ℤ (towards sweep (i * a))) (neg_ℤ sweep) ≡ neg_ℤ (cond t (towards sweep (i * a)) sweep)
    go true = refl
    go false = refl

-- never more than the sweep
pub bend-size : (sweep : ℤ) (a i : ℕ) → 0 < a → Bd (bend_of sweep a i) (nat_abs sweep)
unfolding bend_of
bend-size sweep a i h = go (ltb i (parts_of sweep a)) refl
  where
    go : (t : Bool) → ltb i (parts_of sweep a) ≡ t → Bd (cond t (towards sweep (i * a)) sweep) (nat_abs sweep)
    go true e = record { bd = omega (arith, towards-size sweep (i * a), inner-short sweep a i h (ltb-true i (parts_of sweep a) e)) }
    go false e = record { bd = omega arith }

-- ---- the location of a vertex rounds it: at the first the position, then about the centre
pub arc-nearest : (a : Axis) (p q : ExactPosition) (t : ℤ) (i : ℕ) → (a.width ≡ pos 0 → ⊥) → arc_of a p q t i ≡ nearest_whole (exact_arc a p q t i)
unfolding exact_arc arc_of
arc-nearest a p q t zero z = location-nearest a p z
arc-nearest a p q t (suc i) z = vertex-nearest a q t z

pub arc-rounds : (a : Axis) (p q : ExactPosition) (t : ℤ) (i : ℕ) → (a.width ≡ pos 0 → ⊥) → Rounds (exact_arc a p q t i) (arc_of a p q t i)
arc-rounds a p q t i z = subst (Rounds (exact_arc a p q t i)) (sym (arc-nearest a p q t i z)) (rounds (exact_arc a p q t i))

-- and is what the code finds
pub arc-split : (ax ay : Axis) (px py qx qy : ExactPosition) (w : Way) (sweep : ℤ) (a i : ℕ) → (ax.width ≡ pos 0 → ⊥) → (ay.width ≡ pos 0 → ⊥) →
    let r = rotated_of w (bend_of sweep a i) in
    arc_point (record { x = location_of ax px; y = location_of ay py }) (centre_of ax qx) (centre_of ay qy) w sweep a i ≡ record { x = arc_of ax px qx r.u i; y = arc_of ay py qy r.v i }
unfolding arc_point arc_of vertex_point_of
arc-split ax ay px py qx qy w sweep a zero zx zy = refl
arc-split ax ay px py qx qy w sweep a (suc i) zx zy = rw (eqb-suc-zero i) (vertex-point-split ax ay qx qy w (bend_of sweep a (suc i)) zx zy)

-- ---- a circle is the arc of a whole turn from its point at 0 degrees
pub circle-parts : (a : ℕ) → parts_of (pos 3600) a ≡ chords_of a
unfolding parts_of chords_of
circle-parts a = refl

whole-turn : (w : Way) → rotated_of w (pos 3600) ≡ rotated_of w (pos 0)
unfolding rotated_of
whole-turn w =
    let s : sine_of (pos 3600) ≡ sine_of (pos 0) = sine-turn (pos 0) in
    let c : cosine_of (pos 3600) ≡ cosine_of (pos 0) = cosine-turn (pos 0) in
    λ i. record { u = w.u *ℤ c i -ℤ w.v *ℤ s i; v = w.u *ℤ s i +ℤ w.v *ℤ c i }

circle-bend : (w : Way) (a i : ℕ) → rotated_of w (bend_of (pos 3600) a i) ≡ rotated_of w (angle_of a i)
unfolding bend_of angle_of towards ◌<?◌
circle-bend w a i = rw (circle-parts a) (go (ltb i (chords_of a)))
  where
    go : (t : Bool) → rotated_of w (cond t (pos (i * a)) (pos 3600)) ≡ rotated_of w (pos (cond t (i * a) 0))
    go true = refl
    go false = whole-turn w

at_zero : (a : ℕ) → angle_of a 0 ≡ pos 0
unfolding angle_of
at_zero a = go (ltb 0 (chords_of a))
  where
    go : (t : Bool) → pos (cond t (0 * a) 0) ≡ pos 0
    go true = ap pos (omega arith)
    go false = refl

pub circle-arc : (cx cy : Centre) (w : Way) (a i : ℕ) → arc_point (point_from_centre cx cy w (pos 0)) cx cy w (pos 3600) a i ≡ point_from_centre cx cy w (angle_of a i)
unfolding arc_point point_from_centre
circle-arc cx cy w a zero = ap (point_from_centre cx cy w) (sym (at_zero a))
circle-arc cx cy w a (suc i) = rw (eqb-suc-zero i) (let e = circle-bend w a (suc i) in λ j. record { x = from_centre cx (e j).u; y = from_centre cy (e j).v })

-- ---- range

-- the test of a point is its bounds
pub both_small : (p : Point) → both_in_range p ≡ true → SmallPoint p
unfolding both_in_range
both_small p = go (in_range_of p.x) refl
  where
    go : (t : Bool) → in_range_of p.x ≡ t → cond t (in_range_of p.y) false ≡ true → SmallPoint p
    go true e h = record { x = in-range p.x e; y = in-range p.y h }
    go false e h = absurd (no h)

pub small-both : (p : Point) → SmallPoint p → both_in_range p ≡ true
unfolding both_in_range
small-both p h = rw (in-range-of p.x h.x) (in-range-of p.y h.y)

module _ (cx cy : Centre) (w : Way) (sweep : ℤ) (a : ℕ) where
  abbrev at : ℕ → Point
  at i = point_from_centre cx cy w (bend_of sweep a i)

  -- the test of n vertices is the bounds of each
  pub each-small : (i n : ℕ) → fits_from cx cy w sweep a i n ≡ true → (j : ℕ) → i ≤ j → j < i + n → SmallPoint (at j)
  unfolding fits_from
  each-small i zero h j l u = absurd (omega arith)
  each-small i (suc n) h j l u = go (both_in_range (at i)) refl h (eq-or-lt_of_le l) (λ e k. each-small (i + 1) n e j k (omega arith))
    where
      go : (t : Bool) → both_in_range (at i) ≡ t → t && fits_from cx cy w sweep a (i + 1) n ≡ true → (i ≡ j) ⊎ (i < j) →
          (fits_from cx cy w sweep a (i + 1) n ≡ true → i + 1 ≤ j → SmallPoint (at j)) → SmallPoint (at j)
      go true e h (inl k) f = subst (λ (m : ℕ). SmallPoint (at m)) k (both_small (at i) e)
      go true e h (inr k) f = f h (omega arith)
      go false e h k f = absurd (no h)

  pub each_fits : (i n : ℕ) → ((j : ℕ) → i ≤ j → j < i + n → SmallPoint (at j)) → fits_from cx cy w sweep a i n ≡ true
  unfolding fits_from
  each_fits i zero f = refl
  each_fits i (suc n) f = rw (small-both (at i) (f i (omega arith) (omega arith))) (each_fits (i + 1) n (λ j l u. f j (omega arith) (omega arith)))

-- no part of a turned way is larger than |u| + |v|
rotated-reach : (w : Way) (angle : ℤ) → let r = nat_abs w.u + nat_abs w.v in
    (nat_abs (rotated_of w angle).u ≤ 100000 * r) × (nat_abs (rotated_of w angle).v ≤ 100000 * r)
unfolding rotated_of
rotated-reach w angle =
    let c = cosine_of angle in
    let s = sine_of angle in
    let k = (cosine-size angle).bd in
    let l = (sine-size angle).bd in
    let uc = mul-le-mul_left (nat_abs w.u) k in
    let us = mul-le-mul_left (nat_abs w.u) l in
    let vc = mul-le-mul_left (nat_abs w.v) k in
    let vs = mul-le-mul_left (nat_abs w.v) l in (
      omega (arith, abs-sub (w.u *ℤ c) (w.v *ℤ s), abs-mul w.u c, abs-mul w.v s, uc, vs),
      omega (arith, abs-add (w.u *ℤ s) (w.v *ℤ c), abs-mul w.u s, abs-mul w.v c, us, vc),
    )

ends-range : (c : Centre) (t : ℤ) (r : ℕ) → pos 0 <ᶻ c.width → nat_abs t ≤ 100000 * r → ends_fit c r ≡ true → Bd (from_centre c t) reach
unfolding ends_fit
ends-range c t r h l = go (in_range_of (from_centre c (pos r *ℤ pos 100000))) refl
  where
    go : (s : Bool) → in_range_of (from_centre c (pos r *ℤ pos 100000)) ≡ s → cond s (in_range_of (from_centre c (neg_ℤ (pos r) *ℤ pos 100000))) false ≡ true → Bd (from_centre c t) reach
    go true e k = centre-range c t (pos r) reach h l (in-range _ e) (in-range _ k)
    go false e k = absurd (no k)

pub round-small : (cx cy : Centre) (w : Way) (angle : ℤ) → pos 0 <ᶻ cx.width → pos 0 <ᶻ cy.width → round_fits cx cy w ≡ true → SmallPoint (point_from_centre cx cy w angle)
unfolding round_fits point_from_centre
round-small cx cy w angle hx hy = go (ends_fit cx (nat_abs w.u + nat_abs w.v)) refl
  where
    go : (t : Bool) → ends_fit cx (nat_abs w.u + nat_abs w.v) ≡ t → cond t (ends_fit cy (nat_abs w.u + nat_abs w.v)) false ≡ true →
        SmallPoint (record { x = from_centre cx (rotated_of w angle).u; y = from_centre cy (rotated_of w angle).v })
    go true e h =
        let l = rotated-reach w angle in
        record {
          x = ends-range cx (rotated_of w angle).u (nat_abs w.u + nat_abs w.v) hx l.0 e;
          y = ends-range cy (rotated_of w angle).v (nat_abs w.u + nat_abs w.v) hy l.1 h;
        }
    go false e h = absurd (no h)

-- so the quick answer is right, whichever vertices are asked for
pub round-fits : (cx cy : Centre) (w : Way) (sweep : ℤ) (a i n : ℕ) → pos 0 <ᶻ cx.width → pos 0 <ᶻ cy.width → round_fits cx cy w ≡ true → fits_from cx cy w sweep a i n ≡ true
round-fits cx cy w sweep a i n hx hy e = each_fits cx cy w sweep a i n (λ j l u. round-small cx cy w (bend_of sweep a j) hx hy e)

-- and where the way lies along x, the four points at its length are enough: a circle's
pub ends-fits : (cx cy : Centre) (w : Way) (sweep : ℤ) (a : ℕ) → w.v ≡ pos 0 → pos 0 <ᶻ cx.width → pos 0 <ᶻ cy.width →
    Bd (from_centre cx (w.u *ℤ pos 100000)) reach → Bd (from_centre cx (neg_ℤ w.u *ℤ pos 100000)) reach →
    Bd (from_centre cy (w.u *ℤ pos 100000)) reach → Bd (from_centre cy (neg_ℤ w.u *ℤ pos 100000)) reach → arc_fits cx cy w sweep a ≡ true
unfolding arc_fits
ends-fits cx cy w sweep a flat hx hy right left up down =
    each_fits cx cy w sweep a 1 (parts_of sweep a) (λ j l u. ends-small cx cy w (bend_of sweep a j) flat hx hy right left up down)
