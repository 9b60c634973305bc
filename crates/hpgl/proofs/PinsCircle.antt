-- What document 01 says of a circle ("Circles"), said apart from the definitions that machine and exact model share: a closed ring of chords, its vertices at whole
-- multiples of the angle. It holds because chord i ends at vertex i + 1, where the next begins, and the vertex after the last chord stands at angle 0.
use Rattle.std.specs.Prelude.{◌≡◌, Bool, true, false, cond, ◌&&◌, List, [], ◌∷◌, ℤ, negsuc, neg_ℤ, nat_abs, ◌+ℤ◌, ◌-ℤ◌, ◌*ℤ◌, length}
use Rattle.std.proofs.Math.Path.{refl, ap}
use Rattle.std.proofs.Common.{sym, ◌∙◌, subst, arith, lt-ltb, le-ltb}
use Prim.Native.Nat.{ℕ, zero, suc, ◌+◌, ◌*◌, ◌≤◌, ◌<◌}
use Rattle.std.proofs.Math.IntN.{pos}
use Rattle.exact.specs.Whole.{◌≤?◌, ≤?-true, is, Z, ord}
use Rattle.exact.specs.Fit.{abs}
use Rattle.exact.specs.Ring.{#, con, ◌:+◌, ◌:-◌, ◌:*◌, ring}
use Rattle.clip.specs.Line.{Exact, based}
use Rattle.reader.specs.declared.Numbers.{Numbers}
use Rattle.sines.specs.Angle.{sine_of, cosine_of}
use Rattle.plane.specs.declared.position.ExactPosition.{ExactPosition}
use Rattle.plane.specs.Position.{axis_of, exact_of}
use Rattle.turns.specs.Turn.{turned_exact}
use Rattle.plane.specs.Circle.{chords_of, angle_of, rotated_of, exact_vertex}
use Rattle.plane.proofs.CircleLaws.{chords-law, angle-law}
use Rattle.hpgl.specs.declared.Range.{Range}
use Rattle.hpgl.specs.declared.Settings.{Settings}
use Rattle.hpgl.specs.declared.Core.{Core}
use Rattle.hpgl.specs.declared.Action.TheVariants.{Keep, Chords}
use Rattle.hpgl.specs.Numbers.{out_of_range, too_far}
use Rattle.hpgl.specs.Place.{axis_x, axis_y, exact_position}
use Rattle.hpgl.specs.Rules.{done, refuse, inked, circle_fits, circle, circle_with, chord_angle, ci_rule}
use Rattle.hpgl.specs.ExactModel.{ExactSegment, exact_segment, vertex_at, path}
use Rattle.hpgl.specs.Related.{Sound}
use Rattle.hpgl.proofs.PinsPosition.{span_of, width_of, Moves, standing, less, same-moves}

-- ---- in 01's words

-- "A vertex adds radius × cosine and radius × sine to O, both over 100,000, unrounded": e is the vertex at an angle, in tenths of a degree
pub record Vertex (c : Core) (r : ℤ) (angle : ℕ) (e : Exact) : Type 0 where
  pub x : Moves (standing c).x e.x (r *ℤ cosine_of (pos angle)) (span_of c.settings.scale.on c.settings.p1.x c.settings.p2.x)
      (width_of c.settings.scale.on c.settings.scale.x *ℤ pos 100000)
  pub y : Moves (standing c).y e.y (r *ℤ sine_of (pos angle)) (span_of c.settings.scale.on c.settings.p1.y c.settings.p2.y)
      (width_of c.settings.scale.on c.settings.scale.y *ℤ pos 100000)

-- "A circle's chords join its exact vertices": chord i leads from v i to v (i + 1), turned to the page by the turn t, and is owed paint
pub data Joins (t : ℕ) (v : ℕ → Exact) : ℕ → List ExactSegment → Type 0 where
  none : {i : ℕ} → Joins t v i []
  more : {i : ℕ} {g : ExactSegment} {gs : List ExactSegment} → g.from ≡ turned_exact (v i) t → g.to ≡ turned_exact (v (i + 1)) t → g.owed ≡ true → Joins t v (i + 1) gs →
      Joins t v i (g ∷ gs)

-- "Chords: 3600 over it, rounded up. Vertices zero, one, two .. stand at whole multiples of the angle; the last is the first again."
pub record Ring (c : Core) (r : ℤ) (a : ℕ) (v : ℕ → Exact) (gs : List ExactSegment) : Type 0 where
  pub enough : 3600 ≤ a * length gs
  pub fewest : a * length gs < 3600 + a
  pub multiples : (i : ℕ) → i < length gs → (i * a < 3600) × Vertex c r (i * a) (v i)
  pub again : v (length gs) ≡ v 0
  pub joins : Joins c.settings.turn v 0 gs

-- ---- one axis

-- K is 100,000; w and v are the sizes of W and of W × K
module _ (B O D t K w : ℤ) where
  vertex-plus : (v : ℤ) → v ≡ w *ℤ K → ((B *ℤ v +ℤ (O *ℤ K +ℤ t) *ℤ D) *ℤ w -ℤ (B *ℤ w +ℤ O *ℤ D) *ℤ v) *ℤ v ≡ t *ℤ D *ℤ (w *ℤ v)
  vertex-plus v e =
      rw e
      (ring (B ∷ O ∷ D ∷ t ∷ K ∷ w ∷ [])
      (((# 0 :* (# 5 :* # 4) :+ (# 1 :* # 4 :+ # 3) :* # 2) :* # 5 :- (# 0 :* # 5 :+ # 1 :* # 2) :* (# 5 :* # 4)) :* (# 5 :* # 4))
      (# 3 :* # 2 :* (# 5 :* (# 5 :* # 4))) tt)

  vertex-minus : (v : ℤ) → v ≡ w *ℤ K → ((B *ℤ v -ℤ (O *ℤ K +ℤ t) *ℤ D) *ℤ w -ℤ (B *ℤ w -ℤ O *ℤ D) *ℤ v) *ℤ neg_ℤ v ≡ t *ℤ D *ℤ (w *ℤ v)
  vertex-minus v e =
      rw (less v, e)
      (ring (B ∷ O ∷ D ∷ t ∷ K ∷ w ∷ [])
      (((# 0 :* (# 5 :* # 4) :- (# 1 :* # 4 :+ # 3) :* # 2) :* # 5 :- (# 0 :* # 5 :- # 1 :* # 2) :* (# 5 :* # 4)) :* (con (pos 0) :- # 5 :* # 4))
      (# 3 :* # 2 :* (# 5 :* (# 5 :* # 4))) tt)

vertexed : (B O D t W : ℤ) → (W ≡ pos 0 → ⊥) → Moves (based B O D W) (based B (O *ℤ pos 100000 +ℤ t) D (W *ℤ pos 100000)) t D (W *ℤ pos 100000)
vertexed B O D t (pos zero) z = absurd (z refl)
vertexed B O D t (pos (suc w)) z =
    let e : suc (w * 100000 + 99999) ≡ suc w * 100000 = omega arith in
    subst (λ (k : ℕ). Moves (based B O D (pos (suc w))) (based B (O *ℤ pos 100000 +ℤ t) D (pos k)) t D (pos k)) e
    (record { by = vertex-plus B O D t (pos 100000) (pos (suc w)) _ (ap pos e) })
vertexed B O D t (negsuc w) z =
    let e : suc (w * 100000 + 99999) ≡ suc w * 100000 = omega arith in
    subst (λ (k : ℕ). Moves (based B O D (negsuc w)) (based B (O *ℤ pos 100000 +ℤ t) D (neg_ℤ (pos k))) t D (neg_ℤ (pos k))) e
    (record { by = vertex-minus B O D t (pos 100000) (pos (suc w)) _ (ap pos e) })

pub axis-vertex : (on : Bool) (p1 p2 : ℤ) (r : Range) (p : ExactPosition) (t : ℤ) → ((axis_of on p1 p2 r.min r.max).width ≡ pos 0 → ⊥) →
    let a = axis_of on p1 p2 r.min r.max in Moves (exact_of a p) (exact_vertex a p t) t (span_of on p1 p2) (width_of on r *ℤ pos 100000)
unfolding axis_of
axis-vertex true p1 p2 r p t z = vertexed p.base p.offset _ t _ z
axis-vertex false p1 p2 r p t z = vertexed p.base p.offset _ t _ z

-- ---- the path over the vertices

module _ (c : Core) (v : ℕ → Exact) where
  pub count : (i n : ℕ) → length (path c v i n) ≡ n
  unfolding path
  count i zero = refl
  count i (suc n) = ap suc (count (i + 1) n)

  pub joined : (i n : ℕ) → Joins c.settings.turn v i (path c v i n)
  unfolding path exact_segment
  joined i zero = none
  joined i (suc n) = more refl refl refl (joined (i + 1) n)

-- ---- the vertices

module _ (c : Core) (r : ℤ) (w : Sound c.settings) where
  -- at an angle
  around : ℤ → Exact
  around t = record {
    x = exact_vertex (axis_x c.settings) c.carriage.position.x (rotated_of (record { u = r; v = pos 0 }) t).u;
    y = exact_vertex (axis_y c.settings) c.carriage.position.y (rotated_of (record { u = r; v = pos 0 }) t).v;
  }

  vertex-around : (k : ℕ) → Vertex c r k (around (pos k))
  unfolding around rotated_of exact_position axis_x axis_y
  vertex-around k = let s : Settings = c.settings in record {
    x = same-moves (u (cosine_of (pos k)) (sine_of (pos k))) (axis-vertex s.scale.on s.p1.x s.p2.x s.scale.x c.carriage.position.x _ w.x);
    y = same-moves (v (sine_of (pos k)) (cosine_of (pos k))) (axis-vertex s.scale.on s.p1.y s.p2.y s.scale.y c.carriage.position.y _ w.y);
  }
    where
      u : (a b : ℤ) → r *ℤ a -ℤ pos 0 *ℤ b ≡ r *ℤ a
      u a b = rw (is r, is a, is b) (simp Z (omega arith))

      v : (a b : ℤ) → r *ℤ a +ℤ pos 0 *ℤ b ≡ r *ℤ a
      v a b = rw (is r, is a, is b) (simp Z (omega arith))

  at-angle : (a i : ℕ) (t : ℤ) → angle_of a i ≡ t → vertex_at c r a i ≡ around t
  unfolding vertex_at around
  at-angle a i t e = ap around e

  at-multiple : (a i : ℕ) → i < chords_of a → angle_of a i ≡ pos (i * a)
  unfolding angle_of
  at-multiple a i l = ap (λ (t : Bool). pos (cond t (i * a) 0)) (lt-ltb i (chords_of a) l)

  at-end : (a : ℕ) → angle_of a (chords_of a) ≡ pos 0
  unfolding angle_of
  at-end a = let n : ℕ = chords_of a in ap (λ (t : Bool). pos (cond t (n * a) 0)) (le-ltb n n (omega arith))

  at-start : (a : ℕ) → 0 < chords_of a → angle_of a 0 ≡ pos 0
  at-start a l = at-multiple a 0 l ∙ ap pos (omega arith)

  circle-ring : (a : ℕ) → 0 < a → Ring c r a (vertex_at c r a) (path c (vertex_at c r a) 0 (chords_of a))
  circle-ring a h =
      let n : ℕ = chords_of a in
      let e : length (path c (vertex_at c r a) 0 n) ≡ n = count c (vertex_at c r a) 0 n in
      let l : (3600 ≤ a * n) × (a * n < 3600 + a) = chords-law a h in
      let some : 0 < n = not_none n l.0 in
      record {
        enough = rw e l.0;
        fewest = rw e l.1;
        multiples = λ i k. let m : i < n = rw e at k in (angle-law a i h m, subst (Vertex c r (i * a)) (sym (at-angle a i _ (at-multiple a i m))) (vertex-around (i * a)));
        again = ap (vertex_at c r a) e ∙ at-angle a n (pos 0) (at-end a) ∙ sym (at-angle a 0 (pos 0) (at-start a some));
        joins = joined c (vertex_at c r a) 0 n;
      }
    where
      not_none : (n : ℕ) → 3600 ≤ a * n → 0 < n
      not_none zero l = absurd (omega arith)
      not_none (suc n) l = omega arith

-- "the angle .. 5 to 1200": the chords of a CI that is carried out are a ring about the position, of radius n .first
pub circle-drawn : (c : Core) (n : Numbers) → Sound c.settings → (ci_rule c n).number ≡ 0 →
    let a = nat_abs (chord_angle n) in (5 ≤ a) × (a ≤ 1200) × Ring c n.first a (vertex_at c n.first a) (path c (vertex_at c n.first a) 0 (chords_of a))
unfolding ci_rule circle_with done refuse
circle-drawn c n w = go (pos 5 ≤? A) refl (A ≤? pos 1200) refl
  where
    A : ℤ
    A = chord_angle n

    go : (s : Bool) → (pos 5 ≤? A) ≡ s → (t : Bool) → (A ≤? pos 1200) ≡ t →
        (cond (s && t) (cond (circle_fits c n.first) (done c (cond (inked c) (Chords (circle c n.first (nat_abs A))) Keep)) (refuse c too_far)) (refuse c out_of_range)).number ≡ 0 →
        (5 ≤ nat_abs A) × (nat_abs A ≤ 1200) × Ring c n.first (nat_abs A) (vertex_at c n.first (nat_abs A)) (path c (vertex_at c n.first (nat_abs A)) 0 (chords_of (nat_abs A)))
    go true e true f z =
        let l : 5 ≤ nat_abs A = omega (arith, ord, abs A, ≤?-true (pos 5) A e) in
        (l, omega (arith, ord, abs A, ≤?-true (pos 5) A e, ≤?-true A (pos 1200) f), circle-ring c n.first w (nat_abs A) (omega arith))
    go true e false f z = absurd (omega arith)
    go false e t f z = absurd (omega arith)
