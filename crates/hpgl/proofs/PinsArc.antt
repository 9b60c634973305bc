-- What document 02 says of an arc ("Arcs for the goal creases"), said apart from the definitions that machine and exact model share: where its vertices stand, which chords
-- join them, which of these are queued, and where the position is left. Refusals.antt says when it is carried out, Effects.antt that a refused one changes nothing.
-- It holds because vertex i + 1 adds the turned way to the centre's offset, as a circle's does to the position's, and vertex 0 is the position itself.
use Rattle.std.specs.Prelude.{◌≡◌, Bool, true, false, pos, neg_ℤ, ◌+ℤ◌, ◌-ℤ◌, ◌*ℤ◌, length}
use Rattle.std.proofs.Math.Path.{refl, sym, ap, subst}
use Rattle.std.proofs.Common.{◌∙◌, arith, ne_eqb}
use Rattle.std.proofs.Math.Bool.{cond}
use mathlib.Core.List.{List, []}
use Prim.Native.Nat.{ℕ, zero, suc, ◌+◌, ◌*◌, ◌≤◌, ◌<◌}
use Rattle.std.proofs.Math.IntN.{ℤ, nat_abs}
use Rattle.exact.specs.Whole.{◌<ᶻ◌, ord, lt-<?, le-<?}
use Rattle.clip.specs.Line.{Exact, nearest}
use Rattle.clip.specs.declared.Point.{Point}
use Rattle.reader.specs.declared.Numbers.{Numbers}
use Rattle.reader.specs.declared.Event.TheVariants.{Ended}
use Rattle.reader.specs.Step.{step_of}
use Rattle.mnemonics.specs.Table.{AA, AR}
use Rattle.sines.specs.Angle.{sine_of, cosine_of}
use Rattle.plane.specs.declared.position.ExactPosition.{ExactPosition}
use Rattle.plane.specs.declared.circle.Way.{Way}
use Rattle.plane.specs.Position.{axis_of, exact_of}
use Rattle.plane.specs.Circle.{rotated_of, exact_vertex, vertex_point_of}
use Rattle.plane.proofs.CircleLaws.{vertex-nearest, vertex-point-split}
use Rattle.plane.specs.Arc.{exact_way, parts_of, towards, bend_of, exact_arc}
use Rattle.plane.proofs.ArcLaws.{way-exact, relative-way, parts-law, parts-some, bend-inner, bend-last}
use Rattle.hpgl.proofs.Cases.{pick}
use Rattle.hpgl.specs.declared.Position.{Position}
use Rattle.hpgl.specs.declared.Range.{Range}
use Rattle.hpgl.specs.declared.Settings.{Settings}
use Rattle.hpgl.specs.declared.Core.{Core}
use Rattle.hpgl.specs.declared.State.{State}
use Rattle.hpgl.specs.declared.Acted.{Acted}
use Rattle.hpgl.specs.Place.{point, axis_x, axis_y, exact_position, relative_position, rest_at}
use Rattle.hpgl.specs.Rules.{done, refuse, swept_angle, arc_angle, way_from, arc, last_vertex, follow, arc_about, aa_rule, ar_rule, end_rule, act_on, noted}
use Rattle.hpgl.proofs.ArcCases.{Passed, arc_of, by-arc}
use Rattle.hpgl.specs.Machine.{occupied, applied, acted, take_state, take_number}
use Rattle.hpgl.proofs.Noted.{noted-none}
use Rattle.hpgl.specs.ExactModel.{ExactPolygon, ExactSegment, arc_vertex, path, inked_only, arc_moves, instructed, added}
use Rattle.hpgl.specs.Made.{Made}
use Rattle.hpgl.specs.Valid.{Usable}
use Rattle.hpgl.proofs.ValidFacts.{from-to, sweep-some}
use Rattle.hpgl.proofs.ValidKept.{made-usable}
use Rattle.hpgl.specs.Related.{Sound, Spanned}
use Rattle.hpgl.proofs.PinsPosition.{span_of, width_of, Moves, standing}
use Rattle.hpgl.proofs.PinsCircle.{Joins, axis-vertex, count, joined}
use Rattle.hpgl.specs.Effects.{centre_aa, centre_ar}
use Rattle.hpgl.specs.Refusals.{IsNearest, Angle, WayFrom}
use Rattle.hpgl.proofs.RefusalsProof.{sweep-one, arc-angle-one, way-from-one}
use Rattle.hpgl.proofs.WhatTakeDoes.{sound, spanned}

-- ---- in 02's words

-- "the centre plus that way turned": e is the centre q and the way w, turned by an angle in tenths of a degree. "Turning uses the sine table and nothing more is rounded."
pub record Turned (s : Settings) (q : Exact) (w : Way) (angle : ℤ) (e : Exact) : Type 0 where
  pub x : Moves q.x e.x (w.u *ℤ cosine_of angle -ℤ w.v *ℤ sine_of angle) (span_of s.scale.on s.p1.x s.p2.x)
      (width_of s.scale.on s.scale.x *ℤ pos 100000)
  pub y : Moves q.y e.y (w.u *ℤ sine_of angle +ℤ w.v *ℤ cosine_of angle) (span_of s.scale.on s.p1.y s.p2.y)
      (width_of s.scale.on s.scale.y *ℤ pos 100000)

-- the chords gs of an arc from where c stands about q, with the sweep s and the chord angle a: as many as go through the sweep and none more; "The arc starts at the current
-- exact position"; later vertices turn "by whole chord angles and at the last by the swept angle itself", and "positive is from x towards y"
pub record ArcPath (c : Core) (q : Exact) (w : Way) (s : ℤ) (a : ℕ) (v : ℕ → Exact) (gs : List ExactSegment) : Type 0 where
  pub enough : nat_abs s ≤ a * length gs
  pub fewest : a * length gs < nat_abs s + a
  pub first : v 0 ≡ standing c
  pub onwards : pos 0 <ᶻ s → (i : ℕ) → 0 < i → i < length gs → Turned c.settings q w (pos (i * a)) (v i)
  pub backwards : s <ᶻ pos 0 → (i : ℕ) → 0 < i → i < length gs → Turned c.settings q w (neg_ℤ (pos (i * a))) (v i)
  pub last : Turned c.settings q w s (v (length gs))
  pub joins : Joins c.settings.turn v 0 gs

-- an arc that is carried out, from the core c to the core d: gs is what it adds to the queue
pub record ArcDone (c d : Core) (q : Position) (w : Way) (s : ℤ) (a : ℕ) (gs : List ExactSegment) : Type 0 where
  pub vertices : ℕ → Exact
  pub chords : List ExactSegment
  pub arc : ArcPath c (exact_position c.settings q) w s a vertices chords
  -- "each chord .. being a move": with pen down and pen not 0
  pub painted : c.carriage.pen.down ≡ true → (c.carriage.pen.number ≡ 0 → ⊥) → gs ≡ chords
  pub lifted : c.carriage.pen.down ≡ false → gs ≡ []
  pub inkless : c.carriage.pen.number ≡ 0 → gs ≡ []
  -- "The position afterwards is the last vertex, kept as its location with offset 0."
  pub rests : d.carriage.position ≡ rest_at (nearest (vertices (length chords)))

-- ---- the way

axis-apart : (on : Bool) (p1 p2 : ℤ) (r : Range) (p q : ExactPosition) →
    let a = axis_of on p1 p2 r.min r.max in
    (a.span ≡ pos 0 → ⊥) → (a.width ≡ pos 0 → ⊥) →
    Moves (exact_of a q) (exact_of a p) (exact_way a p q).num (span_of on p1 p2) (width_of on r *ℤ pos (exact_way a p q).den)
unfolding axis_of
axis-apart true p1 p2 r p q y z = record { by = way-exact (axis_of true p1 p2 r.min r.max) p q y z }
axis-apart false p1 p2 r p q y z = record { by = way-exact (axis_of false p1 p2 r.min r.max) p q y z }

-- "The way from centre to current point is taken per axis in current units": the exact position is the exact centre and the exact way × D / W. Refusals.antt (`WayFrom`) says
-- that it is "rounded to ten-thousandths"
pub record Apart (c : Core) (q : Position) : Type 0 where
  pub x : let z = exact_way (axis_x c.settings) c.carriage.position.x q.x in
      Moves (exact_position c.settings q).x (standing c).x z.num (span_of c.settings.scale.on c.settings.p1.x c.settings.p2.x)
      (width_of c.settings.scale.on c.settings.scale.x *ℤ pos z.den)
  pub y : let z = exact_way (axis_y c.settings) c.carriage.position.y q.y in
      Moves (exact_position c.settings q).y (standing c).y z.num (span_of c.settings.scale.on c.settings.p1.y c.settings.p2.y)
      (width_of c.settings.scale.on c.settings.scale.y *ℤ pos z.den)

pub way_apart : (c : Core) (q : Position) → Sound c.settings → Spanned c.settings → Apart c q
unfolding exact_position axis_x axis_y
way_apart c q w v =
    let s : Settings = c.settings in
    let p : Position = c.carriage.position in
    record {
      x = axis-apart s.scale.on s.p1.x s.p2.x s.scale.x p.x q.x v.x w.x;
      y = axis-apart s.scale.on s.p1.y s.p2.y s.scale.y p.y q.y v.y w.y;
    }

-- AR's is minus its numbers, whatever the scale
pub way-of-AR : (c : Core) (n : Numbers) → Spanned c.settings → way_from c (centre_ar c n) ≡ record { u = neg_ℤ n.first; v = neg_ℤ n.second }
unfolding way_from relative_position
way-of-AR c n v =
    let s : Settings = c.settings in
    let p : Position = c.carriage.position in
    λ i. record { u = relative-way (axis_x s) p.x n.first v.x i; v = relative-way (axis_y s) p.y n.second v.y i }

-- ---- the vertices and the chords

module _ (c : Core) (q : Position) (w : Sound c.settings) where
  -- the way turned by an angle, from the centre
  around : ℤ → Exact
  around t = record {
    x = exact_vertex (axis_x c.settings) q.x (rotated_of (way_from c q) t).u;
    y = exact_vertex (axis_y c.settings) q.y (rotated_of (way_from c q) t).v;
  }

  turned-around : (t : ℤ) → Turned c.settings (exact_position c.settings q) (way_from c q) t (around t)
  unfolding around rotated_of exact_position axis_x axis_y
  turned-around t = let s : Settings = c.settings in record {
    x = axis-vertex s.scale.on s.p1.x s.p2.x s.scale.x q.x _ w.x;
    y = axis-vertex s.scale.on s.p1.y s.p2.y s.scale.y q.y _ w.y;
  }

  -- and its location
  located : (t : ℤ) → vertex_point_of (axis_x c.settings) (axis_y c.settings) q.x q.y (way_from c q) t ≡ nearest (around t)
  unfolding vertex_point_of around
  located t =
      let k : Settings = c.settings in
      let r : Way = rotated_of (way_from c q) t in
      λ i. point (vertex-nearest (axis_x k) q.x r.u w.x i) (vertex-nearest (axis_y k) q.y r.v w.y i)

  module _ (s : ℤ) (a : ℕ) where
    at-start : arc_vertex c q s a 0 ≡ standing c
    unfolding arc_vertex exact_arc exact_position
    at-start = refl

    -- a later one that turns by t
    vertex-at : (i : ℕ) (t : ℤ) → 0 < i → bend_of s a i ≡ t → around t ≡ arc_vertex c q s a i
    unfolding arc_vertex exact_arc around
    vertex-at zero t l e = absurd (omega arith)
    vertex-at (suc i) t l e = ap around (sym e)

    at-angle : (i : ℕ) (t : ℤ) → 0 < i → bend_of s a i ≡ t → Turned c.settings (exact_position c.settings q) (way_from c q) t (arc_vertex c q s a i)
    at-angle i t l e = subst (Turned c.settings (exact_position c.settings q) (way_from c q) t) (vertex-at i t l e) (turned-around t)

    onwards-is : (n : ℕ) → pos 0 <ᶻ s → towards s n ≡ pos n
    unfolding towards
    onwards-is n h = ap (λ (t : Bool). cond t (neg_ℤ (pos n)) (pos n)) (le-<? (omega (arith, ord, h)))

    backwards-is : (n : ℕ) → s <ᶻ pos 0 → towards s n ≡ neg_ℤ (pos n)
    unfolding towards
    backwards-is n h = ap (λ (t : Bool). cond t (neg_ℤ (pos n)) (pos n)) (lt-<? h)

    arc-path : (d : Core) → d.settings.turn ≡ c.settings.turn → 0 < a → (s ≡ pos 0 → ⊥) →
        ArcPath c (exact_position c.settings q) (way_from c q) s a (arc_vertex c q s a) (path d (arc_vertex c q s a) 0 (parts_of s a))
    arc-path d same h z =
        let n : ℕ = parts_of s a in
        let v : ℕ → Exact = arc_vertex c q s a in
        let e : length (path d v 0 n) ≡ n = count d v 0 n in
        let l : (nat_abs s ≤ a * n) × (a * n < nat_abs s + a) = parts-law s a h in
        record {
          enough = rw e l.0;
          fewest = rw e l.1;
          first = at-start;
          onwards = λ g i k m. at-angle i _ k (bend-inner s a i (rw e at m) ∙ onwards-is (i * a) g);
          backwards = λ g i k m. at-angle i _ k (bend-inner s a i (rw e at m) ∙ backwards-is (i * a) g);
          last = subst (λ (k : ℕ). Turned c.settings (exact_position c.settings q) (way_from c q) s (v k)) (sym e) (at-angle n s (parts-some s a h z) (bend-last s a n (omega arith)));
          joins = subst (λ (t : ℕ). Joins t v 0 (path d v 0 n)) same (joined d v 0 n);
        }

    -- the last one as the rule finds it
    last-is : 0 < a → (s ≡ pos 0 → ⊥) → last_vertex (arc c q s a) ≡ nearest (arc_vertex c q s a (parts_of s a))
    unfolding last_vertex arc
    last-is h z =
        let n : ℕ = parts_of s a in
        vertex-point-split (axis_x c.settings) (axis_y c.settings) q.x q.y (way_from c q) s w.x w.y ∙ located s
        ∙ ap {B = Point} (λ (e : Exact). nearest e) (vertex-at n s (parts-some s a h z) (bend-last s a n (omega arith)))

-- ---- an arc that is carried out

module _ (c : Core) (q : Position) (n : Numbers) (w : Sound c.settings) where
  abbrev Done : Acted → Type 0
  Done t = t.number ≡ 0 → ArcDone c t.core q (way_from c q) (swept_angle n) (nat_abs (arc_angle n)) (arc_moves c t.core q n)

  arc-done : Done (arc_about c q n)
  unfolding refuse follow done arc_moves inked_only
  arc-done = by-arc c q n Done (λ p e. followed p) (λ e. absurd (omega arith)) (λ e. absurd (omega arith))
    where
      s : ℤ
      s = swept_angle n

      a : ℕ
      a = nat_abs (arc_angle n)

      d : Core
      d = (follow c (arc_of c q n)).core

      followed : Passed c q n → ArcDone c (follow c (arc_of c q n)).core q (way_from c q) s a (arc_moves c (follow c (arc_of c q n)).core q n)
      followed p =
          let h : 0 < a = omega (arith, (from-to 5 1200 (arc_angle n) p.angle).1) in
          let z : s ≡ pos 0 → ⊥ = sweep-some s p.sweep in
          record {
            vertices = arc_vertex c q s a;
            chords = path d (arc_vertex c q s a) 0 (parts_of s a);
            arc = arc-path c q w s a d refl h z;
            painted = λ f g. rw (f, ne_eqb c.carriage.pen.number 0 g) refl;
            lifted = λ f. rw f refl;
            inkless = λ f. rw f (pick (λ (gs : List ExactSegment). gs ≡ []) c.carriage.pen.down refl refl);
            rests = ap rest_at (last-is c q w s a h z ∙ ap {B = Point} (λ (k : ℕ). nearest (arc_vertex c q s a k)) (sym (count d (arc_vertex c q s a) 0 (parts_of s a))));
          }

-- ---- of every machine that the calls make: the byte that ends an AA or an AR and is not refused, in the words of Refusals.antt for sweep, chord angle and way. What the model's
-- queue gets is the path, whatever polygon it has

took : (m : State) (b : ℕ) → take_number m b ≡ 0 → ((acted m b).number ≡ 0) × ((acted m b).core ≡ (take_state m b).core)
unfolding take_number take_state applied
took m b = go (occupied m.work)
  where
    go : (t : Bool) → cond t 20 (acted m b).number ≡ 0 → ((acted m b).number ≡ 0) × ((acted m b).core ≡ (cond t m (applied m (step_of m.reader b).reader (acted m b))).core)
    go true e = absurd (omega arith)
    go false e = (e, refl)

abbrev pub Follows : State → ℕ → Position → Numbers → ℕ → Type 0
Follows m b q n op =
    (s : ℤ) → IsNearest n.third 1000 s → (a : ℕ) → Angle n 3 n.fourth (pos a) → (w : Way) → WayFrom m.core q w → (g : ExactPolygon) →
    let d = (take_state m b).core in ArcDone m.core d q w s a (added m.core d (Ended op n) g)

module _ (m : State) (made : Made m) (b : ℕ) (n : Numbers) (e : take_number m b ≡ 0) where
  usable : Usable m
  usable = made-usable made

  -- op is AA or AR
  follows : (q : Position) (op : ℕ) → act_on m.core (Ended op n) ≡ arc_about m.core q n → ((d : Core) (g : ExactPolygon) → added m.core d (Ended op n) g ≡ arc_moves m.core d q n) →
      (step_of m.reader b).event ≡ Ended op n → Follows m b q n op
  unfolding acted noted
  follows q op rule adds is s hs a ha w hw g =
      let c : Core = m.core in
      let valid = usable.valid.core.settings in
      let t : acted m b ≡ arc_about c q n = noted-none (act_on c (step_of m.reader b).event) (took m b e).0 ∙ ap (act_on c) is ∙ rule in
      let k : (arc_about c q n).number ≡ 0 = sym (ap (λ (t : Acted). t.number) t) ∙ (took m b e).0 in
      let d : (arc_about c q n).core ≡ (take_state m b).core = sym (ap (λ (t : Acted). t.core) t) ∙ (took m b e).1 in
      let x = sweep-one n s hs in
      let y : a ≡ nat_abs (arc_angle n) = ap nat_abs (arc-angle-one n (pos a) ha) in
      let z = way-from-one c (sound valid) (spanned valid) q w hw in
      subst (λ (gs : List ExactSegment). ArcDone c (take_state m b).core q w s a gs) (sym (adds (take_state m b).core g))
      (subst (λ (d : Core). ArcDone c d q w s a (arc_moves c d q n)) d
      (rw (x, y, z) (arc-done c q n (sound valid) k)))

  pub take-aa : (step_of m.reader b).event ≡ Ended AA n → Follows m b (centre_aa m.core n) n AA
  unfolding act_on end_rule aa_rule added instructed
  take-aa = follows (centre_aa m.core n) AA refl (λ d g. refl)

  pub take-ar : (step_of m.reader b).event ≡ Ended AR n → Follows m b (centre_ar m.core n) n AR
  unfolding act_on end_rule ar_rule added instructed
  take-ar = follows (centre_ar m.core n) AR refl (λ d g. refl)
