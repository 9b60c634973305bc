-- The rules answer the numbers of Refusals.antt. Each test of a rule tells whether a need is met (`Tells`), and a rule is a chain of tests (`needs`).
use Rattle.std.specs.Prelude.{◌≡◌, Bool, cond, ◌&&◌, ℕ, ◌+◌, ◌≤◌, ◌<◌, leb, eqb, ℤ, neg_ℤ, nat_abs, ◌+ℤ◌, ◌-ℤ◌, ◌*ℤ◌}
use Rattle.std.proofs.Math.Path.{refl, sym, subst}
use Rattle.std.proofs.Common.{ap, ◌∙◌, arith}
use Rattle.std.proofs.Math.Bool.{true, false, not, true≢false}
use borrow.Author.Tests.{eqb-true, eqb-false, leb-true, leb-false, ltb-true, ltb-false}
use Rattle.std.proofs.Math.Dec.{ltb}
use Rattle.std.proofs.Math.IntN.{pos}
use Rattle.exact.specs.Whole.{◌≤ᶻ◌, ◌<ᶻ◌, is, Z, ord, ◌<?◌, ◌≤?◌, ◌≡?◌, <?-true, <?-false, ≤?-true, ≤?-false, ≡?-true, ≡?-false}
use Rattle.exact.specs.Fit.{Bd, abs}
use Rattle.exact.specs.Divide.{nearest_div}
use Rattle.exact.specs.Nearest.{nearest-law, nearest-only}
use Rattle.clip.specs.declared.Point.{Point}
use Rattle.clip.specs.declared.Rect.{Rect}
use Rattle.clip.specs.Reach.{reach, SmallPoint}
use Rattle.reader.specs.declared.Coordinates.{Coordinates}
use Rattle.reader.specs.declared.Numbers.{Numbers}
use Rattle.reader.specs.declared.Event.{Event}
use Rattle.mnemonics.specs.Table.{known_in_polygon}
use Rattle.mnemonics.specs.Among.{among, none, ◌⨾◌, listed}
use Rattle.mnemonics.specs.Said as said
use Rattle.mnemonics.specs.Said.{known-said}
use Rattle.plane.specs.declared.position.ExactPosition.{ExactPosition}
use Rattle.turns.specs.Turn.{turn_count, find_turn}
use Rattle.turns.proofs.TurnsSaid.{Said, said-found}
use Rattle.plane.specs.Position.{relative_of, location_of, in_range_of}
use Rattle.plane.specs.declared.position.Axis.{Axis}
use Rattle.plane.specs.declared.circle.Way.{Way}
use Rattle.plane.specs.declared.circle.Centre.{Centre}
use Rattle.plane.specs.Bounds.{most_number}
use Rattle.plane.specs.Circle.{vertex_point_of, centre_of, point_from_centre}
use Rattle.plane.proofs.CircleLaws.{point-0, point-90, point-180, point-270, vertex-point-split}
use Rattle.plane.specs.Arc.{exact_way, way_of, way_fits, parts_of, bend_of, arc_fits}
use Rattle.plane.proofs.ArcLaws.{way-nearest, way-bounds, way-fits, each-small, each_fits}
use Rattle.hpgl.proofs.Cases.{whether}
use Rattle.hpgl.specs.declared.Position.{Position}
use Rattle.hpgl.specs.declared.Core.{Core}
use Rattle.hpgl.specs.declared.Action.TheVariants.{Keep}
use Rattle.hpgl.specs.declared.Acted.{Acted}
use Rattle.hpgl.specs.Numbers.{bad_limits, out_of_range, polygon_full}
use Rattle.hpgl.specs.Place.{point, rounded, axis_x, axis_y, location, in_range, relative_position}
use Rattle.hpgl.specs.Change.{with_polygon, with_carriage}
use Rattle.hpgl.specs.Rules.{done, refuse, fresh_settings, carried, name_rule, in_rule, df_rule, int16, good_corners, set_corners, ip_rule, sc_rule, set_turn, turn_to, ro_rule, set_window, iw_rule, set_pen, sp_rule, chord_angle, move_to, point_cost, store_point, aimed, go_to, pair_rule, begun, edge_to, pm0, differ, closes, ended, leave, pm1_in, pm1, pm2_in, pm2, pm_rule, ep_rule, rectangle_to, ea_rule, er_rule, circle_fits, good_angle, angle_or, circle_with, ci_rule, good_sweep, swept_angle, arc_angle, way_from, arc, follow, arc_by, arc_about, aa_rule, ar_rule, oa_rule, op_rule, ow_rule, oh_rule, oe_rule, end_rule, act_on}
use Rattle.hpgl.specs.Machine.{rect, good_limits, hard_limits, fresh_number}
use Rattle.hpgl.specs.Related.{Sound, Spanned}
use Rattle.hpgl.specs.Instruction.{Instruction, IN, DF, EP, IP, SC, IW, RO, SP, PM, CI, EA, ER, AA, AR, OA, OP, OW, OH, OE, PU, PD, PA, PR}
use Rattle.hpgl.specs.Effects.{asked, new_p1, new_p2, first_corner, second_corner, target, pair_bytes, closing_bytes, bytes, Happens, nothing, name, pair, end, refused}
use Rattle.hpgl.specs.Refusals as asked_of
use Rattle.hpgl.specs.Refusals.{Needs, Between, InRange, IsNearest, Asked, Angle, Known, PolygonMode, GoodCorners, Allows, begins, ends, leaves, Closing, Fits, point_at, FourPoints, WayFrom, Near, Vertices, Arc, Judged, Numbered, GoodLimits}

-- ---- tests

-- a test, and what it tells
pub record Tells (b : Bool) (P : Type 0) : Type 0 where
  pub yes : b ≡ true → P
  pub no : b ≡ false → P → ⊥

alike : {b : Bool} {P Q : Type 0} → (P → Q) → (Q → P) → Tells b P → Tells b Q
alike f g w = record { yes = λ e. f (w.yes e); no = λ e q. w.no e (g q) }

both : {a b : Bool} {P Q : Type 0} → Tells a P → Tells b Q → Tells (a && b) (P × Q)
both {a = true} {b} v w = record { yes = λ e. (v.yes refl, w.yes e); no = λ e p. w.no e p.1 }
both {a = false} {b} v w = record { yes = λ e. absurd (true≢false (sym e)); no = λ e p. v.no refl p.0 }

opposite : {b : Bool} {P : Type 0} → Tells b P → Tells (not b) (P → ⊥)
opposite {b = true} w = record { yes = λ e. absurd (true≢false (sym e)); no = λ e n. n (w.yes refl) }
opposite {b = false} w = record { yes = λ e. w.no refl; no = λ e n. true≢false e }

le-tells : (a b : ℤ) → Tells (a ≤? b) (a ≤ᶻ b)
le-tells a b = record { yes = ≤?-true a b; no = λ e h. clash (≤?-false a b e) h }
  where
    clash : b <ᶻ a → a ≤ᶻ b → ⊥
    clash h k = omega (arith, ord)

lt-tells : (a b : ℤ) → Tells (a <? b) (a <ᶻ b)
lt-tells a b = record { yes = <?-true a b; no = λ e h. clash (<?-false a b e) h }
  where
    clash : b ≤ᶻ a → a <ᶻ b → ⊥
    clash h k = omega (arith, ord)

same-tells : (a b : ℤ) → Tells (a ≡? b) (a ≡ b)
same-tells a b = record { yes = ≡?-true a b; no = ≡?-false a b }

count-tells : (k n : ℕ) → Tells (eqb k n) (k ≡ n)
count-tells k n = record { yes = eqb-true k n; no = eqb-false k n }

fits-tells : (k n : ℕ) → Tells (leb k n) (k ≤ n)
fits-tells k n = record { yes = leb-true k n; no = λ e h. omega (arith, leb-false k n e) }

between-tells : (l z m : ℤ) → Tells ((l ≤? z) && (z ≤? m)) (Between l z m)
between-tells l z m = both (le-tells l z) (le-tells z m)

-- a rule that asks whether P is met
needs : (b : Bool) {P : Type 0} (k : ℕ) (x y : Acted) (R : ℕ → Type 0) → Tells b P → y.number ≡ k → (b ≡ true → R x.number) →
    Needs P k (cond b x y).number (R (cond b x y).number)
needs true k x y R w e r = record { met = λ p. r refl; unmet = λ u. absurd (u (w.yes refl)) }
needs false k x y R w e r = record { met = λ p. absurd (w.no refl p); unmet = λ u. e }

short-tells : (z : ℤ) → Tells (int16 z) (Between (neg_ℤ (pos 32768)) z (pos 32767))
unfolding int16
short-tells z = between-tells (neg_ℤ (pos 32768)) z (pos 32767)

reach-tells : (z : ℤ) → Tells (in_range_of z) (Between (neg_ℤ (pos 1000000)) z (pos 1000000))
unfolding in_range_of
reach-tells z = go (z <? neg_ℤ (pos 1000000)) (pos 1000000 <? z) refl refl
  where
    go : (s t : Bool) → (z <? neg_ℤ (pos 1000000)) ≡ s → (pos 1000000 <? z) ≡ t → Tells (cond s false (cond t false true)) (Between (neg_ℤ (pos 1000000)) z (pos 1000000))
    go true t e f = record { yes = λ k. absurd (true≢false (sym k)); no = λ k h. omega (arith, ord, <?-true z (neg_ℤ (pos 1000000)) e, h.0) }
    go false true e f = record { yes = λ k. absurd (true≢false (sym k)); no = λ k h. omega (arith, ord, <?-true (pos 1000000) z f, h.1) }
    go false false e f = record { yes = λ k. (<?-false z (neg_ℤ (pos 1000000)) e, <?-false (pos 1000000) z f); no = λ k h. true≢false k }

range-tells : (p : Point) → Tells (in_range p) (InRange p)
unfolding in_range
range-tells p = both (reach-tells p.x) (reach-tells p.y)

-- two points differ
differ-tells : (p q : Point) → Tells (differ p q) (p ≡ q → ⊥)
unfolding differ
differ-tells p q =
    alike (λ f e. f (ap (λ (z : Point). z.x) e, ap (λ (z : Point). z.y) e)) (λ f h. f (λ i. point (h.0 i) (h.1 i)))
    (opposite (both (same-tells p.x q.x) (same-tells p.y q.y)))

-- ---- rounding

-- the law of the nearest, as 01 has it and as `exact` has it
module _ (n d q : ℤ) where
  half-low : pos 2 *ℤ d *ℤ q ≤ᶻ pos 2 *ℤ n +ℤ d → d *ℤ (pos 2 *ℤ q -ℤ pos 1) ≤ᶻ pos 2 *ℤ n
  half-low = rw (is n, is d, is q) (simp Z (omega arith))

  half_high : pos 2 *ℤ n +ℤ d <ᶻ pos 2 *ℤ d *ℤ (q +ℤ pos 1) → pos 2 *ℤ n <ᶻ d *ℤ (pos 2 *ℤ q +ℤ pos 1)
  half_high = rw (is n, is d, is q) (simp Z (omega arith))

  low_half : d *ℤ (pos 2 *ℤ q -ℤ pos 1) ≤ᶻ pos 2 *ℤ n → pos 2 *ℤ d *ℤ q ≤ᶻ pos 2 *ℤ n +ℤ d
  low_half = rw (is n, is d, is q) (simp Z (omega arith))

  high_half : pos 2 *ℤ n <ᶻ d *ℤ (pos 2 *ℤ q +ℤ pos 1) → pos 2 *ℤ n +ℤ d <ᶻ pos 2 *ℤ d *ℤ (q +ℤ pos 1)
  high_half = rw (is n, is d, is q) (simp Z (omega arith))

nearest-is : (n : ℤ) (w : ℕ) → 0 < w → IsNearest n w (nearest_div n (pos w))
nearest-is n w h = let l = nearest-law n (pos w) (omega (arith, ord)) in record { least = half-low n (pos w) (nearest_div n (pos w)) l.0; most = half_high n (pos w) (nearest_div n (pos w)) l.1 }

nearest-one : (n : ℤ) (w : ℕ) (k : ℤ) → 0 < w → IsNearest n w k → k ≡ nearest_div n (pos w)
nearest-one n w k h r = nearest-only n (pos w) k (omega (arith, ord)) (low_half n (pos w) k r.least) (high_half n (pos w) k r.most)

-- what RO, SP and PM are asked for
pub asked_is : (n : Numbers) → Asked n (asked n)
asked_is n = go (eqb n.count 0) (count-tells n.count 0)
  where
    go : (b : Bool) → Tells b (n.count ≡ 0) → Asked n (cond b (pos 0) (rounded n.first))
    go true w = record { none = λ e. refl; some = λ u. absurd (u (w.yes refl)) }
    go false w = record { none = λ e. absurd (w.no refl e); some = λ u. nearest-is n.first 10000 (omega arith) }

asked-one : (n : Numbers) (k : ℤ) → Asked n k → k ≡ asked n
asked-one n k h = go (eqb n.count 0) (count-tells n.count 0)
  where
    go : (b : Bool) → Tells b (n.count ≡ 0) → k ≡ cond b (pos 0) (rounded n.first)
    go true w = h.none (w.yes refl)
    go false w = nearest-one n.first 10000 k (omega arith) (h.some (w.no refl))

-- a chord angle
module _ (n : Numbers) (k : ℕ) (z : ℤ) where
  given : Angle n k z (angle_or (eqb n.count k) z)
  given = go (eqb n.count k) (count-tells n.count k)
    where
      go : (b : Bool) → Tells b (n.count ≡ k) → Angle n k z (cond b (pos 50) (nearest_div z (pos 1000)))
      go true w = record { default = λ e. refl; some = λ u. absurd (u (w.yes refl)) }
      go false w = record { default = λ e. absurd (w.no refl e); some = λ u. nearest-is z 1000 (omega arith) }

  given-one : (a : ℤ) → Angle n k z a → a ≡ angle_or (eqb n.count k) z
  given-one a h = go (eqb n.count k) (count-tells n.count k)
    where
      go : (b : Bool) → Tells b (n.count ≡ k) → a ≡ cond b (pos 50) (nearest_div z (pos 1000))
      go true w = h.default (w.yes refl)
      go false w = nearest-one z 1000 a (omega arith) (h.some (w.no refl))

-- CI's, and that of AA and AR
pub angle-is : (n : Numbers) → Angle n 1 n.second (chord_angle n)
unfolding chord_angle
angle-is n = given n 1 n.second

angle-one : (n : Numbers) (a : ℤ) → Angle n 1 n.second a → a ≡ chord_angle n
unfolding chord_angle
angle-one n a h = given-one n 1 n.second a h

pub arc-angle-is : (n : Numbers) → Angle n 3 n.fourth (arc_angle n)
unfolding arc_angle
arc-angle-is n = given n 3 n.fourth

pub arc-angle-one : (n : Numbers) (a : ℤ) → Angle n 3 n.fourth a → a ≡ arc_angle n
unfolding arc_angle
arc-angle-one n a h = given-one n 3 n.fourth a h

-- their swept angle
pub sweep-is : (n : Numbers) → IsNearest n.third 1000 (swept_angle n)
unfolding swept_angle
sweep-is n = nearest-is n.third 1000 (omega arith)

pub sweep-one : (n : Numbers) (s : ℤ) → IsNearest n.third 1000 s → s ≡ swept_angle n
unfolding swept_angle
sweep-one n s h = nearest-one n.third 1000 s (omega arith) h

-- and their way
module _ (a : Axis) (p q : ExactPosition) (z : a.span ≡ pos 0 → ⊥) where
  way-is : let f = exact_way a p q in IsNearest f.num f.den (way_of a p q)
  way-is = let f = exact_way a p q in subst (IsNearest f.num f.den) (sym (way-nearest a p q z)) (nearest-is f.num f.den f.above)

  way-one : (k : ℤ) → (let f = exact_way a p q in IsNearest f.num f.den k) → k ≡ way_of a p q
  way-one k h = let f = exact_way a p q in nearest-one f.num f.den k f.above h ∙ sym (way-nearest a p q z)

apart : (i j : ℕ) → (i ≡ j → ⊥) → pos i ≡ pos j → ⊥
apart i j f e = f (ap nat_abs e)

-- ---- names and pairs

known : (op : ℕ) → Tells (known_in_polygon op) (Known op)
known op = rw (known-said op) (record { yes = listed Known said.known (asked_of.up ⨾ asked_of.down ⨾ asked_of.absolute ⨾ asked_of.relative ⨾ asked_of.polygon ⨾ asked_of.initialize ⨾ asked_of.place ⨾ asked_of.corners ⨾ asked_of.window ⨾ asked_of.limits ⨾ asked_of.refusal ⨾ none) op; no = λ e k. true≢false (sym (on k) ∙ e) })
  where
    on : {k : ℕ} → Known k → among k said.known ≡ true
    on asked_of.up = refl
    on asked_of.down = refl
    on asked_of.absolute = refl
    on asked_of.relative = refl
    on asked_of.polygon = refl
    on asked_of.initialize = refl
    on asked_of.place = refl
    on asked_of.corners = refl
    on asked_of.window = refl
    on asked_of.limits = refl
    on asked_of.refusal = refl

-- a need that is asked for in polygon mode alone
in-mode : {m b : Bool} {P : Type 0} → Tells b P → Tells (not (m && not b)) (m ≡ true → P)
in-mode {m = true} {b = true} w = record { yes = λ e h. w.yes refl; no = λ e h. true≢false e }
in-mode {m = true} {b = false} w = record { yes = λ e. absurd (true≢false (sym e)); no = λ e h. w.no refl (h refl) }
in-mode {m = false} {b} w = record { yes = λ e h. absurd (true≢false (sym h)); no = λ e h. true≢false e }

-- a rule that refuses where its test holds
refuses : (b : Bool) {P : Type 0} (k : ℕ) (x y : Acted) → Tells (not b) P → x.number ≡ k → y.number ≡ 0 → Needs P k (cond b x y).number ((cond b x y).number ≡ 0)
refuses true k x y w e f = record { met = λ p. absurd (w.no refl p); unmet = λ u. e }
refuses false k x y w e f = record { met = λ p. f; unmet = λ u. absurd (u (w.yes refl)) }

module _ (c : Core) where
  judged-name : {op : ℕ} (i : Instruction op) → Numbered (name i) c (name_rule c op).number
  unfolding name_rule done refuse
  judged-name {op} i = refuses (c.carriage.polygon.mode && not (known_in_polygon op)) 1 _ _ (in-mode (known op)) refl refl

  judged-store : (n : Coordinates) → c.carriage.polygon.mode ≡ true →
      Needs (PolygonMode c → bytes c + pair_bytes c ≤ 1024) 7 (store_point c (target c n)).number ((store_point c (target c n)).number ≡ 0)
  unfolding store_point point_cost done refuse
  judged-store n m =
      needs (leb (bytes c + pair_bytes c) 1024) 7 _ _ (λ (t : ℕ). t ≡ 0) (alike (λ h e. h) (λ f. f m) (fits-tells (bytes c + pair_bytes c) 1024)) refl (λ e. refl)

  judged-move : (n : Coordinates) → c.carriage.polygon.mode ≡ false →
      Needs (PolygonMode c → bytes c + pair_bytes c ≤ 1024) 7 (move_to c (target c n)).number ((move_to c (target c n)).number ≡ 0)
  unfolding move_to done
  judged-move n m = record { met = λ p. refl; unmet = λ u. absurd (u (λ e. absurd (true≢false (sym e ∙ m)))) }

  judged-pair : (n : Coordinates) → Numbered (pair n) c (pair_rule c n).number
  unfolding pair_rule go_to aimed refuse
  judged-pair n =
      needs (in_range (location c.settings (target c n))) 6 _ _ (λ (t : ℕ). Needs (PolygonMode c → bytes c + pair_bytes c ≤ 1024) 7 t (t ≡ 0)) (range-tells _) refl
      (λ e. whether (λ (t : Acted). Needs (PolygonMode c → bytes c + pair_bytes c ≤ 1024) 7 t.number (t.number ≡ 0)) c.carriage.polygon.mode (judged-store n) (judged-move n))

  -- ---- settings

  corners-tell : (p q : Point) → Tells (good_corners p q) (GoodCorners p q)
  unfolding good_corners
  corners-tell p q =
      alike
      (λ h. record { p1 = (h.0.0.0.0.0, h.0.0.0.0.1); p2 = (h.0.0.0.1, h.0.0.1); x = h.0.1; y = h.1 })
      (λ h. (((((h.p1.0, h.p1.1), h.p2.0), h.p2.1), h.x), h.y))
      (both (both (both (both (both (short-tells p.x) (short-tells p.y)) (short-tells q.x)) (short-tells q.y)) (opposite (same-tells p.x q.x))) (opposite (same-tells p.y q.y)))

  abbrev Cornered : Point → Point → Acted → Type 0
  Cornered p q t = Needs (GoodCorners p q) 3 t.number (t.number ≡ 0)

  judged-corners : (p q : Point) → Cornered p q (set_corners c p q)
  unfolding set_corners done refuse
  judged-corners p q = needs (good_corners p q) 3 _ _ (λ (t : ℕ). t ≡ 0) (corners-tell p q) refl (λ e. refl)

  judged-ip : (n : Numbers) → Cornered (new_p1 c n) (new_p2 c n) (ip_rule c n)
  unfolding ip_rule fresh_settings carried
  judged-ip n = by (eqb n.count 0) (eqb n.count 2) _ _ _ _ _
    where
      by : (s t : Bool) (p q u v w : Point) →
          Cornered (cond s p u) (cond s q (cond t v w)) (cond s (set_corners c p q) (cond t (set_corners c u v) (set_corners c u w)))
      by true t p q u v w = judged-corners p q
      by false true p q u v w = judged-corners u v
      by false false p q u v w = judged-corners u w

  judged-sc : (n : Numbers) → Judged SC c n (sc_rule c n).number
  unfolding sc_rule done refuse
  judged-sc n = by (eqb n.count 0) (count-tells n.count 0) (n.first ≡? n.second) (same-tells _ _) (n.third ≡? n.fourth) (same-tells _ _) _ _
    where
      by : (r : Bool) → Tells r (n.count ≡ 0) → (s : Bool) → Tells s (n.first ≡ n.second) → (t : Bool) → Tells t (n.third ≡ n.fourth) → (x y : Core) →
          Judged SC c n (cond r (done x Keep) (cond s (refuse c out_of_range) (cond t (refuse c out_of_range) (done y Keep)))).number
      by true u s v t w x y = record { met = λ p. refl; unmet = λ f. absurd (f (λ z. absurd (z (u.yes refl)))) }
      by false u true v t w x y = record { met = λ p. absurd ((p (u.no refl)).0 (v.yes refl)); unmet = λ f. refl }
      by false u false v true w x y = record { met = λ p. absurd ((p (u.no refl)).1 (w.yes refl)); unmet = λ f. refl }
      by false u false v false w x y = record { met = λ p. refl; unmet = λ f. absurd (f (λ z. (v.no refl, w.no refl))) }

  judged-iw : (n : Numbers) → Judged IW c n (iw_rule c n).number
  unfolding iw_rule set_window done refuse
  judged-iw n = by (eqb n.count 0) (count-tells n.count 0) (in_range (first_corner c n) && in_range (second_corner c n)) (both (range-tells (first_corner c n)) (range-tells (second_corner c n))) _ _
    where
      by : (r : Bool) → Tells r (n.count ≡ 0) → (s : Bool) → Tells s (InRange (first_corner c n) × InRange (second_corner c n)) → (x y : Core) →
          Judged IW c n (cond r (done x Keep) (cond s (done y Keep) (refuse c out_of_range))).number
      by true u s v x y = record { met = λ p. refl; unmet = λ f. absurd (f (λ z. absurd (z (u.yes refl)))) }
      by false u true v x y = record { met = λ p. refl; unmet = λ f. absurd (f (λ z. v.yes refl)) }
      by false u false v x y = record { met = λ p. absurd (v.no refl (p (u.no refl))); unmet = λ f. refl }

  -- what is asked for, in place of what is meant
  of-asked : (n : Numbers) (P : ℤ → Type 0) → P (asked n) → (k : ℤ) → Asked n k → P k
  of-asked n P p k h = subst P (sym (asked-one n k h)) p

  abbrev Turning : ℤ → Acted → Type 0
  Turning k t = Needs (Said k) 3 t.number (t.number ≡ 0)

  judged-turn : (z : ℤ) → Turning z (turn_to c z)
  unfolding turn_to set_turn done refuse
  judged-turn z = go (ltb (find_turn z) turn_count) refl
    where
      go : (b : Bool) → ltb (find_turn z) turn_count ≡ b → Turning z (cond b (set_turn c (find_turn z)) (refuse c out_of_range))
      go true e = record { met = λ p. refl; unmet = λ f. absurd (f ((said-found z).1 (ltb-true (find_turn z) turn_count e))) }
      go false e = record { met = λ p. absurd (omega (arith, (said-found z).0 p, ltb-false (find_turn z) turn_count e)); unmet = λ f. refl }

  judged-ro : (n : Numbers) → Turning (asked n) (ro_rule c n)
  unfolding ro_rule
  judged-ro n = by (eqb n.count 0)
    where
      by : (b : Bool) → Turning (cond b (pos 0) (rounded n.first)) (cond b (turn_to c (pos 0)) (turn_to c (rounded n.first)))
      by true = judged-turn (pos 0)
      by false = judged-turn (rounded n.first)

  abbrev Penned : ℤ → Acted → Type 0
  Penned k t = Needs (Between (pos 0) k (pos 8)) 3 t.number (t.number ≡ 0)

  judged-sp : (n : Numbers) → Penned (asked n) (sp_rule c n)
  unfolding sp_rule set_pen done refuse
  judged-sp n = by (eqb n.count 0) (rounded n.first)
    where
      by : (b : Bool) (k : ℤ) → Penned (cond b (pos 0) k) (cond b (set_pen c 0) (cond ((pos 0 ≤? k) && (k ≤? pos 8)) (set_pen c (nat_abs k)) (refuse c out_of_range)))
      by true k = record { met = λ p. refl; unmet = λ f. absurd (f (omega (arith, ord), omega (arith, ord))) }
      by false k = needs ((pos 0 ≤? k) && (k ≤? pos 8)) 3 _ _ (λ (t : ℕ). t ≡ 0) (between-tells (pos 0) k (pos 8)) refl (λ e. refl)

  -- ---- polygon mode

  abbrev on : Bool
  on = c.carriage.polygon.mode

  abbrev Moded : ℤ → Acted → Type 0
  Moded k t = Needs (Allows on k) 3 t.number (Needs (Fits c k) 7 t.number (t.number ≡ 0))

  zero-off : Allows on (pos 0) → on ≡ false
  zero-off (begins e) = e

  one_on : Allows on (pos 1) → on ≡ true
  one_on (ends e) = e

  two-on : Allows on (pos 2) → on ≡ true
  two-on (leaves e) = e

  -- a number of PM where the mode forbids it
  forbidden : (k : ℤ) (t : Acted) → (Allows on k → ⊥) → t.number ≡ 3 → Moded k t
  forbidden k t f e = record { met = λ m. absurd (f m); unmet = λ u. e }

  allowed : (k : ℤ) (t : Acted) → Allows on k → Needs (Fits c k) 7 t.number (t.number ≡ 0) → Moded k t
  allowed k t m h = record { met = λ m. h; unmet = λ u. absurd (u m) }

  fits-0 : Fits c (pos 0)
  fits-0 = record { one = λ e. absurd (apart 0 1 (λ k. omega (arith, k)) e); two = λ e. absurd (apart 0 2 (λ k. omega (arith, k)) e) }

  fits-1 : bytes c + (2 + closing_bytes c) ≤ 1024 → Fits c (pos 1)
  fits-1 h = record { one = λ e. h; two = λ e. absurd (apart 1 2 (λ k. omega (arith, k)) e) }

  fits-2 : (Closing c → bytes c + 9 ≤ 1024) → Fits c (pos 2)
  fits-2 h = record { one = λ e. absurd (apart 2 1 (λ k. omega (arith, k)) e); two = λ e. h }

  pub closing-is : Tells (closes c) (Closing c)
  unfolding closes
  closing-is =
      alike (λ h. record { some = empty-off _ h.0; apart = h.1 }) (λ h. (off-empty _ h.some, h.apart))
      (both (record { yes = λ e. e; no = λ e f. true≢false (sym f ∙ e) }) (differ-tells _ _))
    where
      empty-off : (b : Bool) → not b ≡ true → b ≡ false
      empty-off true e = sym e
      empty-off false e = refl

      off-empty : (b : Bool) → b ≡ false → not b ≡ true
      off-empty true e = sym e
      off-empty false e = refl

  moded-0 : Moded (pos 0) (pm0 c)
  unfolding pm0 done refuse
  moded-0 =
      whether (Moded (pos 0)) on (λ e. forbidden (pos 0) (refuse c out_of_range) (λ m. true≢false (sym e ∙ zero-off m)) refl)
      (λ e. allowed (pos 0) (done (with_carriage c (with_polygon c.carriage (begun c.carriage))) Keep) (begins e) (record { met = λ p. refl; unmet = λ u. absurd (u fits-0) }))

  -- PM1 with its bytes, by whether it closes
  with-bytes : (b : Bool) → closes c ≡ b → Tells (leb (bytes c + (2 + cond b 9 0)) 1024) (Fits c (pos 1))
  with-bytes b k =
      alike (λ h. fits-1 (subst (λ (b : Bool). bytes c + (2 + cond b 9 0) ≤ 1024) (sym k) h)) (λ f. subst (λ (b : Bool). bytes c + (2 + cond b 9 0) ≤ 1024) k (f.one refl))
      (fits-tells (bytes c + (2 + cond b 9 0)) 1024)

  fits_one : Needs (Fits c (pos 1)) 7 (pm1_in c).number ((pm1_in c).number ≡ 0)
  unfolding pm1_in done refuse
  fits_one =
      whether (λ (t : Acted). Needs (Fits c (pos 1)) 7 t.number (t.number ≡ 0)) (closes c)
      (λ k. needs (leb (bytes c + 11) 1024) 7 (done (ended c 11 1 c.carriage.polygon.first) (edge_to c c.carriage.polygon.first)) (refuse c polygon_full) (λ (t : ℕ). t ≡ 0) (with-bytes true k) refl (λ e. refl))
      (λ k. needs (leb (bytes c + 2) 1024) 7 (done (ended c 2 0 c.carriage.position) Keep) (refuse c polygon_full) (λ (t : ℕ). t ≡ 0) (with-bytes false k) refl (λ e. refl))

  moded-1 : Moded (pos 1) (pm1 c)
  unfolding pm1 refuse
  moded-1 =
      whether (Moded (pos 1)) on (λ e. allowed (pos 1) (pm1_in c) (ends e) fits_one)
      (λ e. forbidden (pos 1) (refuse c out_of_range) (λ m. true≢false (sym (one_on m) ∙ e)) refl)

  fits-two : Needs (Fits c (pos 2)) 7 (pm2_in c).number ((pm2_in c).number ≡ 0)
  unfolding pm2_in done refuse
  fits-two =
      whether (λ (t : Acted). Needs (Fits c (pos 2)) 7 t.number (t.number ≡ 0)) (closes c)
      (λ k. needs (leb (bytes c + 9) 1024) 7 (done (leave c 9 1) (edge_to c c.carriage.polygon.first)) (refuse (leave c 0 0) polygon_full) (λ (t : ℕ). t ≡ 0)
      (alike (λ h. fits-2 (λ z. h)) (λ f. f.two refl (closing-is.yes k)) (fits-tells (bytes c + 9) 1024)) refl (λ e. refl))
      (λ k. record { met = λ p. refl; unmet = λ u. absurd (u (fits-2 (λ z. absurd (closing-is.no k z)))) })

  moded-2 : Moded (pos 2) (pm2 c)
  unfolding pm2 refuse
  moded-2 =
      whether (Moded (pos 2)) on (λ e. allowed (pos 2) (pm2_in c) (leaves e) fits-two)
      (λ e. forbidden (pos 2) (refuse c out_of_range) (λ m. true≢false (sym (two-on m) ∙ e)) refl)

  judged-pm : (n : Numbers) → Moded (asked n) (pm_rule c n)
  unfolding pm_rule refuse
  judged-pm n = by (eqb n.count 0) (rounded n.first)
    where
      none : (k : ℤ) → (k ≡ pos 0 → ⊥) → (k ≡ pos 1 → ⊥) → (k ≡ pos 2 → ⊥) → Allows on k → ⊥
      none k u v w (begins e) = u refl
      none k u v w (ends e) = v refl
      none k u v w (leaves e) = w refl

      go : (k : ℤ) (r s t : Bool) → Tells r (k ≡ pos 0) → Tells s (k ≡ pos 1) → Tells t (k ≡ pos 2) → Moded k (cond r (pm0 c) (cond s (pm1 c) (cond t (pm2 c) (refuse c out_of_range))))
      go k true s t u v w = subst (λ (j : ℤ). Moded j (pm0 c)) (sym (u.yes refl)) moded-0
      go k false true t u v w = subst (λ (j : ℤ). Moded j (pm1 c)) (sym (v.yes refl)) moded-1
      go k false false true u v w = subst (λ (j : ℤ). Moded j (pm2 c)) (sym (w.yes refl)) moded-2
      go k false false false u v w = forbidden k (refuse c out_of_range) (none k (u.no refl) (v.no refl) (w.no refl)) refl

      by : (b : Bool) (k : ℤ) →
          Moded (cond b (pos 0) k) (cond b (pm0 c) (cond (k ≡? pos 0) (pm0 c) (cond (k ≡? pos 1) (pm1 c) (cond (k ≡? pos 2) (pm2 c) (refuse c out_of_range)))))
      by true k = moded-0
      by false k = go k _ _ _ (same-tells k (pos 0)) (same-tells k (pos 1)) (same-tells k (pos 2))

  -- ---- rectangles and circles

  judged-rectangle : (p : Position) → Needs (InRange (location c.settings p)) 6 (rectangle_to c p).number ((rectangle_to c p).number ≡ 0)
  unfolding rectangle_to done refuse
  judged-rectangle p = needs (in_range (location c.settings p)) 6 _ _ (λ (t : ℕ). t ≡ 0) (range-tells _) refl (λ e. refl)

  -- ---- arcs

  sweep-tells : (s : ℤ) → Tells (good_sweep s) (Between (neg_ℤ (pos 3600)) s (pos 3600) × (s ≡ pos 0 → ⊥))
  unfolding good_sweep
  sweep-tells s = both (between-tells (neg_ℤ (pos 3600)) s (pos 3600)) (opposite (same-tells s (pos 0)))

  way-tells : (w : Way) → Tells (way_fits w) (Near w)
  way-tells w = record {
    yes = λ e. let b = way-bounds w e in (between b.u, between b.v);
    no = λ e h. true≢false (sym (way-fits w (record { u = size h.0; v = size h.1 })) ∙ e);
  }
    where
      between : {z : ℤ} → Bd z most_number → Between (neg_ℤ (pos most_number)) z (pos most_number)
      between {z} b = (omega (arith, ord, abs z, b.bd), omega (arith, ord, abs z, b.bd))

      size : {z : ℤ} → Between (neg_ℤ (pos most_number)) z (pos most_number) → Bd z most_number
      size {z} h = record { bd = omega (arith, ord, abs z, h.0, h.1) }

  small-range : (p : Point) → SmallPoint p → InRange p
  small-range p h = (near h.x, near h.y)
    where
      near : {z : ℤ} → Bd z reach → Between (neg_ℤ (pos 1000000)) z (pos 1000000)
      near {z} b = (omega (arith, ord, abs z, b.bd), omega (arith, ord, abs z, b.bd))

  range_small : (p : Point) → InRange p → SmallPoint p
  range_small p h = record { x = near h.0; y = near h.1 }
    where
      near : {z : ℤ} → Between (neg_ℤ (pos 1000000)) z (pos 1000000) → Bd z reach
      near {z} b = record { bd = omega (arith, ord, abs z, b.0, b.1) }

  module _ (sound : Sound c.settings) (q : Position) (w : Way) (s : ℤ) (a : ℕ) where
    abbrev cx : Centre
    cx = centre_of (axis_x c.settings) q.x

    abbrev cy : Centre
    cy = centre_of (axis_y c.settings) q.y

    -- vertex i, as the code finds it and as it is meant
    split : (i : ℕ) → point_from_centre cx cy w (bend_of s a i) ≡ vertex_point_of (axis_x c.settings) (axis_y c.settings) q.x q.y w (bend_of s a i)
    split i = vertex-point-split (axis_x c.settings) (axis_y c.settings) q.x q.y w (bend_of s a i) sound.x sound.y

    vertices-tell : Tells (arc_fits cx cy w s a) (Vertices c q w s a)
    unfolding arc_fits
    vertices-tell = record {
      yes = λ e i l u. subst InRange (split i) (small-range _ (each-small cx cy w s a 1 (parts_of s a) e i l (omega arith)));
      no = λ e h. true≢false (sym (each_fits cx cy w s a 1 (parts_of s a) (λ i l u. range_small _ (subst InRange (sym (split i)) (h i l (omega (arith, u)))))) ∙ e);
    }

  module _ (sound : Sound c.settings) (spans : Spanned c.settings) where
    pub way-from-one : (q : Position) (w : Way) → WayFrom c q w → w ≡ way_from c q
    unfolding way_from
    way-from-one q w h =
        let p = c.carriage.position in
        let x = way-one (axis_x c.settings) p.x q.x spans.x w.u h.u in
        let y = way-one (axis_y c.settings) p.y q.y spans.y w.v h.v in
        λ i. record { u = x i; v = y i }

    abbrev Needed : Position → ℤ → ℤ → Way → ℕ → Type 0
    Needed q s a w t =
        Needs (Between (neg_ℤ (pos 3600)) s (pos 3600) × (s ≡ pos 0 → ⊥)) 3 t
        (Needs (Between (pos 5) a (pos 1200)) 3 t (Needs (Near w) 3 t (Needs (Vertices c q w s (nat_abs a)) 6 t (t ≡ 0))))

    needs-arc : (q : Position) (n : Numbers) → Needed q (swept_angle n) (arc_angle n) (way_from c q) (arc_about c q n).number
    unfolding arc_about arc_by arc follow done refuse
    needs-arc q n =
        let s = swept_angle n in
        let a = arc_angle n in
        let w = way_from c q in
        needs (good_sweep s) 3 _ _ (λ (t : ℕ). Needs (Between (pos 5) a (pos 1200)) 3 t (Needs (Near w) 3 t (Needs (Vertices c q w s (nat_abs a)) 6 t (t ≡ 0)))) (sweep-tells s) refl
        (λ e. needs (good_angle a) 3 _ _ (λ (t : ℕ). Needs (Near w) 3 t (Needs (Vertices c q w s (nat_abs a)) 6 t (t ≡ 0))) (between-tells (pos 5) a (pos 1200)) refl
        (λ e. needs (way_fits w) 3 _ _ (λ (t : ℕ). Needs (Vertices c q w s (nat_abs a)) 6 t (t ≡ 0)) (way-tells w) refl
        (λ e. needs (arc_fits _ _ w s (nat_abs a)) 6 _ _ (λ (t : ℕ). t ≡ 0) (vertices-tell sound q w s (nat_abs a)) refl (λ e. refl))))

    judged-arc : (q : Position) (n : Numbers) → Arc c q n (arc_about c q n).number
    judged-arc q n s hs a ha w hw =
        let t = (arc_about c q n).number in
        let x : s ≡ swept_angle n = sweep-one n s hs in
        let y : a ≡ arc_angle n = arc-angle-one n a ha in
        let z : w ≡ way_from c q = way-from-one q w hw in
        subst (λ (s : ℤ). Needed q s a w t) (sym x) (subst (λ (a : ℤ). Needed q (swept_angle n) a w t) (sym y) (subst (λ (w : Way). Needed q (swept_angle n) (arc_angle n) w t) (sym z) (needs-arc q n)))

  module _ (w : Sound c.settings) (spans : Spanned c.settings) where
    -- the positions that the rule asks for are the points at these angles
    still : (p : ExactPosition) → relative_of p (pos 0) ≡ p
    unfolding relative_of
    still p = λ i. record { base = p.base; offset = same p.offset i }
      where
        same : (z : ℤ) → z +ℤ pos 0 ≡ z
        same z = rw (is z) (simp Z (omega arith))

    abbrev X : Axis
    X = axis_x c.settings

    abbrev Y : Axis
    Y = axis_y c.settings

    abbrev here : Position
    here = c.carriage.position

    point-tells : (u v r : ℤ) (angle : ℕ) → point_at c r angle ≡ point (location_of X (relative_of here.x u)) (location_of Y (relative_of here.y v)) →
        Tells (in_range (location c.settings (relative_position here (record { x = u; y = v })))) (InRange (point_at c r angle))
    unfolding location relative_position
    point-tells u v r angle e = subst (λ (p : Point). Tells (in_range p) (InRange (point_at c r angle))) e (range-tells (point_at c r angle))

    beside : (u r : ℤ) (angle : ℕ) → point_at c r angle ≡ point (location_of X (relative_of here.x u)) (location_of Y here.y) →
        point_at c r angle ≡ point (location_of X (relative_of here.x u)) (location_of Y (relative_of here.y (pos 0)))
    beside u r angle e = e ∙ ap (λ (p : ExactPosition). point (location_of X (relative_of here.x u)) (location_of Y p)) (sym (still here.y))

    above : (v r : ℤ) (angle : ℕ) → point_at c r angle ≡ point (location_of X here.x) (location_of Y (relative_of here.y v)) →
        point_at c r angle ≡ point (location_of X (relative_of here.x (pos 0))) (location_of Y (relative_of here.y v))
    above v r angle e = e ∙ ap (λ (p : ExactPosition). point (location_of X p) (location_of Y (relative_of here.y v))) (sym (still here.x))

    four-tell : (r : ℤ) → Tells (circle_fits c r) (FourPoints c r)
    unfolding circle_fits
    four-tell r =
        alike (λ h. (h.0.0.0, h.0.0.1, h.0.1, h.1)) (λ h. (((h.0, h.1), h.2), h.3))
        (both (both (both
        (point-tells r (pos 0) r 0 (beside r r 0 (point-0 X Y here.x here.y r w.x w.y)))
        (point-tells (pos 0) r r 900 (above r r 900 (point-90 X Y here.x here.y r w.x w.y))))
        (point-tells (neg_ℤ r) (pos 0) r 1800 (beside (neg_ℤ r) r 1800 (point-180 X Y here.x here.y r w.x w.y))))
        (point-tells (pos 0) (neg_ℤ r) r 2700 (above (neg_ℤ r) r 2700 (point-270 X Y here.x here.y r w.x w.y))))

    judged-ci : (n : Numbers) → Judged CI c n (ci_rule c n).number
    unfolding ci_rule circle_with done refuse
    judged-ci n a h =
        subst (λ (z : ℤ). Needs (Between (pos 5) z (pos 1200)) 3 (circle_with c n.first (chord_angle n)).number (Needs (FourPoints c n.first) 6 (circle_with c n.first (chord_angle n)).number ((circle_with c n.first (chord_angle n)).number ≡ 0)))
        (sym (angle-one n a h))
        (needs ((pos 5 ≤? chord_angle n) && (chord_angle n ≤? pos 1200)) 3 _ _ (λ (t : ℕ). Needs (FourPoints c n.first) 6 t (t ≡ 0)) (between-tells (pos 5) (chord_angle n) (pos 1200)) refl
        (λ e. needs (circle_fits c n.first) 6 _ _ (λ (t : ℕ). t ≡ 0) (four-tell n.first) refl (λ e. refl)))

    judged-end : {op : ℕ} (i : Instruction op) (n : Numbers) → Judged i c n (end_rule c op n).number
    unfolding end_rule in_rule df_rule ep_rule ea_rule er_rule aa_rule ar_rule oa_rule op_rule ow_rule oh_rule oe_rule done
    judged-end IN n = refl
    judged-end DF n = refl
    judged-end EP n = refl
    judged-end IP n = judged-ip n
    judged-end SC n = judged-sc n
    judged-end IW n = judged-iw n
    judged-end RO n = of-asked n (λ (k : ℤ). Turning k (ro_rule c n)) (judged-ro n)
    judged-end SP n = of-asked n (λ (k : ℤ). Penned k (sp_rule c n)) (judged-sp n)
    judged-end PM n = of-asked n (λ (k : ℤ). Moded k (pm_rule c n)) (judged-pm n)
    judged-end CI n = judged-ci n
    judged-end EA n = judged-rectangle _
    judged-end ER n = judged-rectangle _
    judged-end AA n = judged-arc w spans _ n
    judged-end AR n = judged-arc w spans _ n
    judged-end OA n = refl
    judged-end OP n = refl
    judged-end OW n = refl
    judged-end OH n = refl
    judged-end OE n = refl
    judged-end PU n = refl
    judged-end PD n = refl
    judged-end PA n = refl
    judged-end PR n = refl

-- the number of every event
pub judged : (c : Core) {e : Event} (k : Happens e) → Sound c.settings → Spanned c.settings → Numbered k c (act_on c e).number
unfolding act_on done refuse
judged c nothing w v = refl
judged c (name i) w v = judged-name c i
judged c (pair n) w v = judged-pair c n
judged c (end i n) w v = judged-end c w v i n
judged c (refused k) w v = refl

-- the number of fresh
limits-tell : (r : Rect) → Tells (good_limits r) (GoodLimits r)
unfolding good_limits
limits-tell r =
    alike
    (λ h. record { left = h.0.0.0.0.0; bottom = h.0.0.0.0.1; right = h.0.0.0.1; top = h.0.0.1; wide = h.0.1; high = h.1 })
    (λ h. (((((h.left, h.bottom), h.right), h.top), h.wide), h.high))
    (both (both (both (both (both (short-tells r.left) (short-tells r.bottom)) (short-tells r.right)) (short-tells r.top)) (lt-tells r.left r.right)) (lt-tells r.bottom r.top))

pub fresh-judged : (r : Rect) → Needs (GoodLimits r) 10 (fresh_number r) (fresh_number r ≡ 0)
unfolding fresh_number
fresh-judged r = by (good_limits r) (limits-tell r)
  where
    by : (b : Bool) → Tells b (GoodLimits r) → Needs (GoodLimits r) 10 (cond b 0 bad_limits) (cond b 0 bad_limits ≡ 0)
    by true w = record { met = λ p. refl; unmet = λ u. absurd (u (w.yes refl)) }
    by false w = record { met = λ p. absurd (w.no refl p); unmet = λ u. refl }

-- "bad hard limits: 10, fresh machine with limits 0,0,1,1"
pub fresh-limits : (r : Rect) → (GoodLimits r → hard_limits r ≡ r) × ((GoodLimits r → ⊥) → hard_limits r ≡ rect (pos 0) (pos 0) (pos 1) (pos 1))
unfolding hard_limits
fresh-limits r = by (good_limits r) (limits-tell r)
  where
    by : (b : Bool) → Tells b (GoodLimits r) → let h = cond b r (rect (pos 0) (pos 0) (pos 1) (pos 1)) in (GoodLimits r → h ≡ r) × ((GoodLimits r → ⊥) → h ≡ rect (pos 0) (pos 0) (pos 1) (pos 1))
    by true w = ((λ p. refl), λ u. absurd (u (w.yes refl)))
    by false w = ((λ p. absurd (w.no refl p)), λ u. refl)
