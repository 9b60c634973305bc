-- Names, and the instructions that change settings or the pen's number, keep the core valid. Why: each tests what it sets, and where the page point stays its
-- location becomes the base. Settings change outside polygon mode alone, but for IN, which leaves it: so no stored position is left behind.
use Rattle.std.specs.Prelude.{◌≡◌, refl, Bool, true, not, ◌&&◌, ℕ, ◌≤◌, ◌<◌, ltb, eqb, ℤ, pos, nat_abs}
use Rattle.std.proofs.Common.{sym, arith, ltb-true}
use Rattle.std.proofs.Math.Bool.{false}
use Rattle.exact.specs.Whole.{◌≤?◌, ◌<ᶻ◌, ◌≡?◌, ≡?-false, ord}
use Rattle.exact.specs.Int16.{int16-size}
use Rattle.exact.specs.Fit.{Bd, bd-lit}
use Rattle.clip.specs.declared.Point.{Point}
use Rattle.clip.specs.declared.Rect.{Rect}
use Rattle.clip.specs.Reach.{SmallRect}
use Rattle.reader.specs.declared.Numbers.{Numbers}
use Rattle.reader.specs.Sizes.{Small}
use Rattle.mnemonics.specs.Table.{PU, PD, PA, PR, known_in_polygon}
use Rattle.turns.specs.Turn.{turn_count, find_turn}
use Rattle.plane.specs.Bounds.{most_point}
use Rattle.turns.proofs.BoxLaws.{ordered-small}
use Rattle.hpgl.specs.declared.Position.{Position}
use Rattle.hpgl.specs.declared.Scale.{Scale}
use Rattle.hpgl.specs.declared.Window.{Window}
use Rattle.hpgl.specs.declared.Settings.{Settings}
use Rattle.hpgl.specs.declared.Carriage.{Carriage}
use Rattle.hpgl.specs.declared.Core.{Core}
use Rattle.hpgl.specs.Numbers.{unknown, out_of_range, most_pen}
use Rattle.hpgl.specs.Place.{rounded, axis_x, axis_y, location, in_range, rest_at}
use Rattle.hpgl.specs.Change.{with_settings, with_carriage, with_corners, with_scale, with_turn, with_window, with_relative}
use Rattle.hpgl.specs.Rules.{origin, unscaled, no_window, fresh_settings, no_polygon, fresh_carriage, letters, name_rule, rebased, in_rule, df_rule, int16, good_corners, set_corners, ip_rule, sc_rule, set_turn, turn_to, ro_rule, set_window, iw_rule, set_pen, sp_rule}
use Rattle.hpgl.specs.Valid.{ShortPoint, ShortRect, ValidRange, ValidSettings, Placed, KeptPosition, ValidPolygon, ValidCore, ValidActed, clear}
use Rattle.hpgl.proofs.ValidFacts.{and_both, from-to, in-range-small, rest-placed, page-small, back-small, relative-valid}
use Rattle.hpgl.proofs.Cases.{never, pick, whether}
use Rattle.hpgl.proofs.KeptCases.{valid-core, closed-polygon, refuses, keeps}

-- ---- names

pub valid-name : {c : Core} (op : ℕ) → ValidCore c → ValidActed c (name_rule c op)
unfolding name_rule letters
valid-name {c} op w =
    let P : Carriage → Type 0 = λ k. ValidCore (with_carriage c k) in
    pick (ValidActed c) (c.carriage.polygon.mode && not (known_in_polygon op)) (refuses c c unknown (omega arith) w)
    (keeps c (with_carriage c (letters c.carriage op))
    (pick P (eqb op PU) (valid-core w.settings w.position w.pen w.polygon w.memory)
    (pick P (eqb op PD) (valid-core w.settings w.position w.pen w.polygon w.memory)
    (pick P (eqb op PA) (valid-core w.settings w.position w.pen w.polygon w.memory)
    (pick P (eqb op PR) (valid-core w.settings w.position w.pen w.polygon w.memory)
    w)))))

-- ---- settings, by their parts

record Limits (r : Rect) : Type 0 where
  short : ShortRect r
  across : r.left <ᶻ r.right
  upward : r.bottom <ᶻ r.top

record Corners (p q : Point) : Type 0 where
  p1 : ShortPoint p
  p2 : ShortPoint q
  apart-x : p.x ≡ q.x → ⊥
  apart-y : p.y ≡ q.y → ⊥

record Ranges (k : Scale) : Type 0 where
  x : ValidRange k.on k.x
  y : ValidRange k.on k.y

valid-settings : {r : Rect} {p q : Point} {k : Scale} {t : ℕ} {a : Window} → Limits r → Corners p q → Ranges k → t < turn_count → SmallRect a.area →
    ValidSettings (record { hard = r; p1 = p; p2 = q; scale = k; turn = t; window = a })
valid-settings h c k t a = record {
  hard = h.short;
  hard-x = h.across;
  hard-y = h.upward;
  p1 = c.p1;
  p2 = c.p2;
  apart-x = c.apart-x;
  apart-y = c.apart-y;
  x = k.x;
  y = k.y;
  turn = t;
  window = a;
}

no-ranges : Ranges unscaled
no-ranges = record { x = none; y = none }
  where
    none : ValidRange false (record { min = pos 0; max = pos 0 })
    none = record { min = bd-lit tt; max = bd-lit tt; differ = λ h. never refl h }

no-window : SmallRect no_window.area
no-window = record { left = bd-lit tt; bottom = bd-lit tt; right = bd-lit tt; top = bd-lit tt }

pub fresh-settings : {r : Rect} → ShortRect r → r.left <ᶻ r.right → r.bottom <ᶻ r.top → ValidSettings (fresh_settings r)
unfolding fresh_settings
fresh-settings h x y =
    valid-settings (record { short = h; across = x; upward = y })
    (record { p1 = record { x = h.left; y = h.bottom }; p2 = record { x = h.right; y = h.top }; apart-x = apart x; apart-y = apart y })
    no-ranges (omega arith) no-window
  where
    apart : {a b : ℤ} → a <ᶻ b → a ≡ b → ⊥
    apart h e = omega (arith, ord)

-- with one part changed
module _ {s : Settings} (w : ValidSettings s) where
  its-limits : Limits s.hard
  its-limits = record { short = w.hard; across = w.hard-x; upward = w.hard-y }

  its-corners : Corners s.p1 s.p2
  its-corners = record { p1 = w.p1; p2 = w.p2; apart-x = w.apart-x; apart-y = w.apart-y }

  its-ranges : Ranges s.scale
  its-ranges = record { x = w.x; y = w.y }

  with-corners : {p q : Point} → Corners p q → ValidSettings (with_corners s p q)
  with-corners c = valid-settings its-limits c its-ranges w.turn w.window

  with-scale : {k : Scale} → Ranges k → ValidSettings (with_scale s k)
  with-scale k = valid-settings its-limits its-corners k w.turn w.window

  with-turn : {t : ℕ} → t < turn_count → ValidSettings (with_turn s t)
  with-turn t = valid-settings its-limits its-corners its-ranges t w.window

  with-window : {a : Window} → SmallRect a.area → ValidSettings (with_window s a)
  with-window a = valid-settings its-limits its-corners its-ranges w.turn a

-- ---- what the tests say

pub int16-short : (z : ℤ) → int16 z ≡ true → Bd z most_point
int16-short z e = int16-size z e

not-false : (t : Bool) → not t ≡ true → t ≡ false
not-false true e = sym e
not-false false e = refl

good-corners : (p q : Point) → good_corners p q ≡ true → Corners p q
unfolding good_corners
good-corners p q e =
    let b1 = and_both _ (not (p.y ≡? q.y)) e in
    let b2 = and_both _ (not (p.x ≡? q.x)) b1.0 in
    let b3 = and_both _ (int16 q.y) b2.0 in
    let b4 = and_both _ (int16 q.x) b3.0 in
    let b5 = and_both (int16 p.x) (int16 p.y) b4.0 in
    record {
      p1 = record { x = int16-short p.x b5.0; y = int16-short p.y b5.1 };
      p2 = record { x = int16-short q.x b4.1; y = int16-short q.y b3.1 };
      apart-x = ≡?-false p.x q.x (not-false (p.x ≡? q.x) b2.1);
      apart-y = ≡?-false p.y q.y (not-false (p.y ≡? q.y) b1.1);
    }

-- ---- the core under new settings

rebased-valid : (c : Core) {s : Settings} → ValidCore c → c.carriage.polygon.mode ≡ false → ValidSettings s → ValidCore (rebased c s)
unfolding rebased
rebased-valid c w o h = valid-core h (rest-placed h (back-small w.settings w.position h.turn)) w.pen (closed-polygon o w.polygon.bytes w.polygon.edges w.polygon.first-kept w.polygon.saved-kept) w.memory

-- the window moves no location
placed-under : {s : Settings} {k : Window} {p : Position} → Placed s p → Placed (with_window s k) p
unfolding axis_x axis_y location
placed-under h = record { x = h.x; y = h.y; near = h.near }

window-valid : (c : Core) {k : Window} → ValidCore c → c.carriage.polygon.mode ≡ false → SmallRect k.area → ValidCore (with_settings c (with_window c.settings k))
window-valid c w o h = valid-core (with-window w.settings h) (placed-under w.position) w.pen (closed-polygon o w.polygon.bytes w.polygon.edges w.polygon.first-kept w.polygon.saved-kept) w.memory

at-origin : KeptPosition (rest_at origin)
unfolding rest_at
at-origin = record { x-base = bd-lit tt; x-offset = bd-lit tt; y-base = bd-lit tt; y-offset = bd-lit tt }

pub no-polygon : {s : Settings} → ValidPolygon s no_polygon
unfolding no_polygon
no-polygon = closed-polygon refl (omega arith) (omega arith) at-origin at-origin

-- ---- the instructions

pub valid-in : {c : Core} → ValidCore c → ValidActed c (in_rule c)
unfolding in_rule fresh_carriage
valid-in {c} w =
    let h = fresh-settings w.settings.hard w.settings.hard-x w.settings.hard-y in
    keeps c _ (valid-core h (rest-placed h (page-small w.settings w.position)) w.pen no-polygon clear)

module _ {c : Core} (w : ValidCore c) (o : c.carriage.polygon.mode ≡ false) where
  pub valid-df : ValidActed c (df_rule c)
  unfolding df_rule
  valid-df =
      keeps c _
      (rebased-valid (with_carriage c (with_relative c.carriage false)) (relative-valid false w) o
      (with-window (with-scale w.settings no-ranges) no-window))

  pub valid-corners : (p q : Point) → ValidActed c (set_corners c p q)
  unfolding set_corners
  valid-corners p q =
      whether (ValidActed c) (good_corners p q) (λ e. keeps c _ (rebased-valid c w o (with-corners w.settings (good-corners p q e))))
      (λ e. refuses c c out_of_range (omega arith) w)

  pub valid-ip : (n : Numbers) → ValidActed c (ip_rule c n)
  unfolding ip_rule
  valid-ip n =
      pick (ValidActed c) (eqb n.count 0) (valid-corners _ _)
      (pick (ValidActed c) (eqb n.count 2) (valid-corners _ _)
      (valid-corners _ _))

  pub valid-sc : {n : Numbers} → Small n → ValidActed c (sc_rule c n)
  unfolding sc_rule
  valid-sc {n} h =
      pick (ValidActed c) (eqb n.count 0) (keeps c _ (rebased-valid c w o (with-scale w.settings no-ranges)))
      (whether (ValidActed c) (n.first ≡? n.second) (λ e. refuses c c out_of_range (omega arith) w)
      (λ x. whether (ValidActed c) (n.third ≡? n.fourth) (λ e. refuses c c out_of_range (omega arith) w)
      (λ y. keeps c _
      (rebased-valid c w o
      (with-scale w.settings (record {
        x = record { min = h.first; max = h.second; differ = λ t. ≡?-false n.first n.second x };
        y = record { min = h.third; max = h.fourth; differ = λ t. ≡?-false n.third n.fourth y };
      }))))))

  pub valid-turn : (t : ℕ) → t < turn_count → ValidActed c (set_turn c t)
  unfolding set_turn
  valid-turn t h = keeps c _ (rebased-valid c w o (with-turn w.settings h))

  pub valid_to : (z : ℤ) → ValidActed c (turn_to c z)
  unfolding turn_to
  valid_to z = whether (ValidActed c) (ltb (find_turn z) turn_count) (λ e. valid-turn (find_turn z) (ltb-true (find_turn z) turn_count e)) (λ e. refuses c c out_of_range (omega arith) w)

  pub valid-ro : (n : Numbers) → ValidActed c (ro_rule c n)
  unfolding ro_rule
  valid-ro n = pick (ValidActed c) (eqb n.count 0) (valid_to _) (valid_to _)

  pub valid-window : (p q : Point) → ValidActed c (set_window c p q)
  unfolding set_window
  valid-window p q =
      whether (ValidActed c) (in_range p && in_range q)
      (λ e. let b = and_both (in_range p) (in_range q) e in
      keeps c _ (window-valid c w o (ordered-small (in-range-small {p = p} b.0) (in-range-small {p = q} b.1))))
      (λ e. refuses c c out_of_range (omega arith) w)

  pub valid-iw : (n : Numbers) → ValidActed c (iw_rule c n)
  unfolding iw_rule
  valid-iw n = pick (ValidActed c) (eqb n.count 0) (keeps c _ (window-valid c w o no-window)) (valid-window _ _)

pub valid-pen : {c : Core} (k : ℕ) → ValidCore c → k ≤ most_pen → ValidActed c (set_pen c k)
unfolding set_pen
valid-pen {c} k w h = keeps c _ (valid-core w.settings w.position h w.polygon w.memory)

pub valid-sp : {c : Core} (n : Numbers) → ValidCore c → ValidActed c (sp_rule c n)
unfolding sp_rule
valid-sp {c} n w =
    let z : ℤ = rounded n.first in
    pick (ValidActed c) (eqb n.count 0) (valid-pen 0 w (omega arith))
    (whether (ValidActed c) ((pos 0 ≤? z) && (z ≤? pos most_pen)) (λ e. valid-pen (nat_abs z) w (from-to 0 most_pen z e).2) (λ e. refuses c c out_of_range (omega arith) w))
