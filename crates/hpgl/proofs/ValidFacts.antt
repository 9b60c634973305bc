-- What follows of valid settings, positions and cores: the facts that the code needs where one function calls another, and that the files ..Kept.antt
-- build on. Why: each is a law of the crate plane, or a bound of a sum, put over the settings.
use Rattle.std.specs.Prelude.{◌≡◌, refl, Bool, true, false, cond, not, ◌&&◌, List, ℕ, zero, suc, ◌+◌, ◌*◌, ◌≤◌, ◌<◌, ℤ, pos, neg_ℤ, nat_abs, ◌+ℤ◌, ◌*ℤ◌, get_or}
use Rattle.std.proofs.Common.{sym, ap, ◌∙◌, subst, arith}
use Rattle.std.proofs.Math.Dec.{eqb-suc-zero}
use Rattle.exact.specs.Whole.{◌≤?◌, ◌≤ᶻ◌, ◌<ᶻ◌, ◌≡?◌, ord, ≤?-true, ≡?-false, up-mul, dn-mul, add_parts}
use Rattle.exact.specs.Fit.{Bd, abs, bd-le, bd-lit, ne-lit, ◌⊞◌, ◌⊟◌}
use Rattle.exact.specs.Nearest.{nearest-law}
use Rattle.clip.specs.declared.Point.{Point}
use Rattle.clip.specs.Reach.{reach, SmallPoint, SmallRect}
use Rattle.reader.specs.declared.Coordinates.{Coordinates}
use Rattle.reader.specs.Sizes.{SmallPair}
use Rattle.turns.specs.Turn.{turn_count, turned_back_of, rebased_of}
use Rattle.plane.specs.Position.{axis_of, in_range_of}
use Rattle.plane.specs.Bounds.{most_number, most_point, most_product, most_angle, most_sweep, AxisBounds}
use Rattle.plane.specs.Circle.{centre_of, point_from_centre}
use Rattle.plane.specs.Arc.{parts_of, bend_of, way_fits, arc_fits, arc_point}
use Rattle.turns.proofs.TurnLaws.{turned-small, rebased-small}
use Rattle.plane.proofs.PositionLaws as axis
use Rattle.plane.proofs.CircleLaws as round
use Rattle.plane.proofs.ArcLaws as curve
use Rattle.turns.proofs.LimitsLaws as box
use Rattle.hpgl.specs.declared.Position.{Position}
use Rattle.hpgl.specs.declared.Range.{Range}
use Rattle.hpgl.specs.declared.Settings.{Settings}
use Rattle.hpgl.specs.declared.Pen.{Pen}
use Rattle.hpgl.specs.declared.Polygon.{Polygon}
use Rattle.hpgl.specs.declared.Core.{Core}
use Rattle.hpgl.specs.declared.Edge.{Edge}
use Rattle.hpgl.specs.declared.Circle.{Circle}
use Rattle.hpgl.specs.Numbers.{polygon_bytes, point_bytes, pen_bytes, least_angle, whole_turn, most_edges}
use Rattle.hpgl.specs.Place.{rounded, axis_x, axis_y, location, in_range, absolute_position, relative_position, rest_at, page_point, limits}
use Rattle.hpgl.specs.Change.{with_relative, with_carriage}
use Rattle.hpgl.specs.Rules.{origin, carried, aimed, point_cost, circle_fits, circle, good_sweep, way_from, arc, last_vertex}
use Rattle.hpgl.specs.Machine.{no_edge, vertex_in}
use Rattle.hpgl.specs.Valid.{most_chords, ShortPoint, ValidRange, ValidSettings, LocatablePosition, Placed, KeptPosition, ValidPolygon, ValidCore, SmallEdge, ValidCircle, WholeCircle, Every, none, more}

pub and_both : (x y : Bool) → x && y ≡ true → (x ≡ true) × (y ≡ true)
and_both true y e = (refl, e)
and_both false y e = absurd (let z : ◌≡◌ {A = ℕ} 0 1 = cc in omega arith)

-- ---- settings

-- the axes of valid settings: what plane's `absolute` and `centre_of` ask
axis-bounds : (on : Bool) (p1 p2 : ℤ) (r : Range) → Bd p1 most_point → Bd p2 most_point → (p1 ≡ p2 → ⊥) → ValidRange on r → AxisBounds (axis_of on p1 p2 r.min r.max)
unfolding axis_of
axis-bounds true p1 p2 r a b e h = axis.axis-bounds true p1 p2 r.min r.max a b h.min h.max e (h.differ refl)
axis-bounds false p1 p2 r a b e h = axis.axis-bounds false (pos 0) (pos 1) (pos 0) (pos 1) (bd-lit tt) (bd-lit tt) (bd-lit tt) (bd-lit tt) (ne-lit tt) (ne-lit tt)

pub axis-bounds-x : {s : Settings} → ValidSettings s → AxisBounds (axis_x s)
unfolding axis_x
axis-bounds-x {s} w = axis-bounds s.scale.on s.p1.x s.p2.x s.scale.x w.p1.x w.p2.x w.apart-x w.x

pub axis-bounds-y : {s : Settings} → ValidSettings s → AxisBounds (axis_y s)
unfolding axis_y
axis-bounds-y {s} w = axis-bounds s.scale.on s.p1.y s.p2.y s.scale.y w.p1.y w.p2.y w.apart-y w.y

-- the hard limits, and the limits in force: what `clip` asks of its box
pub hard-small : {s : Settings} → ValidSettings s → SmallRect s.hard
hard-small w = record {
  left = bd-le w.hard.left tt;
  bottom = bd-le w.hard.bottom tt;
  right = bd-le w.hard.right tt;
  top = bd-le w.hard.top tt;
}

pub limits-small : {s : Settings} → ValidSettings s → SmallRect (limits s)
unfolding limits
limits-small {s} w = box.limits-small s.window.set (hard-small w) w.window w.turn

-- a number that is rounded first
pub rounded-short : {n : ℤ} → Bd n most_number → Bd (rounded n) most_point
rounded-short {n} h =
    let l = nearest-law n (pos 10000) (omega (arith, ord)) in
    record { bd = go (rounded n) l.0 l.1 }
  where
    go : (q : ℤ) → pos 20000 *ℤ q ≤ᶻ pos 2 *ℤ n +ℤ pos 10000 → pos 2 *ℤ n +ℤ pos 10000 <ᶻ pos 20000 *ℤ (q +ℤ pos 1) → nat_abs q ≤ most_point
    go q l u =
        omega (
          arith,
          ord,
          abs q,
          abs n,
          h.bd,
          up-mul (pos 20000) q,
          dn-mul (pos 20000) q,
          up-mul (pos 20000) (q +ℤ pos 1),
          dn-mul (pos 20000) (q +ℤ pos 1),
          add_parts q (pos 1),
          up-mul (pos 2) n,
          dn-mul (pos 2) n,
          add_parts (pos 2 *ℤ n) (pos 10000),
        )

-- the sums of IP with two numbers
pub carried-size : {s : Settings} {p : Point} → ValidSettings s → ShortPoint p → Bd (carried s p).x (3 * most_point) × Bd (carried s p).y (3 * most_point)
unfolding carried
carried-size w h = (h.x ⊞ (w.p2.x ⊟ w.p1.x), h.y ⊞ (w.p2.y ⊟ w.p1.y))

-- a number that was tested to be from lo to hi is no negative one, and may be cast: SP's with 0 and 8, the chord angle with 5 and 1200
pub from-to : (lo hi : ℕ) (z : ℤ) → (pos lo ≤? z) && (z ≤? pos hi) ≡ true → (pos 0 ≤ᶻ z) × (lo ≤ nat_abs z) × (nat_abs z ≤ hi)
from-to lo hi z e =
    let b = and_both (pos lo ≤? z) (z ≤? pos hi) e in
    let l = ≤?-true (pos lo) z b.0 in
    let u = ≤?-true z (pos hi) b.1 in
    (omega (arith, ord, l), omega (arith, ord, abs z, l), omega (arith, ord, abs z, l, u))

-- ---- positions

-- the test of a location is its bound
pub in-range-small : {p : Point} → in_range p ≡ true → SmallPoint p
unfolding in_range
in-range-small {p} e =
    let b = and_both (in_range_of p.x) (in_range_of p.y) e in
    record { x = axis.in-range p.x b.0; y = axis.in-range p.y b.1 }

-- a position that is kept may be located, and moved: what plane's `location` and `relative` ask
pub placed-locatable : {s : Settings} {p : Position} → ValidSettings s → Placed s p → LocatablePosition s p
placed-locatable w h = record { x = axis.storable-locatable (axis-bounds-x w) h.x; y = axis.storable-locatable (axis-bounds-y w) h.y }

pub placed-offset : {s : Settings} {p : Position} → ValidSettings s → Placed s p → Bd p.x.offset most_product × Bd p.y.offset most_product
placed-offset w h = (axis.storable-offset (axis-bounds-x w) h.x, axis.storable-offset (axis-bounds-y w) h.y)

pub placed-kept : {s : Settings} {p : Position} → ValidSettings s → Placed s p → KeptPosition p
placed-kept w h = let o = placed-offset w h in record { x-base = h.x.base; x-offset = o.0; y-base = h.y.base; y-offset = o.1 }

-- what a pair of numbers gives may be located
pub absolute-locatable : {s : Settings} {n : Coordinates} → ValidSettings s → SmallPair n → LocatablePosition s (absolute_position s n)
unfolding absolute_position
absolute-locatable {n = n} w h = record {
  x = axis.absolute-locatable n.x (axis-bounds-x w) h.x;
  y = axis.absolute-locatable n.y (axis-bounds-y w) h.y;
}

pub relative-locatable : {s : Settings} {p : Position} {n : Coordinates} → ValidSettings s → Placed s p → SmallPair n → LocatablePosition s (relative_position p n)
unfolding relative_position
relative-locatable {n = n} w h k = record {
  x = axis.relative-locatable n.x (axis-bounds-x w) h.x k.x;
  y = axis.relative-locatable n.y (axis-bounds-y w) h.y k.y;
}

pub aimed-locatable : {c : Core} {n : Coordinates} → ValidCore c → SmallPair n → LocatablePosition c.settings (aimed c n)
unfolding aimed
aimed-locatable {c} {n} w h = go c.carriage.relative
  where
    go : (t : Bool) → LocatablePosition c.settings (cond t (relative_position c.carriage.position n) (absolute_position c.settings n))
    go true = relative-locatable w.settings w.position h
    go false = absolute-locatable w.settings h

-- a position whose location was found in range may be kept
pub located-placed : {s : Settings} {p : Position} → LocatablePosition s p → in_range (location s p) ≡ true → Placed s p
unfolding location
located-placed h e =
    let l = in-range-small e in
    record { x = axis.located-storable h.x l.x; y = axis.located-storable h.y l.y; near = l }

-- "B becomes the location and O 0"
pub rest-placed : {s : Settings} {p : Point} → ValidSettings s → SmallPoint p → Placed s (rest_at p)
unfolding rest_at location
rest-placed {s} {p} w h = record {
  x = axis.rebased-storable p.x h.x;
  y = axis.rebased-storable p.y h.y;
  near = record {
    x = subst (λ (z : ℤ). Bd z reach) (sym (axis.rebased-location (axis_x s) p.x (axis-bounds-x w).some)) h.x;
    y = subst (λ (z : ℤ). Bd z reach) (sym (axis.rebased-location (axis_y s) p.y (axis-bounds-y w).some)) h.y;
  };
}

-- a page point, and that point turned back by another turn: what `turned_back` of turns asks, and what it gives
pub page-small : {s : Settings} {p : Position} → ValidSettings s → Placed s p → SmallPoint (page_point s p)
unfolding page_point
page-small w h = turned-small h.near w.turn

pub back-small : {s : Settings} {p : Position} {t : ℕ} → ValidSettings s → Placed s p → t < turn_count → SmallPoint (turned_back_of (page_point s p) t)
unfolding page_point rebased_of
back-small w h l = rebased-small h.near w.turn l

-- ---- the core

-- DF settles a core whose mode is absolute already
pub relative-valid : {c : Core} (on : Bool) → ValidCore c → ValidCore (with_carriage c (with_relative c.carriage on))
relative-valid on w = record { settings = w.settings; position = w.position; pen = w.pen; polygon = w.polygon; memory = w.memory }

-- an instruction that is not known in polygon mode ends outside it
pub unknown-outside : {mode known : Bool} → known ≡ false → (mode ≡ true → known ≡ true) → mode ≡ false
unknown-outside {mode = true} h k = sym (k refl) ∙ h
unknown-outside {mode = false} h k = refl

-- the bytes of a point
pub cost-least : (p : Pen) → point_bytes ≤ point_cost p
unfolding point_cost
cost-least p = go p.changed
  where
    go : (t : Bool) → point_bytes ≤ cond t (point_bytes + pen_bytes) point_bytes
    go true = omega arith
    go false = omega arith

pub cost-most : (p : Pen) → point_cost p ≤ point_bytes + pen_bytes
unfolding point_cost
cost-most p = go p.changed
  where
    go : (t : Bool) → cond t (point_bytes + pen_bytes) point_bytes ≤ point_bytes + pen_bytes
    go true = omega arith
    go false = omega arith

-- where the bytes of one more point fit, so does one more edge
pub edge-room : {s : Settings} {g : Polygon} {n : ℕ} → ValidPolygon s g → g.mode ≡ true → point_bytes ≤ n → g.bytes + n ≤ polygon_bytes → g.edges < most_edges
edge-room w o h k = omega (arith, w.room o)

-- ---- circles

-- the ways of the four points of a circle
pub along-x : {r : ℤ} → Bd r most_number → SmallPair (record { x = r; y = pos 0 })
along-x h = record { x = h; y = bd-lit tt }

pub along-y : {r : ℤ} → Bd r most_number → SmallPair (record { x = pos 0; y = r })
along-y h = record { x = bd-lit tt; y = h }

-- a vertex after the first is found from the centre
pub later-vertex : (o : Circle) (i : ℕ) → 0 < i → vertex_in o i ≡ point_from_centre o.x o.y o.radius (bend_of o.sweep o.angle i)
unfolding vertex_in arc_point
later-vertex o zero h = absurd (omega arith)
later-vertex o (suc i) h = rw (eqb-suc-zero i) refl

-- where those pass the test of 02, and the first is in range, all are
all_small : (o : Circle) → SmallPoint o.start → arc_fits o.x o.y o.radius o.sweep o.angle ≡ true → (j : ℕ) → 0 ≤ j → j ≤ 0 + parts_of o.sweep o.angle →
    SmallPoint (vertex_in o j)
unfolding arc_fits vertex_in arc_point
all_small o s e zero l u = s
all_small o s e (suc j) l u = rw (later-vertex o (suc j) (omega arith)) (curve.each-small o.x o.y o.radius o.sweep o.angle 1 (parts_of o.sweep o.angle) e (suc j) (omega arith) (omega (arith, u)))

-- a circle whose four points are in range may be drawn
pub circle-valid : {c : Core} {r : ℤ} {a : ℕ} → ValidCore c → Bd r most_number → least_angle ≤ a → a ≤ most_angle → circle_fits c r ≡ true → WholeCircle (circle c r a)
unfolding circle circle_fits location relative_position
circle-valid {c} {r} {a} w h l u e =
    let s = c.settings in
    let p = c.carriage.position in
    let bx = axis-bounds-x w.settings in
    let by = axis-bounds-y w.settings in
    let k = placed-locatable w.settings w.position in
    let south = and_both _ (in_range (location s (relative_position p (record { x = pos 0; y = neg_ℤ r })))) e in
    let west = and_both _ (in_range (location s (relative_position p (record { x = neg_ℤ r; y = pos 0 })))) south.0 in
    let north = and_both (in_range (location s (relative_position p (record { x = r; y = pos 0 })))) (in_range (location s (relative_position p (record { x = pos 0; y = r })))) west.0 in
    record {
      x = round.centre-bounds (axis_x s) p.x bx k.x;
      y = round.centre-bounds (axis_y s) p.y by k.y;
      radius = record { u = h; v = bd-lit tt };
      least = l;
      most = u;
      start = in-range-small north.0;
      sweep = bd-lit tt;
      some = ne-lit tt;
      fits = all_small (circle c r a) (in-range-small north.0)
          (curve.ends-fits (centre_of (axis_x s) p.x) (centre_of (axis_y s) p.y) (record { u = r; v = pos 0 }) (pos whole_turn) a refl
          (round.centre-bounds (axis_x s) p.x bx k.x).some (round.centre-bounds (axis_y s) p.y by k.y).some
          (round.end-range (axis_x s) p.x r reach bx.some (in-range-small north.0).x)
          (round.end-range (axis_x s) p.x (neg_ℤ r) reach bx.some (in-range-small west.1).x)
          (round.end-range (axis_y s) p.y r reach by.some (in-range-small north.1).y)
          (round.end-range (axis_y s) p.y (neg_ℤ r) reach by.some (in-range-small south.1).y));
    }

-- "−3600 to 3600"
pub sweep-size : (s : ℤ) → good_sweep s ≡ true → Bd s most_sweep
unfolding good_sweep
sweep-size s g =
    let most = and_both (neg_ℤ (pos whole_turn) ≤? s) (s ≤? pos whole_turn) (and_both ((neg_ℤ (pos whole_turn) ≤? s) && (s ≤? pos whole_turn)) _ g).0 in
    record { bd = omega (arith, ord, abs s, ≤?-true (neg_ℤ (pos whole_turn)) s most.0, ≤?-true s (pos whole_turn) most.1) }

-- "without 0"
pub sweep-some : (s : ℤ) → good_sweep s ≡ true → s ≡ pos 0 → ⊥
unfolding good_sweep
sweep-some s g = ≡?-false s (pos 0) (off (s ≡? pos 0) (and_both ((neg_ℤ (pos whole_turn) ≤? s) && (s ≤? pos whole_turn)) (not (s ≡? pos 0)) g).1)
  where
    off : (b : Bool) → not b ≡ true → b ≡ false
    off true e = sym e
    off false e = refl

-- "A vertex out of range refuses the arc": one that is not refused may be drawn, about a centre that may be located
pub arc-valid : {c : Core} {q : Position} {a : ℕ} (s : ℤ) → ValidCore c → LocatablePosition c.settings q → good_sweep s ≡ true → least_angle ≤ a → a ≤ most_angle →
    way_fits (way_from c q) ≡ true → (let o = arc c q s a in arc_fits o.x o.y o.radius o.sweep o.angle ≡ true) → WholeCircle (arc c q s a)
unfolding arc
arc-valid {c} {q} {a} s w k g l u f e =
    record {
      x = round.centre-bounds (axis_x c.settings) q.x (axis-bounds-x w.settings) k.x;
      y = round.centre-bounds (axis_y c.settings) q.y (axis-bounds-y w.settings) k.y;
      radius = curve.way-bounds (way_from c q) f;
      least = l;
      most = u;
      start = w.position.near;
      sweep = sweep-size s g;
      some = sweep-some s g;
      fits = all_small (arc c q s a) w.position.near e;
    }

-- and its last vertex is in range
pub last-small : {o : Circle} → WholeCircle o → SmallPoint (last_vertex o)
unfolding last_vertex
last-small {o} w =
    let n = parts_of o.sweep o.angle in
    let some = curve.parts-some o.sweep o.angle (omega (arith, w.least)) w.some in
    let last = later-vertex o n some ∙ ap (point_from_centre o.x o.y o.radius) (curve.bend-last o.sweep o.angle n (omega arith)) in
    subst SmallPoint last (w.fits n (omega arith) (omega arith))

-- fewer of its vertices
pub fewer : {o : Circle} {i n : ℕ} → ValidCircle o i n → (j k : ℕ) → i ≤ j → j + k ≤ i + n → ValidCircle o j k
fewer w j k l u = record {
  x = w.x;
  y = w.y;
  radius = w.radius;
  least = w.least;
  most = w.most;
  start = w.start;
  sweep = w.sweep;
  some = w.some;
  fits = λ h a b. w.fits h (omega (arith, l, a)) (omega (arith, u, b));
}

-- how many chords
pub chords-most : {o : Circle} {i n : ℕ} → ValidCircle o i n → parts_of o.sweep o.angle ≤ most_chords
chords-most {o} w = curve.parts-most o.sweep o.angle w.sweep.bd w.least

-- ---- the store

pub origin-small : SmallPoint origin
origin-small = record { x = bd-lit tt; y = bd-lit tt }

pub edge-small : {es : List Edge} → Every SmallEdge es → (i : ℕ) → SmallEdge (get_or es i no_edge)
edge-small none i = record { from = origin-small; to = origin-small }
edge-small (more h hs) zero = h
edge-small (more h hs) (suc i) = edge-small hs i
