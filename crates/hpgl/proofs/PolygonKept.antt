-- PM, EP, EA and ER keep the core valid. Why: in polygon mode the first point and the saved position may be gone to, as they could when they were stored,
-- for no instruction that is known there moves locations.
use Rattle.std.specs.Prelude.{◌≡◌, true, leb, eqb, pos}
use Rattle.std.proofs.Math.Path.{refl}
use Prim.Native.Nat.{ℕ, ◌+◌, ◌*◌, ◌≤◌, ◌<◌}
use Rattle.std.proofs.Common.{arith}
use borrow.Author.Tests.{leb-true}
use Rattle.exact.specs.Whole.{◌≡?◌}
use Rattle.reader.specs.declared.Numbers.{Numbers}
use Rattle.reader.specs.Sizes.{Small}
use Rattle.hpgl.specs.declared.Position.{Position}
use Rattle.hpgl.specs.declared.Core.{Core}
use Rattle.hpgl.specs.declared.Polygon.{Polygon}
use Rattle.hpgl.specs.declared.Settings.{Settings}
use Rattle.hpgl.specs.Numbers.{out_of_range, too_far, polygon_full, polygon_bytes, mode_bytes, point_bytes, most_edges}
use Rattle.hpgl.specs.Place.{rounded, location, in_range}
use Rattle.hpgl.specs.Rules.{inked, edge_to, begun, pm0, closes, ended_with, ended, pm1_in, pm1, leave, pm2_in, pm2, pm_rule, ep_rule, rectangular, rectangle_to, ea_rule, er_rule}
use Rattle.hpgl.specs.Valid.{LocatablePosition, Placed, ValidPolygon, ValidCore, ValidAction, ValidActed}
use Rattle.hpgl.proofs.ValidFacts.{absolute-locatable, relative-locatable, located-placed, placed-kept, edge-room}
use Rattle.hpgl.proofs.Cases.{pick, whether}
use Rattle.hpgl.proofs.KeptCases.{Inks, valid-core, closed-polygon, joins, with-ink, rectangle-with-ink, refuses, acts, keeps}
use Rattle.hpgl.proofs.PositionKept.{edge-valid}

-- ---- PM

pub valid-pm0 : {c : Core} → ValidCore c → ValidActed c (pm0 c)
unfolding pm0 begun
valid-pm0 {c} w =
    pick (ValidActed c) c.carriage.polygon.mode (refuses c c out_of_range (omega arith) w)
    (keeps c _ (valid-core w.settings w.position w.pen (record {
      bytes = omega arith;
      edges = omega arith;
      room = λ h. omega arith;
      first = λ h. w.position;
      saved = λ h. w.position;
      first-kept = placed-kept w.settings w.position;
      saved-kept = placed-kept w.settings w.position;
    }) w.memory))

-- in polygon mode
module _ {c : Core} (w : ValidCore c) (o : c.carriage.polygon.mode ≡ true) where
  -- where the point that closes the subpolygon fits, so does its edge
  room_of : (n : ℕ) → point_bytes ≤ n → leb (c.carriage.polygon.bytes + n) polygon_bytes ≡ true → c.carriage.polygon.edges < most_edges
  room_of n h e = edge-room w.polygon o h (leb-true (c.carriage.polygon.bytes + n) polygon_bytes e)

  ended-valid : (n k : ℕ) (p : Position) → Placed c.settings p → leb (c.carriage.polygon.bytes + n) polygon_bytes ≡ true →
      c.carriage.polygon.edges + k ≤ most_edges → point_bytes * k ≤ n → ValidCore (ended c n k p)
  unfolding ended ended_with
  ended-valid n k p h e l m = valid-core w.settings h w.pen (record {
    bytes = leb-true (c.carriage.polygon.bytes + n) polygon_bytes e;
    edges = l;
    room = λ q. omega (arith, w.polygon.room o);
    first = λ q. w.polygon.first o;
    saved = λ q. w.polygon.saved o;
    first-kept = w.polygon.first-kept;
    saved-kept = w.polygon.saved-kept;
  }) w.memory

  edge-quiet : (d : Core) → Inks d (edge_to c c.carriage.polygon.first)
  unfolding edge_to
  edge-quiet d = joins d _

  valid-pm1-in : ValidActed c (pm1_in c)
  unfolding pm1_in
  valid-pm1-in =
      let b : ℕ = c.carriage.polygon.bytes in
      pick (ValidActed c) (closes c)
      (whether (ValidActed c) (leb (b + (mode_bytes + point_bytes)) polygon_bytes)
      (λ e. let r = room_of (mode_bytes + point_bytes) (omega arith) e in
      acts c _ _ (edge-valid w (w.polygon.first o) r)
      (ended-valid (mode_bytes + point_bytes) 1 c.carriage.polygon.first (w.polygon.first o) e (omega (arith, r)) (omega arith)) (edge-quiet _))
      (λ e. refuses c c polygon_full (omega arith) w))
      (whether (ValidActed c) (leb (b + mode_bytes) polygon_bytes)
      (λ e. keeps c _ (ended-valid mode_bytes 0 c.carriage.position w.position e (omega (arith, w.polygon.edges)) (omega arith)))
      (λ e. refuses c c polygon_full (omega arith) w))

  leave-valid : (n k : ℕ) → c.carriage.polygon.bytes + n ≤ polygon_bytes → c.carriage.polygon.edges + k ≤ most_edges → ValidCore (leave c n k)
  unfolding leave ended_with
  leave-valid n k h l = valid-core w.settings (w.polygon.saved o) w.pen (closed-polygon refl h l w.polygon.first-kept w.polygon.saved-kept) w.memory

  valid-pm2-in : ValidActed c (pm2_in c)
  unfolding pm2_in
  valid-pm2-in =
      let b : ℕ = c.carriage.polygon.bytes in
      let plain : ValidCore (leave c 0 0) = leave-valid 0 0 (omega (arith, w.polygon.bytes)) (omega (arith, w.polygon.edges)) in
      pick (ValidActed c) (closes c)
      (whether (ValidActed c) (leb (b + point_bytes) polygon_bytes)
      (λ e. let r = room_of point_bytes (omega arith) e in
      acts c _ _ (edge-valid w (w.polygon.first o) r) (leave-valid point_bytes 1 (leb-true (b + point_bytes) polygon_bytes e) (omega (arith, r))) (edge-quiet _))
      (λ e. refuses c _ polygon_full (omega arith) plain))
      (keeps c _ plain)

pub valid-pm1 : {c : Core} → ValidCore c → ValidActed c (pm1 c)
unfolding pm1
valid-pm1 {c} w = whether (ValidActed c) c.carriage.polygon.mode (λ o. valid-pm1-in w o) (λ o. refuses c c out_of_range (omega arith) w)

pub valid-pm2 : {c : Core} → ValidCore c → ValidActed c (pm2 c)
unfolding pm2
valid-pm2 {c} w = whether (ValidActed c) c.carriage.polygon.mode (λ o. valid-pm2-in w o) (λ o. refuses c c out_of_range (omega arith) w)

pub valid-pm : {c : Core} (n : Numbers) → ValidCore c → ValidActed c (pm_rule c n)
unfolding pm_rule
valid-pm {c} n w =
    pick (ValidActed c) (eqb n.count 0) (valid-pm0 w)
    (pick (ValidActed c) (rounded n.first ≡? pos 0) (valid-pm0 w)
    (pick (ValidActed c) (rounded n.first ≡? pos 1) (valid-pm1 w)
    (pick (ValidActed c) (rounded n.first ≡? pos 2) (valid-pm2 w)
    (refuses c c out_of_range (omega arith) w))))

-- ---- EP, EA, ER

pub valid-ep : {c : Core} → ValidCore c → ValidActed c (ep_rule c)
unfolding ep_rule
valid-ep {c} w = acts c _ _ (pick (ValidAction c.carriage.polygon.edges) (inked c) tt tt) w (with-ink c _)

rectangular-valid : {s : Settings} {g : Polygon} → ValidPolygon s g → ValidPolygon s (rectangular g)
unfolding rectangular
rectangular-valid w = closed-polygon refl (omega arith) (omega arith) w.first-kept w.saved-kept

pub valid-rectangle : {c : Core} {p : Position} → ValidCore c → LocatablePosition c.settings p → ValidActed c (rectangle_to c p)
unfolding rectangle_to inked
valid-rectangle {c} {p} w h =
    whether (ValidActed c) (in_range (location c.settings p))
    (λ e. acts c _ _ (w.position.near, (located-placed h e).near) (valid-core w.settings w.position w.pen (rectangular-valid w.polygon) w.memory) (rectangle-with-ink _ _ _))
    (λ e. refuses c c too_far (omega arith) w)

pub valid-ea : {c : Core} {n : Numbers} → ValidCore c → Small n → ValidActed c (ea_rule c n)
unfolding ea_rule
valid-ea w h = valid-rectangle w (absolute-locatable w.settings (record { x = h.first; y = h.second }))

pub valid-er : {c : Core} {n : Numbers} → ValidCore c → Small n → ValidActed c (er_rule c n)
unfolding er_rule
valid-er w h = valid-rectangle w (relative-locatable w.settings w.position (record { x = h.first; y = h.second }))
