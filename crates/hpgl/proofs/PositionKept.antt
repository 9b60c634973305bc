-- Moves keep the core valid. Why: a position is gone to only where its location is in range, and stored only where its bytes fit.
use Rattle.std.specs.Prelude.{◌≡◌, Bool, true, false, cond, ◌&&◌, ℕ, ◌+◌, ◌*◌, ◌≤◌, ◌<◌, leb}
use Rattle.std.proofs.Common.{arith, leb-true}
use Rattle.reader.specs.declared.Coordinates.{Coordinates}
use Rattle.reader.specs.Sizes.{SmallPair}
use Rattle.hpgl.specs.declared.Position.{Position}
use Rattle.hpgl.specs.declared.Core.{Core}
use Rattle.hpgl.specs.declared.Action.TheVariants.{Keep}
use Rattle.hpgl.specs.Numbers.{too_far, polygon_full, polygon_bytes, mode_bytes, point_bytes, most_edges}
use Rattle.hpgl.specs.Place.{location, in_range}
use Rattle.hpgl.specs.Rules.{inked, move_to, point_cost, longer, edge_to, store_point, go_to, pair_rule}
use Rattle.hpgl.specs.Valid.{LocatablePosition, Placed, KeptPosition, ValidCore, ValidAction, ValidActed}
use Rattle.hpgl.proofs.ValidFacts.{page-small, aimed-locatable, located-placed, placed-kept, cost-least, edge-room}
use Rattle.hpgl.proofs.Cases.{pick, whether}
use Rattle.hpgl.proofs.KeptCases.{Inks, valid-core, quiet, joins, down-with-ink, refuses, acts}

pub valid-move : {c : Core} {p : Position} → ValidCore c → Placed c.settings p → ValidActed c (move_to c p)
unfolding move_to inked
valid-move {c} {p} w h =
    acts c _ _
    (pick (ValidAction c.carriage.polygon.edges) (c.carriage.pen.down && inked c) (page-small w.settings w.position, page-small w.settings h) tt)
    (valid-core w.settings h w.pen w.polygon w.memory)
    (down-with-ink _ c.carriage.pen.down _)

-- ---- the polygon with one point more

-- an edge from the current position to one that may be kept
pub edge-valid : {c : Core} {p : Position} → ValidCore c → Placed c.settings p → c.carriage.polygon.edges < most_edges →
    ValidAction c.carriage.polygon.edges (edge_to c p)
unfolding edge_to
edge-valid w h l = (record { from = w.position.near; to = h.near }, l)

joins-next : (c d : Core) (p : Position) (empty : Bool) → Inks d (cond empty Keep (edge_to c p))
unfolding edge_to
joins-next c d p true = quiet d
joins-next c d p false = joins d _

more_edges : (empty : Bool) (k : ℕ) → k < most_edges → cond empty k (k + 1) ≤ most_edges
more_edges true k h = omega arith
more_edges false k h = omega arith

more_room : (empty : Bool) (k b n : ℕ) → point_bytes ≤ n → mode_bytes + point_bytes + point_bytes * k ≤ b → mode_bytes + point_bytes + point_bytes * cond empty k (k + 1) ≤ b + n
more_room true k b n h l = omega arith
more_room false k b n h l = omega arith

pub valid-store : {c : Core} {p : Position} → ValidCore c → c.carriage.polygon.mode ≡ true → Placed c.settings p → ValidActed c (store_point c p)
unfolding store_point longer
valid-store {c} {p} w o h =
    let g = c.carriage.polygon in
    let n : ℕ = point_cost c.carriage.pen in
    let l : point_bytes ≤ n = cost-least c.carriage.pen in
    whether (ValidActed c) (leb (g.bytes + n) polygon_bytes)
    (λ e. let b : g.bytes + n ≤ polygon_bytes = leb-true (g.bytes + n) polygon_bytes e in
    let r : g.edges < most_edges = edge-room w.polygon o l b in
    acts c _ _ (pick (ValidAction g.edges) g.empty tt (edge-valid w h r))
    (valid-core w.settings h w.pen (record {
      bytes = b;
      edges = more_edges g.empty g.edges r;
      room = λ q. more_room g.empty g.edges g.bytes n l (w.polygon.room o);
      first = λ q. pick (Placed c.settings) g.empty h (w.polygon.first o);
      saved = w.polygon.saved;
      first-kept = pick KeptPosition g.empty (placed-kept w.settings h) w.polygon.first-kept;
      saved-kept = w.polygon.saved-kept;
    }) w.memory) (joins-next c _ p g.empty))
    (λ e. refuses c c polygon_full (omega arith) w)

-- ---- pairs

pub valid-go : {c : Core} {p : Position} → ValidCore c → LocatablePosition c.settings p → ValidActed c (go_to c p)
unfolding go_to
valid-go {c} {p} w h =
    whether (ValidActed c) (in_range (location c.settings p))
    (λ e. whether (ValidActed c) c.carriage.polygon.mode (λ o. valid-store w o (located-placed h e)) (λ o. valid-move w (located-placed h e)))
    (λ e. refuses c c too_far (omega arith) w)

pub valid-pair : {c : Core} {n : Coordinates} → ValidCore c → SmallPair n → ValidActed c (pair_rule c n)
unfolding pair_rule
valid-pair w h = valid-go w (aimed-locatable w h)
