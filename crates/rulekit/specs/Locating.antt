-- Further facts that the code of moves and polygons needs of a valid core: where the carriage and the first point of a polygon are, both may be located.
-- And what it needs of the parts of one.
use Rattle.std.specs.Prelude.{◌≡◌, true}
use Rattle.exact.specs.Fit.{Bd}
use Rattle.clip.specs.Reach.{SmallPoint}
use Rattle.reader.specs.declared.Coordinates.{Coordinates}
use Rattle.reader.specs.declared.Numbers.{Numbers}
use Rattle.reader.specs.Sizes.{Small, SmallPair}
use Rattle.plane.specs.Bounds.{AxisBounds, Locatable, most_product}
use Rattle.turns.specs.Turn.{UnitRows}
use Rattle.turns.proofs.TurnLaws.{rows-unit}
use Rattle.hpgl.specs.declared.Position.{Position}
use Rattle.hpgl.specs.declared.Polygon.{Polygon}
use Rattle.hpgl.specs.declared.Core.{Core}
use Rattle.hpgl.specs.Rules.{first_two, aimed}
use Rattle.hpgl.specs.Valid.{LocatablePosition, ValidCore}
use Rattle.hpgl.proofs.ValidFacts.{axis-bounds-x, axis-bounds-y, placed-locatable, placed-offset, aimed-locatable}
use Rattle.rulekit.specs.declared.places.Frame.{Frame}
use Rattle.rulekit.specs.declared.hand.Hand.{Hand}
use Rattle.rulekit.specs.Hand.{frame_of, core_of, location_in, location-in, ValidParts}

-- the current position
pub here-locatable : {c : Core} → ValidCore c → LocatablePosition c.settings c.carriage.position
here-locatable w = placed-locatable w.settings w.position

-- the first point of the subpolygon, in polygon mode
pub first-locatable : {c : Core} → ValidCore c → c.carriage.polygon.mode ≡ true → LocatablePosition c.settings c.carriage.polygon.first
first-locatable w e = placed-locatable w.settings (w.polygon.first e)

-- the corner of EA and ER
pub first-two-small : {n : Numbers} → Small n → SmallPair (first_two n)
first-two-small h = record { x = h.first; y = h.second }

-- ---- by the frame

module _ {f : Frame} {h : Hand} {g : Polygon} (w : ValidParts f h g) where
  pub frame-axes : AxisBounds f.x × AxisBounds f.y
  unfolding frame_of
  frame-axes = rw w.frame (axis-bounds-x w.core.settings, axis-bounds-y w.core.settings)

  pub frame-rows : UnitRows f.rows
  unfolding frame_of
  frame-rows = rw w.frame (rows-unit w.core.settings.turn)

  frame-locatable : {p : Position} → LocatablePosition w.settings p → Locatable f.x p.x × Locatable f.y p.y
  unfolding frame_of
  frame-locatable k = rw w.frame (k.x, k.y)

  -- where the hand is
  pub hand-locatable : Locatable f.x h.position.x × Locatable f.y h.position.y
  hand-locatable = frame-locatable (here-locatable w.core)

  pub hand-near : SmallPoint (location_in f h.position)
  hand-near = rw (location-in w.settings h.position w.frame) w.core.position.near

  -- where a pair aims
  pub aim-needs : {n : Coordinates} → SmallPair n → (AxisBounds f.x × AxisBounds f.y × SmallPair n) × (Bd h.position.x.offset most_product × Bd h.position.y.offset most_product)
  aim-needs k = let a = frame-axes in ((a.0, a.1, k), placed-offset w.core.settings w.core.position)

  pub aim-locatable : {p : Position} {n : Coordinates} → SmallPair n → p ≡ aimed (core_of w.settings h g) n →
      Locatable f.x p.x × Locatable f.y p.y
  aim-locatable k e = frame-locatable (rw e (aimed-locatable w.core k))
