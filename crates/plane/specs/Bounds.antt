-- How large the numbers of the plane are. The code asks for these bounds, and each is had from the one before: see proofs/PositionLaws.antt and proofs/CircleLaws.antt.
use Rattle.std.specs.Prelude.{◌≡◌, ℕ, ◌+◌, ◌*◌, pos, nat_abs, ◌*ℤ◌}
use Rattle.exact.specs.Whole.{◌<ᶻ◌}
use Rattle.exact.specs.Fit.{Bd}
use Rattle.clip.specs.Reach.{reach}
use Rattle.plane.specs.declared.position.Axis.{Axis}
use Rattle.plane.specs.declared.position.ExactPosition.{ExactPosition}
use Rattle.plane.specs.declared.circle.Way.{Way}
use Rattle.plane.specs.declared.circle.Centre.{Centre}

-- a number that was read, in ten-thousandths: 32768.0000
abbrev pub most_number : ℕ
most_number = 327680000

-- P1 and P2, and the span between them
abbrev pub most_point : ℕ
most_point = 32768

abbrev pub most_span : ℕ
most_span = 2 * most_point

abbrev pub most_width : ℕ
most_width = 2 * most_number

-- O × D: that of a stored position is below 1.4e15, that of a number more is below this
abbrev pub most_product : ℕ
most_product = 2000000000000000

-- a rotated way, scaled by 100,000
abbrev pub most_way : ℕ
most_way = 2 * most_number * 100000

-- a chord angle, in tenths of a degree
abbrev pub most_angle : ℕ
most_angle = 1200

-- a swept angle, in tenths of a degree, either way
abbrev pub most_sweep : ℕ
most_sweep = 3600

-- an axis as the settings make it
pub record AxisBounds (a : Axis) : Type 0 where
  pub origin : Bd a.origin most_point
  pub least : Bd a.least most_number
  pub span : Bd a.span most_span
  pub moves : a.span ≡ pos 0 → ⊥
  pub width : Bd a.width most_width
  pub some : a.width ≡ pos 0 → ⊥

-- A position that may be located: the product O × D is bounded, and not its factors
pub record Locatable (a : Axis) (p : ExactPosition) : Type 0 where
  pub base : Bd p.base reach
  pub product : Bd (p.offset *ℤ a.span) most_product
  pub width : Bd a.width most_width
  pub some : a.width ≡ pos 0 → ⊥

-- A position that may be stored, because its location is in range: O × D / W is then at most 2,000,000.5, and |O × D| at most 2,000,001 |W|
pub record Storable (a : Axis) (p : ExactPosition) : Type 0 where
  pub base : Bd p.base reach
  pub product : Bd (p.offset *ℤ a.span) (2000001 * nat_abs a.width)

-- a way that numbers make
pub record WayBounds (w : Way) : Type 0 where
  pub u : Bd w.u most_number
  pub v : Bd w.v most_number

-- the centre of a circle on one axis
pub record CentreBounds (c : Centre) : Type 0 where
  pub base : Bd c.base (reach + (most_product + 1))
  pub part : Bd c.part most_width
  pub span : Bd c.span most_span
  pub width : Bd c.width most_width
  pub some : pos 0 <ᶻ c.width
