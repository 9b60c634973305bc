-- Position on one axis: "For each axis: base B (plotter units), offset O (ten-thousandths), span D, width W." x and y go by the same definitions.
-- Definitions only: Bounds.antt says which numbers occur, proofs/PositionLaws.antt what follows.
use Rattle.std.specs.Prelude.{Bool, true, false, cond, ℤ, pos, neg_ℤ, ◌+ℤ◌, ◌-ℤ◌, ◌*ℤ◌}
use Rattle.exact.specs.Whole.{◌<?◌}
use Rattle.exact.specs.Divide.{nearest_div}
use Rattle.clip.specs.Line.{Frac, based}
use Rattle.clip.specs.Reach.{reach}
use Rattle.plane.specs.declared.position.Axis.{Axis}
use Rattle.plane.specs.declared.position.ExactPosition.{ExactPosition}

-- "Scaling on: D is P2 − P1, W is max − min of SC in ten-thousandths (it may be negative). Off: D 1, W 10,000." Beside them what absolute mode
-- sets B to, the origin, and the number that stands there, the least: P1 and min, and without scaling 0 and 0
unfoldable pub axis_of : Bool → ℤ → ℤ → ℤ → ℤ → Axis
axis_of true p1 p2 least most = record { origin = p1; least = least; span = p2 -ℤ p1; width = most -ℤ least }
axis_of false p1 p2 least most = record { origin = pos 0; least = pos 0; span = pos 1; width = pos 10000 }

-- "Absolute mode sets B to P1 and O to number − min (off: B 0, O number)."
unfoldable pub absolute_of : Axis → ℤ → ExactPosition
absolute_of a n = record { base = a.origin; offset = n -ℤ a.least }

-- "Relative mode adds to O."
unfoldable pub relative_of : ExactPosition → ℤ → ExactPosition
relative_of p n = record { base = p.base; offset = p.offset +ℤ n }

-- "The exact position is B + O × D / W"
abbrev pub exact_of : Axis → ExactPosition → Frac
exact_of a p = based p.base p.offset a.span a.width

-- "the location is that, rounded": B is whole, so that O × D / W is rounded (proofs/PositionLaws.antt, `location-nearest`)
unfoldable pub location_of : Axis → ExactPosition → ℤ
location_of a p = p.base +ℤ nearest_div (p.offset *ℤ a.span) a.width

-- "and must be within ±1,000,000"
unfoldable pub in_range_of : ℤ → Bool
in_range_of n = cond (n <? neg_ℤ (pos reach)) false (cond (pos reach <? n) false true)
