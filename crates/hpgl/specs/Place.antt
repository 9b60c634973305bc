-- Where the pen is: exact position, location, page point, limits (document 01, "Position" and "Strokes"), over the settings.
-- The arithmetic of one axis is the crate plane's, that of the turn and of boxes the crate turns'.
use Rattle.std.specs.Prelude.{Bool, ◌&&◌, ℤ, pos}
use Rattle.exact.specs.Divide.{nearest_div}
use Rattle.clip.specs.declared.Point.{Point}
use Rattle.clip.specs.declared.Rect.{Rect}
use Rattle.clip.specs.Line.{Exact}
use Rattle.reader.specs.declared.Coordinates.{Coordinates}
use Rattle.plane.specs.declared.position.Axis.{Axis}
use Rattle.plane.specs.Position.{axis_of, absolute_of, relative_of, location_of, exact_of, in_range_of}
use Rattle.turns.specs.Turn.{turned_of}
use Rattle.turns.specs.Limits.{limits_of}
use Rattle.hpgl.specs.declared.Position.{Position}
use Rattle.hpgl.specs.declared.Settings.{Settings}
use Rattle.hpgl.specs.Numbers.{one}

abbrev pub point : ℤ → ℤ → Point
point x y = record { x = x; y = y }

-- "SP, RO, PM, IP numbers are rounded first": ten-thousandths to the nearest whole
abbrev pub rounded : ℤ → ℤ
rounded n = nearest_div n (pos one)

-- "For each axis: base B, offset O, span D, width W. Scaling on: D is P2 − P1, W is max − min of SC in ten-thousandths. Off: D 1, W 10,000."
unfoldable pub axis_x : Settings → Axis
axis_x s = axis_of s.scale.on s.p1.x s.p2.x s.scale.x.min s.scale.x.max

unfoldable pub axis_y : Settings → Axis
axis_y s = axis_of s.scale.on s.p1.y s.p2.y s.scale.y.min s.scale.y.max

-- "The exact position is B + O × D / W"
unfoldable pub exact_position : Settings → Position → Exact
exact_position s p = record { x = exact_of (axis_x s) p.x; y = exact_of (axis_y s) p.y }

-- "the location is that, rounded"
unfoldable pub location : Settings → Position → Point
location s p = point (location_of (axis_x s) p.x) (location_of (axis_y s) p.y)

-- "and must be within ±1,000,000"
unfoldable pub in_range : Point → Bool
in_range p = in_range_of p.x && in_range_of p.y

-- "Absolute mode sets B to P1 and O to number − min (off: B 0, O number)."
unfoldable pub absolute_position : Settings → Coordinates → Position
absolute_position s n = record { x = absolute_of (axis_x s) n.x; y = absolute_of (axis_y s) n.y }

-- "Relative mode adds to O."
unfoldable pub relative_position : Position → Coordinates → Position
relative_position p n = record { x = relative_of p.x n.x; y = relative_of p.y n.y }

-- "B becomes the location and O 0"
unfoldable pub rest_at : Point → Position
rest_at p = record { x = record { base = p.x; offset = pos 0 }; y = record { base = p.y; offset = pos 0 } }

-- "Location is turned to the page"
unfoldable pub page_point : Settings → Position → Point
page_point s p = turned_of (location s p) s.turn

-- "clipped to the limits: hard limits and, if set, the turned window"
unfoldable pub limits : Settings → Rect
limits s = limits_of s.hard s.window.set s.window.area s.turn
