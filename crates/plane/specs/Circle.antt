-- Circles: "CI radius, chord angle". Definitions only: proofs/CircleLaws.antt has what follows of them.
use Rattle.std.specs.Prelude.{cond, ℕ, ◌+◌, ◌-◌, ◌*◌, ◌/◌, ltb, ℤ, pos, neg_ℤ, ◌+ℤ◌, ◌-ℤ◌, ◌*ℤ◌}
use Rattle.exact.specs.Whole.{◌<?◌}
use Rattle.exact.specs.Divide.{floor_div, nearest_div}
use Rattle.clip.specs.Line.{Frac, based}
use Rattle.clip.specs.declared.Point.{Point}
use Rattle.sines.specs.Angle.{sine_of, cosine_of}
use Rattle.plane.specs.declared.position.Axis.{Axis}
use Rattle.plane.specs.declared.position.ExactPosition.{ExactPosition}
use Rattle.plane.specs.declared.circle.Way.{Way}
use Rattle.plane.specs.declared.circle.Centre.{Centre}

-- "Chords: 3600 over it, rounded up."
unfoldable pub chords_of : ℕ → ℕ
chords_of angle = (3600 + angle - 1) / angle

-- "Vertices zero, one, two .. stand at whole multiples of the angle; the last is the first again."
unfoldable pub angle_of : ℕ → ℕ → ℤ
angle_of angle i = pos (cond (ltb i (chords_of angle)) (i * angle) 0)

-- A way (u, v) from the centre, turned by an angle, scaled by 100,000. A circle's is (radius, 0): "radius × cosine and radius × sine"
unfoldable pub rotated_of : Way → ℤ → Way
rotated_of w angle = record {
  u = w.u *ℤ cosine_of angle -ℤ w.v *ℤ sine_of angle;
  v = w.u *ℤ sine_of angle +ℤ w.v *ℤ cosine_of angle;
}

-- ---- "A vertex adds [t] to O, .. over 100,000, unrounded", t being the rotated way's part on this axis: O + t / 100,000 for O, all over 100,000

abbrev pub exact_vertex : Axis → ExactPosition → ℤ → Frac
exact_vertex a p t = based p.base (p.offset *ℤ pos 100000 +ℤ t) a.span (a.width *ℤ pos 100000)

-- its location: that, rounded
unfoldable pub vertex_of : Axis → ExactPosition → ℤ → ℤ
vertex_of a p t = p.base +ℤ nearest_div ((p.offset *ℤ pos 100000 +ℤ t) *ℤ a.span) (a.width *ℤ pos 100000)

-- both axes: from the centre (px, py), the way w turned by the angle
unfoldable pub vertex_point_of : Axis → Axis → ExactPosition → ExactPosition → Way → ℤ → Point
vertex_point_of ax ay px py w angle = record { x = vertex_of ax px (rotated_of w angle).u; y = vertex_of ay py (rotated_of w angle).v }

-- ---- how the code finds it, for the product above may be larger than an i64: the centre split once

-- n / w = q + part / w: the whole part q joins the base
unfoldable pub split_of : ℤ → ℤ → ℤ → ℤ → Centre
split_of B n d w = record { base = B +ℤ floor_div n w; part = n -ℤ floor_div n w *ℤ w; span = d; width = w }

-- the centre on an axis, with the width's sign moved to the span
unfoldable pub centre_of : Axis → ExactPosition → Centre
centre_of a p =
    cond (a.width <? pos 0) (split_of p.base (neg_ℤ (p.offset *ℤ a.span)) (neg_ℤ a.span) (neg_ℤ a.width))
    (split_of p.base (p.offset *ℤ a.span) a.span a.width)

-- `from_centre (centre_of a p) t` is `vertex_of a p t` (proofs/CircleLaws.antt, `vertex-split`)
unfoldable pub from_centre : Centre → ℤ → ℤ
from_centre c t = c.base +ℤ nearest_div (c.part *ℤ pos 100000 +ℤ t *ℤ c.span) (c.width *ℤ pos 100000)

unfoldable pub point_from_centre : Centre → Centre → Way → ℤ → Point
point_from_centre cx cy w angle = record { x = from_centre cx (rotated_of w angle).u; y = from_centre cy (rotated_of w angle).v }
