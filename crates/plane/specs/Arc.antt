-- Arcs: "AA and AR: centre (absolute or relative), swept angle and optional chord angle, as for CI". Definitions only: proofs/ArcLaws.antt has what follows of them.
use Rattle.std.specs.Prelude.{Bool, true, false, cond, ◌&&◌, ℕ, zero, suc, ◌+◌, ◌-◌, ◌*◌, ◌/◌, eqb, ltb, ℤ, pos, neg_ℤ, nat_abs, ◌+ℤ◌, ◌-ℤ◌, ◌*ℤ◌}
use Rattle.exact.specs.Whole.{◌<?◌}
use Rattle.exact.specs.Divide.{nearest_div}
use Rattle.clip.specs.Line.{Frac, based}
use Rattle.clip.specs.declared.Point.{Point}
use Rattle.plane.specs.declared.position.Axis.{Axis}
use Rattle.plane.specs.declared.position.ExactPosition.{ExactPosition}
use Rattle.plane.specs.declared.circle.Way.{Way}
use Rattle.plane.specs.declared.circle.Centre.{Centre}
use Rattle.plane.specs.Bounds.{most_number}
use Rattle.plane.specs.Position.{exact_of, location_of, in_range_of}
use Rattle.plane.specs.Circle.{exact_vertex, vertex_of, from_centre, point_from_centre}

-- ---- the way

-- "The way from centre to current point is taken per axis in current units": from the centre q to the position p, in ten-thousandths of a current unit,
-- O − Oc, which are such already, and (B − Bc) × W / D, for a plotter unit is W / D of them
abbrev pub exact_way : Axis → ExactPosition → ExactPosition → Frac
exact_way a p q = based (p.offset -ℤ q.offset) (p.base -ℤ q.base) a.width a.span

-- "rounded to ten-thousandths": O − Oc is whole, so that (B − Bc) × W / D is rounded (proofs/ArcLaws.antt, `way-nearest`)
unfoldable pub way_of : Axis → ExactPosition → ExactPosition → ℤ
way_of a p q = p.offset -ℤ q.offset +ℤ nearest_div ((p.base -ℤ q.base) *ℤ a.width) a.span

-- "more than 32768 units either way is 3"
unfoldable pub way_fits : Way → Bool
way_fits w =
    cond (w.u <? neg_ℤ (pos most_number)) false
    (cond (pos most_number <? w.u) false
    (cond (w.v <? neg_ℤ (pos most_number)) false
    (cond (pos most_number <? w.v) false
    true)))

-- ---- the chords

-- as many as the chord angle needs to go through the swept angle: |sweep| over it, rounded up. A circle's are those of a sweep of 3600
unfoldable pub parts_of : ℤ → ℕ → ℕ
parts_of sweep angle = (nat_abs sweep + angle - 1) / angle

-- n tenths of a degree in the sense of the sweep: "positive is from x towards y"
unfoldable pub towards : ℤ → ℕ → ℤ
towards sweep n = cond (sweep <? pos 0) (neg_ℤ (pos n)) (pos n)

-- what the way is turned by at vertex i: "by whole chord angles and at the last by the swept angle itself"
unfoldable pub bend_of : ℤ → ℕ → ℕ → ℤ
bend_of sweep angle i = cond (ltb i (parts_of sweep angle)) (towards sweep (i * angle)) sweep

-- ---- the vertices on one axis: from p about the centre q, t being the part of the turned way on this axis

-- "The arc starts at the current exact position. Each later vertex is the centre plus that way turned", and "nothing more is rounded"
unfoldable pub exact_arc : Axis → ExactPosition → ExactPosition → ℤ → ℕ → Frac
exact_arc a p q t zero = exact_of a p
exact_arc a p q t (suc i) = exact_vertex a q t

-- its location: that, rounded
unfoldable pub arc_of : Axis → ExactPosition → ExactPosition → ℤ → ℕ → ℤ
arc_of a p q t zero = location_of a p
arc_of a p q t (suc i) = vertex_of a q t

-- ---- how the code finds it: from the location where the arc starts, and from the centre, split once

-- vertex i
unfoldable pub arc_point : Point → Centre → Centre → Way → ℤ → ℕ → ℕ → Point
arc_point start cx cy w sweep angle i = cond (eqb i 0) start (point_from_centre cx cy w (bend_of sweep angle i))

-- "A vertex out of range refuses the arc": of n vertices from i on each is in range
unfoldable pub both_in_range : Point → Bool
both_in_range p = cond (in_range_of p.x) (in_range_of p.y) false

unfoldable pub fits_from : Centre → Centre → Way → ℤ → ℕ → ℕ → ℕ → Bool
fits_from cx cy w sweep angle i zero = true
fits_from cx cy w sweep angle i (suc n) = both_in_range (point_from_centre cx cy w (bend_of sweep angle i)) && fits_from cx cy w sweep angle (i + 1) n

-- all but the first, which is the current position
unfoldable pub arc_fits : Centre → Centre → Way → ℤ → ℕ → Bool
arc_fits cx cy w sweep angle = fits_from cx cy w sweep angle 1 (parts_of sweep angle)

-- A quick answer, and no rule of 02's: no part of a turned way is larger than |u| + |v|, so that where the points so far from the centre on either side are in range,
-- every vertex is (proofs/ArcLaws.antt, `round-small`)
unfoldable pub ends_fit : Centre → ℕ → Bool
ends_fit c r = cond (in_range_of (from_centre c (pos r *ℤ pos 100000))) (in_range_of (from_centre c (neg_ℤ (pos r) *ℤ pos 100000))) false

unfoldable pub round_fits : Centre → Centre → Way → Bool
round_fits cx cy w = cond (ends_fit cx (nat_abs w.u + nat_abs w.v)) (ends_fit cy (nat_abs w.u + nat_abs w.v)) false
