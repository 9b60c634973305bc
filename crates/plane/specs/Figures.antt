-- The checked figures of 01 that are about the plane, by computation from the definitions.
use Rattle.std.specs.Prelude.{◌≡◌, refl, true, false, ℕ, ℤ, pos, negsuc}
use Rattle.exact.specs.Whole.{◌<?◌}
use Rattle.exact.specs.Divide.{nearest_div}
use Rattle.clip.specs.declared.Point.{Point}
use Rattle.sines.specs.Table.{sines, sine_at}
use Rattle.sines.specs.Angle.{sine_in, rest_of, sine_of, cosine_of}
use Rattle.plane.specs.declared.position.Axis.{Axis}
use Rattle.plane.specs.declared.circle.Way.{Way}
use Rattle.plane.specs.Position.{axis_of, absolute_of, relative_of, location_of}
use Rattle.plane.specs.declared.position.ExactPosition.{ExactPosition}
use Rattle.plane.specs.Circle.{chords_of, angle_of, rotated_of, vertex_of, vertex_point_of, split_of, centre_of, from_centre, point_from_centre}
use Rattle.plane.specs.Arc.{way_of, parts_of, towards, bend_of, arc_point}

-- no scaling; P1 0, P2 1000 and SC from 0 to 3, and from 3 to 0
abbrev plain : Axis
plain = axis_of false (pos 0) (pos 0) (pos 0) (pos 0)

abbrev thirds : Axis
thirds = axis_of true (pos 0) (pos 1000) (pos 0) (pos 30000)

abbrev mirrored : Axis
mirrored = axis_of true (pos 0) (pos 1000) (pos 30000) (pos 0)

-- (a) PA2.5,-2.5 is at (3, −2).
pub figure-a : (location_of plain (absolute_of plain (pos 25000)) ≡ pos 3) × (location_of plain (absolute_of plain (negsuc 24999)) ≡ negsuc 1)
unfolding axis_of absolute_of location_of nearest_div
figure-a = (refl, refl)

-- (b) P1 (0,0), P2 (1000,1000), SC0,3,0,3: PA1,2 is at (333, 667).
pub figure-b : (location_of thirds (absolute_of thirds (pos 10000)) ≡ pos 333) × (location_of thirds (absolute_of thirds (pos 20000)) ≡ pos 667)
unfolding axis_of absolute_of location_of nearest_div
figure-b = (refl, refl)

-- (c) Then PA0,0 and PR1,0 three times: x 333, 667, 1000.
pub figure-c : let p = absolute_of thirds (pos 0) in
    let q = relative_of p (pos 10000) in
    let r = relative_of q (pos 10000) in
    let s = relative_of r (pos 10000) in
    (location_of thirds q ≡ pos 333) × (location_of thirds r ≡ pos 667) × (location_of thirds s ≡ pos 1000)
unfolding axis_of absolute_of relative_of location_of nearest_div
figure-c = (refl, refl, refl)

-- (d) SC3,0,0,3, PA1,0: x 667.
pub figure-d : location_of mirrored (absolute_of mirrored (pos 10000)) ≡ pos 667
unfolding axis_of absolute_of location_of nearest_div
figure-d = refl

-- (k) Chord angle 7: 52 chords.
pub figure-k : chords_of 70 ≡ 52
unfolding chords_of
figure-k = refl

-- (l) Radius 1000, angle 60, at (0,0): vertex one (500, 866).
pub figure-l : let c = absolute_of plain (pos 0) in vertex_point_of plain plain c c (record { u = pos 10000000; v = pos 0 }) (angle_of 600 1) ≡ record { x = pos 500; y = pos 866 }
unfolding axis_of absolute_of vertex_point_of vertex_of angle_of chords_of rotated_of sine_of cosine_of rest_of sine_in sine_at sines nearest_div
figure-l = refl

-- ---- beyond 01's own figures: readings that another rule would fail

-- A half goes to the larger number whichever of W and D is below 0, and also below zero: PA-0.5 and -0.5001; then SC0,-1 with P2 1; then P1 1, P2 0.
pub halves : let one = axis_of true (pos 0) (pos 1) (pos 0) (negsuc 9999) in
    let two = axis_of true (pos 1) (pos 0) (pos 0) (pos 10000) in
    (location_of plain (absolute_of plain (negsuc 4999)) ≡ pos 0) × (location_of plain (absolute_of plain (negsuc 5000)) ≡ negsuc 0) ×
    (location_of one (absolute_of one (pos 5000)) ≡ pos 0) × (location_of one (absolute_of one (pos 5001)) ≡ negsuc 0) ×
    (location_of two (absolute_of two (pos 5000)) ≡ pos 1)
unfolding axis_of absolute_of location_of nearest_div
halves = (refl, refl, refl, refl, refl)

-- A vertex is rounded once: CI.5,90 at (0,0) has the vertices (1,0), (0,1), (0,0), (0,0), and (1,0) again.
abbrev small : ℕ → Point
small i = let c = absolute_of plain (pos 0) in vertex_point_of plain plain c c (record { u = pos 5000; v = pos 0 }) (angle_of 900 i)

pub small-circle : (small 0 ≡ record { x = pos 1; y = pos 0 }) × (small 1 ≡ record { x = pos 0; y = pos 1 }) ×
    (small 2 ≡ record { x = pos 0; y = pos 0 }) × (small 3 ≡ record { x = pos 0; y = pos 0 }) × (small 4 ≡ record { x = pos 1; y = pos 0 })
unfolding axis_of absolute_of vertex_point_of vertex_of angle_of chords_of rotated_of sine_of cosine_of rest_of sine_in sine_at sines nearest_div
small-circle = (refl, refl, refl, refl, refl)

-- ---- arcs

-- PA100,0 and AA0,0,s,20: the vertices at whole chord angles, and the last at the sweep; the other way for a sweep below 0.
abbrev about : ℤ → ℕ → Point
about sweep i =
    let p : ExactPosition = absolute_of plain (pos 1000000) in
    let q : ExactPosition = absolute_of plain (pos 0) in
    let w : Way = record { u = way_of plain p q; v = way_of plain q q } in
    arc_point (record { x = location_of plain p; y = location_of plain q }) (centre_of plain q) (centre_of plain q) w sweep 200 i

pub fifty-degrees : (parts_of (pos 500) 200 ≡ 3) × (about (pos 500) 0 ≡ record { x = pos 100; y = pos 0 }) × (about (pos 500) 1 ≡ record { x = pos 94; y = pos 34 }) ×
    (about (pos 500) 2 ≡ record { x = pos 77; y = pos 64 }) × (about (pos 500) 3 ≡ record { x = pos 64; y = pos 77 }) × (about (negsuc 499) 3 ≡ record { x = pos 64; y = negsuc 76 })
unfolding axis_of absolute_of location_of way_of parts_of towards bend_of arc_point split_of centre_of from_centre point_from_centre rotated_of sine_of cosine_of rest_of sine_in sine_at sines nearest_div ◌<?◌
fifty-degrees = (refl, refl, refl, refl, refl, refl)

-- A sweep that is a multiple of the chord angle has no chord more, and one below it has one.
pub whole_parts : (parts_of (pos 600) 200 ≡ 3) × (parts_of (pos 30) 1200 ≡ 1) × (parts_of (negsuc 3599) 50 ≡ 72)
unfolding parts_of
whole_parts = (refl, refl, refl)

-- P1 0, P2 20000 and SC0,1: a plotter unit is half a ten-thousandth, and a half of a way goes to the larger number, also below zero.
pub half-ways : let a = axis_of true (pos 0) (pos 20000) (pos 0) (pos 10000) in
    let q = absolute_of a (pos 0) in
    (way_of a (record { base = pos 1; offset = pos 0 }) q ≡ pos 1) × (way_of a (record { base = negsuc 0; offset = pos 0 }) q ≡ pos 0)
unfolding axis_of absolute_of way_of nearest_div
half-ways = (refl, refl)
