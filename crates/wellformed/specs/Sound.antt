-- Which lists of numbers are a machine: the tests of each row, that together say that the list is what save writes of a valid state. SoundLaws.antt proves it, both ways.
use Rattle.std.specs.Prelude.{Bool, true, false, cond, not, ◌&&◌, List, ℕ, zero, suc, ◌+◌, ◌-◌, ◌/◌, ℤ, pos, neg_ℤ, nat_abs, ◌+ℤ◌, ◌*ℤ◌}
use Rattle.exact.specs.Whole.{◌<?◌, ◌≤?◌, ◌≡?◌}
use Rattle.rows.specs.declared.Row.{Row}
use Rattle.rows.specs.Rows.{row, row_at, small_of, most_byte, most_short}
use Rattle.mnemonics.specs.Table.{rows, known_in_polygon}
use Rattle.plane.specs.declared.position.Axis.{Axis}
use Rattle.plane.specs.declared.position.ExactPosition.{ExactPosition}
use Rattle.plane.specs.Bounds.{most_product}
use Rattle.plane.specs.Position.{in_range_of}
use Rattle.plane.specs.Arc.{fits_from}
use Rattle.turns.specs.Turn.{turn_count}
use Rattle.hpgl.specs.declared.Position.{Position}
use Rattle.hpgl.specs.declared.Settings.{Settings}
use Rattle.hpgl.specs.declared.Circle.{Circle}
use Rattle.hpgl.specs.Place.{axis_x, axis_y, location, in_range}
use Rattle.saved.specs.Places.{limits_place, corners_place, scale_place, window_place, position_place, pen_place, polygon_place, first_place, saved_place, memory_place, work_place, across_place, along_place, start_place, edges_place}
use Rattle.saved.specs.Saved.{position_of, circle_of, settings_at}

-- ---- rows between two rows

abbrev minus : ℕ → ℤ
minus n = neg_ℤ (pos n)

unfoldable pub first_below : Row → Row → Bool
first_below p q = (p.a ≤? q.a) && (p.b ≤? q.b)

unfoldable pub last_below : Row → Row → Bool
last_below p q = (p.c ≤? q.c) && ((p.d ≤? q.d) && (p.e ≤? q.e))

unfoldable pub below_of : Row → Row → Bool
below_of p q = first_below p q && last_below p q

unfoldable pub between_of : Row → Row → Row → Bool
between_of low r high = below_of low r && below_of r high

-- the first four within ±n, the last from l to h
abbrev pub four_low : ℕ → ℕ → Row
four_low n l = row (minus n) (minus n) (minus n) (minus n) (pos l)

abbrev pub four_high : ℕ → ℕ → Row
four_high n h = row (pos n) (pos n) (pos n) (pos n) (pos h)

abbrev pub five_of : ℕ → ℕ → ℕ → ℕ → ℕ → Row
five_of a b c d e = row (pos a) (pos b) (pos c) (pos d) (pos e)

unfoldable pub blank_sound : Row → Bool
blank_sound r = between_of (five_of 0 0 0 0 0) r (five_of 0 0 0 0 0)

-- ---- the reader

-- the last instruction of the table
abbrev pub last : ℕ
last = rows - 1

unfoldable pub place_sound : Row → Bool
place_sound r = cond (r.a ≡? pos 1) (between_of (five_of 1 0 0 0 0) r (five_of 1 255 last 0 0)) (between_of (five_of 0 0 0 0 0) r (five_of 5 0 last 0 0))

unfoldable pub numbers_sound : Row → Bool
numbers_sound r =
    between_of (row (pos 0) (minus 327680000) (minus 327680000) (minus 327680000) (minus 327680000)) r (row (pos 4) (pos 327680000) (pos 327680000) (pos 327680000) (pos 327680000))

unfoldable pub number_sound : Row → Bool
number_sound r = between_of (five_of 0 0 0 0 0) r (five_of 1 1 1 7 3276800009)

unfoldable pub reader_sound : Row → Row → Row → Bool
reader_sound place numbers number = place_sound place && (numbers_sound numbers && number_sound number)

-- ---- the settings

-- the last turn of the table
abbrev pub last_turn : ℕ
last_turn = turn_count - 1

unfoldable pub limits_sound : Row → Bool
limits_sound r = between_of (four_low 32768 0) r (four_high 32768 last_turn) && ((r.a <? r.c) && (r.b <? r.d))

unfoldable pub corners_sound : Row → Bool
corners_sound r = between_of (four_low 32768 0) r (four_high 32768 0) && cond (r.a ≡? r.c) false (cond (r.b ≡? r.d) false true)

unfoldable pub scale_sound : Row → Bool
scale_sound r = between_of (four_low 327680000 0) r (four_high 327680000 1) && cond (r.e ≡? pos 0) true (cond (r.a ≡? r.b) false (cond (r.c ≡? r.d) false true))

-- a window, and an edge
unfoldable pub box_sound : Row → Bool
box_sound r = between_of (four_low 1000000 0) r (four_high 1000000 1)

unfoldable pub settings_sound : Row → Row → Row → Row → Bool
settings_sound limits corners scale window = limits_sound limits && (corners_sound corners && (scale_sound scale && box_sound window))

-- ---- positions: the product O × D is bounded, with no product; then the location is in range

unfoldable pub room_of : Axis → ℤ
room_of a = pos (most_product / nat_abs a.span)

unfoldable pub locatable_of : Axis → ExactPosition → Bool
locatable_of a p = in_range_of p.base && ((neg_ℤ (room_of a) ≤? p.offset) && (p.offset ≤? room_of a))

unfoldable pub placed_of : Settings → Position → Bool
placed_of s p = locatable_of (axis_x s) p.x && (locatable_of (axis_y s) p.y && in_range (location s p))

-- ---- the carriage

-- base and offset on both axes, and a flag: as large as they may be under any settings
abbrev pub position_low : Row
position_low = row (minus 1000000) (minus 2000000000000000) (minus 1000000) (minus 2000000000000000) (pos 0)

abbrev pub position_high : Row
position_high = row (pos 1000000) (pos 2000000000000000) (pos 1000000) (pos 2000000000000000) (pos 1)

unfoldable pub position_sound : Row → Bool
position_sound r = between_of position_low r position_high

unfoldable pub pen_sound : Row → Bool
pen_sound r = between_of (five_of 0 0 0 0 0) r (five_of 8 1 1 0 0)

-- in polygon mode the bytes of PM0 and of all edges are counted
unfoldable pub polygon_sound : Row → Bool
polygon_sound r = between_of (five_of 0 0 0 0 0) r (five_of 1 1024 112 1 0) && cond (r.a ≡? pos 0) true (pos 11 +ℤ pos 9 *ℤ r.c ≤? r.b)

-- and the two points that PM0 kept may be gone to
unfoldable pub kept_sound : Settings → Row → Row → Row → Bool
kept_sound s polygon first saved = cond (polygon.a ≡? pos 0) true (placed_of s (position_of first) && placed_of s (position_of saved))

unfoldable pub positions_sound : Row → Row → Row → Bool
positions_sound place first saved = position_sound place && (position_sound first && position_sound saved)

-- what OE may tell: 0, 1, 2, 3, 6 or 7
unfoldable pub memory_sound : Row → Bool
memory_sound r = between_of (five_of 0 0 0 0 0) r (five_of 7 0 0 0 0) && cond (r.a ≤? pos 3) true (pos 6 ≤? r.a)

unfoldable pub parts_sound : Row → Row → Row → Row → Row → Row → Bool
parts_sound place pen polygon first saved memory = positions_sound place first saved && (pen_sound pen && (polygon_sound polygon && memory_sound memory))

unfoldable pub carriage_sound : Settings → Row → Row → Row → Row → Row → Row → Bool
carriage_sound s place pen polygon first saved memory = parts_sound place pen polygon first saved memory && (placed_of s (position_of place) && kept_sound s polygon first saved)

-- ---- what is being read in polygon mode is known there

unfoldable pub known_sound : Row → Row → Bool
known_sound place polygon =
    cond (polygon.a ≡? pos 0) true (cond (place.a <? pos 2) true (cond (pos 3 <? place.a) true (known_in_polygon (small_of most_byte place.c))))

-- ---- the work

-- the vertices that n waiting chords of a circle join, from i on, are in range: i to i + n, without the first, which is tested as its start
unfoldable pub round_of : Circle → ℕ → ℕ → Bool
round_of o zero n = fits_from o.x o.y o.radius o.sweep o.angle 1 n
round_of o (suc i) n = fits_from o.x o.y o.radius o.sweep o.angle (suc i) (n + 1)

-- a centre on one axis, and the way from it
abbrev pub centre_low : Row
centre_low = row (minus 2000000001000001) (minus 655360000) (minus 65536) (pos 1) (minus 327680000)

abbrev pub centre_high : Row
centre_high = row (pos 2000000001000001) (pos 655360000) (pos 65536) (pos 655360000) (pos 327680000)

-- where it starts, and how far it goes, which is not 0
abbrev pub start_low : Row
start_low = row (minus 1000000) (minus 1000000) (minus 3600) (pos 0) (pos 0)

abbrev pub start_high : Row
start_high = row (pos 1000000) (pos 1000000) (pos 3600) (pos 0) (pos 0)

unfoldable pub start_sound : Row → Bool
start_sound r = between_of start_low r start_high && not (r.c ≡? pos 0)

unfoldable pub ring_sound : Row → Row → Row → Bool
ring_sound across along start = between_of centre_low across centre_high && (between_of centre_low along centre_high && start_sound start)

unfoldable pub chords_sound : Row → Row → Row → Row → Bool
chords_sound r across along start =
    between_of (five_of 0 0 5 0 2) r (five_of 720 720 1200 0 2)
    && ((r.a +ℤ r.b ≤? pos 720)
    && (ring_sound across along start && round_of (circle_of r across along start) (small_of most_short r.a) (small_of most_short r.b)))

unfoldable pub blanks_sound : Row → Row → Row → Bool
blanks_sound across along start = blank_sound across && (blank_sound along && blank_sound start)

unfoldable pub line_sound : Row → Row → Row → Row → Bool
line_sound r across along start = between_of (four_low 1000000 1) r (four_high 1000000 1) && blanks_sound across along start

unfoldable pub outline_sound : Row → Row → Row → Row → Bool
outline_sound r across along start = between_of (five_of 0 0 0 0 3) r (five_of 112 112 0 0 3) && ((r.a +ℤ r.b ≤? pos 112) && blanks_sound across along start)

-- how many numbers a reply has: one, three or four
unfoldable pub count_sound : Row → Bool
count_sound r = between_of (five_of 1 0 0 0 0) r (five_of 4 0 0 0 0) && not (r.a ≡? pos 2)

unfoldable pub reply_sound : Row → Row → Row → Row → Bool
reply_sound r across along start = between_of (four_low 1000000 4) r (four_high 1000000 4) && (count_sound across && (blank_sound along && blank_sound start))

unfoldable pub work_sound : Row → Row → Row → Row → Bool
work_sound r across along start =
    cond (r.e ≡? pos 1) (line_sound r across along start)
    (cond (r.e ≡? pos 2) (chords_sound r across along start)
    (cond (r.e ≡? pos 3) (outline_sound r across along start)
    (cond (r.e ≡? pos 4) (reply_sound r across along start)
    (blank_sound r && blanks_sound across along start))))

-- where a segment waits, the pen is not 0; a reply is no segment
unfoldable pub inked_sound : Row → Row → Bool
inked_sound pen work = cond (pos 1 ≤? pen.a) true (cond (work.e ≡? pos 0) true (cond (work.e ≡? pos 4) true (cond (work.e ≡? pos 1) false (work.b ≡? pos 0))))

-- ---- the store

unfoldable pub edges_sound : List ℤ → ℕ → ℕ → Bool
edges_sound zs i zero = true
edges_sound zs i (suc n) = box_sound (row_at zs i) && edges_sound zs (i + 5) n

-- ---- the machine

unfoldable pub sound_of : List ℤ → Bool
sound_of zs =
    reader_sound (row_at zs 0) (row_at zs 5) (row_at zs 10)
    && (settings_sound (row_at zs limits_place) (row_at zs corners_place) (row_at zs scale_place) (row_at zs window_place)
    && (carriage_sound (settings_at zs) (row_at zs position_place) (row_at zs pen_place) (row_at zs polygon_place) (row_at zs first_place) (row_at zs saved_place) (row_at zs memory_place)
    && (known_sound (row_at zs 0) (row_at zs polygon_place)
    && (work_sound (row_at zs work_place) (row_at zs across_place) (row_at zs along_place) (row_at zs start_place)
    && (inked_sound (row_at zs pen_place) (row_at zs work_place)
    && edges_sound zs edges_place 112)))))
