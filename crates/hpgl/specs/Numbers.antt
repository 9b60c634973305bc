-- The numbers of document 01: its refusals ("Causes and numbers") and its bounds, each named once. Those of reading stand in the crate reader, those of
-- the plane (a location's range, the largest chord angle) in clip and plane, the range of 16 bits in exact, that of a full list in feeding.
use Rattle.std.specs.Prelude.{ℕ}
-- ---- "Causes and numbers"

-- of the reader's three, what rules refuse with too: "not known in polygon mode", 1; "setting out of range", 3
pub use Rattle.reader.specs.Reader.{unknown, out_of_range}

-- location out of range
abbrev pub too_far : ℕ
too_far = 6

-- polygon bytes
abbrev pub polygon_full : ℕ
polygon_full = 7

-- bad hard limits
abbrev pub bad_limits : ℕ
bad_limits = 10

-- take while a segment waits, and "While a reply waits a byte is refused with 20" (document 02, CR 5)
abbrev pub busy : ℕ
busy = 20

-- fetch: "buffer shorter than the reply" (document 02, CR 5)
abbrev pub short_buffer : ℕ
short_buffer = 31

-- ---- the bytes of the longest reply: four numbers of seven digits with their signs, three commas, 13 and 10 (ReplyLaws.antt, `reply-short`)

abbrev pub most_reply : ℕ
most_reply = 37

-- ---- "Bytes, at most 1024: 2 for PM0 and PM1, 9 for each point, 2 when the point is the first of a PU or PD that itself changed the pen"; "49 bytes by definition"

abbrev pub polygon_bytes : ℕ
polygon_bytes = 1024

abbrev pub mode_bytes : ℕ
mode_bytes = 2

abbrev pub point_bytes : ℕ
point_bytes = 9

abbrev pub pen_bytes : ℕ
pen_bytes = 2

abbrev pub rectangle_bytes : ℕ
rectangle_bytes = 49

-- the edges that fit, and so the store's length: of 1024 bytes PM0 and its point take 11, and each edge at least 9
abbrev pub most_edges : ℕ
most_edges = 112

-- ---- "SP: 0 to 8"

abbrev pub most_pen : ℕ
most_pen = 8

-- ---- "the angle in tenths of a degree, rounded, 5 to 1200, default 50"

abbrev pub least_angle : ℕ
least_angle = 5

abbrev pub default_angle : ℕ
default_angle = 50

-- once round
abbrev pub whole_turn : ℕ
whole_turn = 3600

-- ---- a number "is kept in ten-thousandths": what one and a tenth are in them

abbrev pub one : ℕ
one = 10000

abbrev pub tenth : ℕ
tenth = 1000
