-- At which place of the list each row begins: three rows of the reader, then one after the other. A row that comes between moves those after it, and nothing else.
use Rattle.std.specs.Prelude.{ℕ, ◌+◌}

-- ---- the settings

abbrev pub limits_place : ℕ
limits_place = 15

abbrev pub corners_place : ℕ
corners_place = limits_place + 5

abbrev pub scale_place : ℕ
scale_place = corners_place + 5

abbrev pub window_place : ℕ
window_place = scale_place + 5

-- ---- the carriage

abbrev pub position_place : ℕ
position_place = window_place + 5

abbrev pub pen_place : ℕ
pen_place = position_place + 5

abbrev pub polygon_place : ℕ
polygon_place = pen_place + 5

-- the first point of the polygon, and what PM0 keeps

abbrev pub first_place : ℕ
first_place = polygon_place + 5

abbrev pub saved_place : ℕ
saved_place = first_place + 5

-- what the carriage remembers

abbrev pub memory_place : ℕ
memory_place = saved_place + 5

-- ---- the work, its circle on each axis, and where that starts and how far it goes; a reply, and in the second row how many numbers it has

abbrev pub work_place : ℕ
work_place = memory_place + 5

abbrev pub across_place : ℕ
across_place = work_place + 5

abbrev pub along_place : ℕ
along_place = across_place + 5

abbrev pub start_place : ℕ
start_place = along_place + 5

-- ---- the edges, to the end of the list

abbrev pub edges_place : ℕ
edges_place = start_place + 5
