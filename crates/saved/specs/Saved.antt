-- Which number of a list stands for which part of a machine: rows of five, each with its place (Places.antt).
use Rattle.std.specs.Prelude.{ℕ, zero, suc, ◌+◌, ◌*◌, Bool, cond, List, [], ◌∷◌, eqb, ℤ, pos}
use Rattle.rows.specs.declared.Row.{Row}
use Rattle.rows.specs.Rows.{row, lay, row_at, flag_number, flag_of, place_number, small_of, most_byte, most_short}
use Rattle.clip.specs.declared.Point.{Point}
use Rattle.clip.specs.declared.Rect.{Rect}
use Rattle.plane.specs.declared.circle.Centre.{Centre}
use Rattle.plane.specs.declared.circle.Way.{Way}
use Rattle.saved.specs.Places.{limits_place, corners_place, scale_place, window_place, position_place, pen_place, polygon_place, first_place, saved_place, memory_place, work_place, across_place, along_place, start_place, edges_place}
use Rattle.saved.specs.SavedReader.{reader_then, reader_at}
use Rattle.hpgl.specs.declared.Position.{Position}
use Rattle.hpgl.specs.declared.Range.{Range}
use Rattle.hpgl.specs.declared.Scale.{Scale}
use Rattle.hpgl.specs.declared.Window.{Window}
use Rattle.hpgl.specs.declared.Settings.{Settings}
use Rattle.hpgl.specs.declared.Pen.{Pen}
use Rattle.hpgl.specs.declared.Saved.{Saved}
use Rattle.hpgl.specs.declared.Polygon.{Polygon}
use Rattle.hpgl.specs.declared.Memory.{Memory}
use Rattle.hpgl.specs.declared.Carriage.{Carriage}
use Rattle.hpgl.specs.declared.Edge.{Edge}
use Rattle.hpgl.specs.declared.Circle.{Circle}
use Rattle.hpgl.specs.declared.Reply.{Reply}
use Rattle.hpgl.specs.declared.Store.{Store}
use Rattle.hpgl.specs.declared.Work.{Work}
use Rattle.hpgl.specs.declared.Work.TheVariants.{Nothing, Line, Chords, Edges, Answer}
use Rattle.hpgl.specs.declared.State.{State}
use Rattle.hpgl.specs.Numbers.{most_edges}

-- a row for each edge comes last
abbrev pub state_numbers : ℕ
state_numbers = edges_place + most_edges * 5

-- ---- what a row may end with

unfoldable pub flag_in : Row → Bool
flag_in r = flag_of r.e

unfoldable pub small_in : Row → ℕ
small_in r = small_of most_byte r.e

-- ---- the settings

unfoldable pub limits_row : Rect → ℕ → Row
limits_row r turn = row r.left r.bottom r.right r.top (place_number turn)

unfoldable pub corners_row : Point → Point → Row
corners_row p q = row p.x p.y q.x q.y (pos 0)

unfoldable pub scale_row : Scale → Row
scale_row s = row s.x.min s.x.max s.y.min s.y.max (flag_number s.on)

unfoldable pub window_row : Window → Row
window_row w = row w.area.left w.area.bottom w.area.right w.area.top (flag_number w.set)

unfoldable pub box_of : Row → Rect
box_of r = record { left = r.a; bottom = r.b; right = r.c; top = r.d }

unfoldable pub from_of : Row → Point
from_of r = record { x = r.a; y = r.b }

unfoldable pub to_of : Row → Point
to_of r = record { x = r.c; y = r.d }

unfoldable pub range_x : Row → Range
range_x r = record { min = r.a; max = r.b }

unfoldable pub range_y : Row → Range
range_y r = record { min = r.c; max = r.d }

abbrev pub settings_then : Settings → List ℤ → List ℤ
settings_then s zs = lay (limits_row s.hard s.turn) (lay (corners_row s.p1 s.p2) (lay (scale_row s.scale) (lay (window_row s.window) zs)))

unfoldable pub settings_numbers : Settings → List ℤ
settings_numbers s = settings_then s []

unfoldable pub settings_of : Row → Row → Row → Row → Settings
settings_of limits corners scale window = record {
  hard = box_of limits;
  p1 = from_of corners;
  p2 = to_of corners;
  scale = record { on = flag_in scale; x = range_x scale; y = range_y scale };
  turn = small_in limits;
  window = record { set = flag_in window; area = box_of window };
}

unfoldable pub settings_at : List ℤ → Settings
settings_at zs = settings_of (row_at zs limits_place) (row_at zs corners_place) (row_at zs scale_place) (row_at zs window_place)

-- ---- the carriage

unfoldable pub position_row : Position → Bool → Row
position_row p on = row p.x.base p.x.offset p.y.base p.y.offset (flag_number on)

unfoldable pub pen_row : Pen → Row
pen_row p = row (pos p.number) (flag_number p.down) (flag_number p.changed) (pos 0) (pos 0)

unfoldable pub polygon_row : Polygon → Row
polygon_row g = row (flag_number g.mode) (pos g.bytes) (pos g.edges) (flag_number g.saved.down) (pos 0)

unfoldable pub memory_row : Memory → Row
memory_row n = row (pos n.refusal) (pos 0) (pos 0) (pos 0) (pos 0)

unfoldable pub position_of : Row → Position
position_of r = record { x = record { base = r.a; offset = r.b }; y = record { base = r.c; offset = r.d } }

unfoldable pub pen_of : Row → Pen
pen_of r = record { number = small_of most_byte r.a; down = flag_of r.b; changed = flag_of r.c }

unfoldable pub pm0_of : Row → Row → Saved
pm0_of r position = record { position = position_of position; relative = flag_in position; down = flag_of r.d }

unfoldable pub polygon_of : Row → Row → Row → Polygon
polygon_of r first saved = record {
  mode = flag_of r.a;
  bytes = small_of most_short r.b;
  edges = small_of most_byte r.c;
  empty = flag_in first;
  first = position_of first;
  saved = pm0_of r saved;
}

unfoldable pub memory_of : Row → Memory
memory_of r = record { refusal = small_of most_byte r.a }

abbrev pub carriage_then : Carriage → List ℤ → List ℤ
carriage_then c zs =
    lay (position_row c.position c.relative)
    (lay (pen_row c.pen)
    (lay (polygon_row c.polygon)
    (lay (position_row c.polygon.first c.polygon.empty)
    (lay (position_row c.polygon.saved.position c.polygon.saved.relative)
    (lay (memory_row c.memory)
    zs)))))

unfoldable pub carriage_numbers : Carriage → List ℤ
carriage_numbers c = carriage_then c []

unfoldable pub carriage_of : Row → Row → Row → Row → Row → Row → Carriage
carriage_of place pen polygon first saved memory = record {
  position = position_of place;
  pen = pen_of pen;
  relative = flag_in place;
  polygon = polygon_of polygon first saved;
  memory = memory_of memory;
}

unfoldable pub carriage_at : List ℤ → Carriage
carriage_at zs = carriage_of (row_at zs position_place) (row_at zs pen_place) (row_at zs polygon_place) (row_at zs first_place) (row_at zs saved_place) (row_at zs memory_place)

-- ---- the work: a row that ends with what it is, the circle on each axis, and its start and sweep; of a reply its numbers, and how many they are

unfoldable pub blank_row : Row
blank_row = row (pos 0) (pos 0) (pos 0) (pos 0) (pos 0)

unfoldable pub line_row : Point → Point → Row
line_row p q = row p.x p.y q.x q.y (pos 1)

unfoldable pub chords_row : Circle → ℕ → ℕ → Row
chords_row o i n = row (pos i) (pos n) (pos o.angle) (pos 0) (pos 2)

unfoldable pub edges_row : ℕ → ℕ → Row
edges_row i n = row (pos i) (pos n) (pos 0) (pos 0) (pos 3)

unfoldable pub reply_row : Reply → Row
reply_row r = row r.first r.second r.third r.fourth (pos 4)

unfoldable pub count_row : Reply → Row
count_row r = row (pos r.count) (pos 0) (pos 0) (pos 0) (pos 0)

unfoldable pub across_row : Circle → Row
across_row o = row o.x.base o.x.part o.x.span o.x.width o.radius.u

unfoldable pub along_row : Circle → Row
along_row o = row o.y.base o.y.part o.y.span o.y.width o.radius.v

unfoldable pub start_row : Circle → Row
start_row o = row o.start.x o.start.y o.sweep (pos 0) (pos 0)

unfoldable pub work_row : Work → Row
work_row Nothing = blank_row
work_row (Line p q) = line_row p q
work_row (Chords o i n) = chords_row o i n
work_row (Edges i n) = edges_row i n
work_row (Answer r) = reply_row r

unfoldable pub work_across : Work → Row
work_across Nothing = blank_row
work_across (Line p q) = blank_row
work_across (Chords o i n) = across_row o
work_across (Edges i n) = blank_row
work_across (Answer r) = count_row r

unfoldable pub work_along : Work → Row
work_along Nothing = blank_row
work_along (Line p q) = blank_row
work_along (Chords o i n) = along_row o
work_along (Edges i n) = blank_row
work_along (Answer r) = blank_row

unfoldable pub work_start : Work → Row
work_start Nothing = blank_row
work_start (Line p q) = blank_row
work_start (Chords o i n) = start_row o
work_start (Edges i n) = blank_row
work_start (Answer r) = blank_row

abbrev pub work_then : Work → List ℤ → List ℤ
work_then w zs = lay (work_row w) (lay (work_across w) (lay (work_along w) (lay (work_start w) zs)))

unfoldable pub work_numbers : Work → List ℤ
work_numbers w = work_then w []

unfoldable pub centre_of : Row → Centre
centre_of r = record { base = r.a; part = r.b; span = r.c; width = r.d }

unfoldable pub way_of : Row → Row → Way
way_of across along = record { u = across.e; v = along.e }

unfoldable pub angle_in : Row → ℕ
angle_in r = small_of most_short r.c

unfoldable pub circle_of : Row → Row → Row → Row → Circle
circle_of r across along start = record {
  x = centre_of across;
  y = centre_of along;
  radius = way_of across along;
  angle = angle_in r;
  start = from_of start;
  sweep = start.c;
}

unfoldable pub reply_of : Row → Row → Reply
reply_of r across = record { count = small_of most_byte across.a; first = r.a; second = r.b; third = r.c; fourth = r.d }

unfoldable pub work_of : Row → Row → Row → Row → Work
work_of r across along start =
    cond (eqb (small_in r) 1) (Line (from_of r) (to_of r))
    (cond (eqb (small_in r) 2) (Chords (circle_of r across along start) (small_of most_short r.a) (small_of most_short r.b))
    (cond (eqb (small_in r) 3) (Edges (small_of most_byte r.a) (small_of most_byte r.b))
    (cond (eqb (small_in r) 4) (Answer (reply_of r across))
    Nothing)))

unfoldable pub work_at : List ℤ → Work
work_at zs = work_of (row_at zs work_place) (row_at zs across_place) (row_at zs along_place) (row_at zs start_place)

-- ---- the edges

unfoldable pub edge_row : Edge → Row
edge_row e = row e.from.x e.from.y e.to.x e.to.y (flag_number e.down)

unfoldable pub edges_numbers : List Edge → List ℤ
edges_numbers [] = []
edges_numbers (e ∷ es) = lay (edge_row e) (edges_numbers es)

unfoldable pub edge_of : Row → Edge
edge_of r = record { from = from_of r; to = to_of r; down = flag_in r }

-- n edges, from the place i on
unfoldable pub edges_from : List ℤ → ℕ → ℕ → List Edge
edges_from zs i zero = []
edges_from zs i (suc n) = edge_of (row_at zs i) ∷ edges_from zs (i + 5) n

unfoldable pub store_at : List ℤ → Store
store_at zs = record { edges = edges_from zs edges_place most_edges }

-- ---- the machine

unfoldable pub saved_of : State → List ℤ
saved_of m = reader_then m.reader (settings_then m.core.settings (carriage_then m.core.carriage (work_then m.work (edges_numbers m.store.edges))))

unfoldable pub loaded_of : List ℤ → State
loaded_of zs = record {
  reader = reader_at zs;
  core = record { settings = settings_at zs; carriage = carriage_at zs };
  store = store_at zs;
  work = work_at zs;
}
