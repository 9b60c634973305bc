-- What each instruction does: the new core, the action, 01's number. One definition for each rule of document 01, in its order, and then of document 02.
-- Nothing here looks at the store or at the waiting work, and a refusal leaves the core as it is; what is remembered of it comes after the rule (`noted`). Pages are those
-- of the DraftPro manual (source document 001).
use Rattle.std.specs.Prelude.{ℕ, ◌+◌, Bool, true, false, cond, not, ◌&&◌, leb, ltb, eqb, ℤ, pos, neg_ℤ, nat_abs, ◌+ℤ◌, ◌-ℤ◌}
use Rattle.exact.specs.Whole.{◌≡?◌, ◌≤?◌}
unfoldable pub use Rattle.exact.specs.Int16.{int16}
use Rattle.exact.specs.Divide.{nearest_div}
use Rattle.clip.specs.declared.Point.{Point}
use Rattle.clip.specs.declared.Rect.{Rect}
use Rattle.reader.specs.declared.Coordinates.{Coordinates}
use Rattle.reader.specs.declared.Numbers.{Numbers}
use Rattle.reader.specs.declared.Event.{Event}
use Rattle.reader.specs.declared.Event.TheVariants.{Nothing, Named, Pair, Ended, Refused}
use Rattle.mnemonics.specs.Table.{IN, DF, EP, IP, SC, IW, RO, SP, PM, CI, EA, ER, PU, PD, PA, PR, AA, AR, OA, OP, OW, OH, OE, known_in_polygon}
use Rattle.turns.specs.Turn.{turn_count, upright, find_turn, turned_back_of, ordered_of}
use Rattle.plane.specs.Bounds.{most_angle}
use Rattle.plane.specs.Circle.{centre_of, point_from_centre}
use Rattle.plane.specs.Arc.{way_of, way_fits, arc_fits}
use Rattle.plane.specs.declared.circle.Way.{Way}
use Rattle.hpgl.specs.declared.Position.{Position}
use Rattle.hpgl.specs.declared.Scale.{Scale}
use Rattle.hpgl.specs.declared.Window.{Window}
use Rattle.hpgl.specs.declared.Settings.{Settings}
use Rattle.hpgl.specs.declared.Pen.{Pen}
use Rattle.hpgl.specs.declared.Polygon.{Polygon}
use Rattle.hpgl.specs.declared.Carriage.{Carriage}
use Rattle.hpgl.specs.declared.Core.{Core}
use Rattle.hpgl.specs.declared.Circle.{Circle}
use Rattle.hpgl.specs.declared.Action.{Action}
use Rattle.hpgl.specs.declared.Action.TheVariants.{Keep, Line, Chords, Join, Outline, Rectangle, Answer}
use Rattle.hpgl.specs.declared.Acted.{Acted}
use Rattle.hpgl.specs.Numbers.{unknown, out_of_range, too_far, polygon_full, polygon_bytes, mode_bytes, point_bytes, pen_bytes, rectangle_bytes, most_pen, least_angle, default_angle, tenth, whole_turn}
use Rattle.hpgl.specs.Place.{point, rounded, axis_x, axis_y, location, in_range, absolute_position, relative_position, rest_at, page_point}
use Rattle.hpgl.specs.Replies.{place_told, corners_told, window_told, limits_told, refusal_told, no_memory, remembering}
use Rattle.hpgl.specs.Change.{with_position, with_pen, with_relative, with_polygon, with_memory, with_settings, with_carriage, with_corners, with_scale, with_turn, with_window}

-- carried out
unfoldable pub done : Core → Action → Acted
done c a = record { core = c; action = a; number = 0 }

-- refused with a number: settings, position and polygon are left
unfoldable pub refuse : Core → ℕ → Acted
refuse c n = record { core = c; action = Keep; number = n }

-- ---- Fresh

abbrev pub origin : Point
origin = point (pos 0) (pos 0)

abbrev pub unscaled : Scale
unscaled = record { on = false; x = record { min = pos 0; max = pos 0 }; y = record { min = pos 0; max = pos 0 } }

abbrev pub no_window : Window
no_window = record { set = false; area = record { left = pos 0; bottom = pos 0; right = pos 0; top = pos 0 } }

-- "P1 left-bottom, P2 right-top, scaling off, RO 0, no window"
unfoldable pub fresh_settings : Rect → Settings
fresh_settings r = record {
  hard = r;
  p1 = point r.left r.bottom;
  p2 = point r.right r.top;
  scale = unscaled;
  turn = upright;
  window = no_window;
}

-- "polygon empty"
unfoldable pub no_polygon : Polygon
no_polygon = record {
  mode = false;
  bytes = 0;
  edges = 0;
  empty = true;
  first = rest_at origin;
  saved = record { position = rest_at origin; relative = false; down = false };
}

-- "pen up, absolute mode, polygon empty", at a page point (turn 0) and with a pen; for OE no refusal "since fresh, IN"
unfoldable pub fresh_carriage : Point → ℕ → Carriage
fresh_carriage p n = record {
  position = rest_at p;
  pen = record { number = n; down = false; changed = false };
  relative = false;
  polygon = no_polygon;
  memory = no_memory;
}

-- "page point (0,0), pen 0"
unfoldable pub fresh_core : Rect → Core
fresh_core r = record { settings = fresh_settings r; carriage = fresh_carriage origin 0 }

-- ---- Names

-- "PU, PD, PA, PR set pen or mode on their second letter." (Pages 4-14, 4-10, 4-8, 4-12.) A pen that changes is marked till the first pair: see point_cost
unfoldable pub letters : Carriage → ℕ → Carriage
letters k op =
    cond (eqb op PU) (with_pen k (record { number = k.pen.number; down = false; changed = k.pen.down }))
    (cond (eqb op PD) (with_pen k (record { number = k.pen.number; down = true; changed = not k.pen.down }))
    (cond (eqb op PA) (with_relative (with_pen k (record { number = k.pen.number; down = k.pen.down; changed = false })) false)
    (cond (eqb op PR) (with_relative (with_pen k (record { number = k.pen.number; down = k.pen.down; changed = false })) true)
    k)))

-- "There only PU, PD, PA, PR, PM, IN are known"; of document 02's, CR 5, each "works in polygon mode too"
unfoldable pub name_rule : Core → ℕ → Acted
name_rule c op =
    cond (c.carriage.polygon.mode && not (known_in_polygon op)) (refuse c unknown) (done (with_carriage c (letters c.carriage op)) Keep)

-- ---- Settings

-- "When IN, DF, IP, SC or RO is carried out, B becomes the location and O 0": the location under the new settings of the page point, which stays
unfoldable pub rebased : Core → Settings → Core
rebased c s = record {
  settings = s;
  carriage = with_position c.carriage (rest_at (turned_back_of (page_point c.settings c.carriage.position) s.turn));
}

-- "IN: all as fresh, but page point and pen number stay" (page 3-11)
unfoldable pub in_rule : Core → Acted
in_rule c =
    done
    (record {
      settings = fresh_settings c.settings.hard;
      carriage = fresh_carriage (page_point c.settings c.carriage.position) c.carriage.pen.number;
    })
    Keep

-- "DF: scaling off, no window, absolute mode" (page 3-8)
unfoldable pub df_rule : Core → Acted
df_rule c =
    done
    (rebased (with_carriage c (with_relative c.carriage false)) (with_window (with_scale c.settings unscaled) no_window))
    Keep

-- "P1 and P2 must be within −32768 to 32767 and differ in x and in y"
unfoldable pub good_corners : Point → Point → Bool
good_corners p q =
    int16 p.x && int16 p.y && int16 q.x && int16 q.y && not (p.x ≡? q.x) && not (p.y ≡? q.y)

unfoldable pub set_corners : Core → Point → Point → Acted
set_corners c p q = cond (good_corners p q) (done (rebased c (with_corners c.settings p q)) Keep) (refuse c out_of_range)

-- P2 at its distance from P1, for a new P1
unfoldable pub carried : Settings → Point → Point
carried s p = point (p.x +ℤ (s.p2.x -ℤ s.p1.x)) (p.y +ℤ (s.p2.y -ℤ s.p1.y))

-- "IP: none, as fresh; two, P1, and P2 keeps its distance; four, both" (page 3-12)
unfoldable pub ip_rule : Core → Numbers → Acted
ip_rule c n =
    cond (eqb n.count 0) (set_corners c (fresh_settings c.settings.hard).p1 (fresh_settings c.settings.hard).p2)
    (cond (eqb n.count 2)
    (set_corners c (point (rounded n.first) (rounded n.second)) (carried c.settings (point (rounded n.first) (rounded n.second))))
    (set_corners c (point (rounded n.first) (rounded n.second)) (point (rounded n.third) (rounded n.fourth))))

-- "SC: xmin, xmax, ymin, ymax; min and max must differ; none, off" (page 3-14)
unfoldable pub sc_rule : Core → Numbers → Acted
sc_rule c n =
    cond (eqb n.count 0) (done (rebased c (with_scale c.settings unscaled)) Keep)
    (cond (n.first ≡? n.second) (refuse c out_of_range)
    (cond (n.third ≡? n.fourth) (refuse c out_of_range)
    (done
    (rebased c
    (with_scale c.settings
    (record { on = true; x = record { min = n.first; max = n.second }; y = record { min = n.third; max = n.fourth } })))
    Keep)))

unfoldable pub set_turn : Core → ℕ → Acted
set_turn c t = done (rebased c (with_turn c.settings t)) Keep

-- a number of degrees is looked up in the table of turns: "RO with other values remains 3" (document 02, CR 3)
unfoldable pub turn_to : Core → ℤ → Acted
turn_to c z = cond (ltb (find_turn z) turn_count) (set_turn c (find_turn z)) (refuse c out_of_range)

-- "RO: 0 or 90; none is 0" (page 10-14); "RO180 and RO270" (document 02, CR 3)
unfoldable pub ro_rule : Core → Numbers → Acted
ro_rule c n = cond (eqb n.count 0) (turn_to c (pos 0)) (turn_to c (rounded n.first))

unfoldable pub set_window : Core → Point → Point → Acted
set_window c p q =
    cond (in_range p && in_range q) (done (with_settings c (with_window c.settings (record { set = true; area = ordered_of p q }))) Keep)
    (refuse c out_of_range)

-- "IW: two corners in current units, in absolute sense, rounded, each within ±1,000,000 or 3, and put in order; none removes it" (page 10-9)
unfoldable pub iw_rule : Core → Numbers → Acted
iw_rule c n =
    cond (eqb n.count 0) (done (with_settings c (with_window c.settings no_window)) Keep)
    (set_window c
    (location c.settings (absolute_position c.settings (record { x = n.first; y = n.second })))
    (location c.settings (absolute_position c.settings (record { x = n.third; y = n.fourth }))))

unfoldable pub set_pen : Core → ℕ → Acted
set_pen c n =
    done (with_carriage c (with_pen c.carriage (record { number = n; down = c.carriage.pen.down; changed = c.carriage.pen.changed }))) Keep

-- "SP: 0 to 8; none is 0" (page 4-16)
unfoldable pub sp_rule : Core → Numbers → Acted
sp_rule c n =
    cond (eqb n.count 0) (set_pen c 0)
    (cond ((pos 0 ≤? rounded n.first) && (rounded n.first ≤? pos most_pen)) (set_pen c (nat_abs (rounded n.first)))
    (refuse c out_of_range))

-- ---- Strokes

-- whether the pen paints: its number is not 0
unfoldable pub inked : Core → Bool
inked c = not (eqb c.carriage.pen.number 0)

-- the pen's mark is spent by a pair
abbrev pub spent : Pen → Pen
spent p = record { number = p.number; down = p.down; changed = false }

-- "With pen down and pen not 0, each move queues one segment."
unfoldable pub move_to : Core → Position → Acted
move_to c p =
    done (with_carriage c (with_position (with_pen c.carriage (spent c.carriage.pen)) p))
    (cond (c.carriage.pen.down && inked c) (Line (page_point c.settings c.carriage.position) (page_point c.settings p)) Keep)

-- "9 for each point, 2 when the point is the first of a PU or PD that itself changed the pen"
unfoldable pub point_cost : Pen → ℕ
point_cost p = cond p.changed (point_bytes + pen_bytes) point_bytes

-- the polygon with one point more, at p
unfoldable pub longer : Polygon → ℕ → Position → Polygon
longer g n p = record {
  mode = g.mode;
  bytes = g.bytes + n;
  edges = cond g.empty g.edges (g.edges + 1);
  empty = false;
  first = cond g.empty p g.first;
  saved = g.saved;
}

-- an edge from the current position to p, reached with the pen as it is
unfoldable pub edge_to : Core → Position → Action
edge_to c p =
    Join (record { from = location c.settings c.carriage.position; to = location c.settings p; down = c.carriage.pen.down })

-- "moves store points and draw nothing"; the first point of a subpolygon makes no edge
unfoldable pub store_point : Core → Position → Acted
store_point c p =
    cond (leb (c.carriage.polygon.bytes + point_cost c.carriage.pen) polygon_bytes)
    (done
    (with_carriage c
    (with_polygon (with_position (with_pen c.carriage (spent c.carriage.pen)) p)
    (longer c.carriage.polygon (point_cost c.carriage.pen) p)))
    (cond c.carriage.polygon.empty Keep (edge_to c p)))
    (refuse c polygon_full)

-- a pair's position, by the mode
unfoldable pub aimed : Core → Coordinates → Position
aimed c n = cond c.carriage.relative (relative_position c.carriage.position n) (absolute_position c.settings n)

unfoldable pub go_to : Core → Position → Acted
go_to c p = cond (in_range (location c.settings p)) (cond c.carriage.polygon.mode (store_point c p) (move_to c p)) (refuse c too_far)

-- "A pair of the last four is carried out on the byte that ends its second number" (PA, PD, PR, PU: pages 4-8, 4-10, 4-12, 4-14)
unfoldable pub pair_rule : Core → Coordinates → Acted
pair_rule c n = go_to c (aimed c n)

-- ---- Rectangles and polygons

-- "PM0 or PM empties the polygon, stores the current point, enters polygon mode"
unfoldable pub begun : Carriage → Polygon
begun k = record {
  mode = true;
  bytes = mode_bytes + point_bytes;
  edges = 0;
  empty = false;
  first = k.position;
  saved = record { position = k.position; relative = k.relative; down = k.pen.down };
}

unfoldable pub pm0 : Core → Acted
pm0 c = cond c.carriage.polygon.mode (refuse c out_of_range) (done (with_carriage c (with_polygon c.carriage (begun c.carriage))) Keep)

-- "first adding its first point if the last differs in location (to an empty one nothing is added)"; the last is the current position
unfoldable pub differ : Point → Point → Bool
differ p q = not ((p.x ≡? q.x) && (p.y ≡? q.y))

unfoldable pub closes : Core → Bool
closes c =
    not c.carriage.polygon.empty &&
    differ (location c.settings c.carriage.position) (location c.settings c.carriage.polygon.first)

-- the subpolygon is ended: n bytes and k edges more; mode says whether polygon mode goes on
unfoldable pub ended_with : Polygon → Bool → ℕ → ℕ → Polygon
ended_with g mode n k = record { mode = mode; bytes = g.bytes + n; edges = g.edges + k; empty = true; first = g.first; saved = g.saved }

-- "then the pen is up"
abbrev pub lifted : Pen → Pen
lifted p = record { number = p.number; down = false; changed = false }

-- PM1 with n bytes and k edges more, at p
unfoldable pub ended : Core → ℕ → ℕ → Position → Core
ended c n k p =
    with_carriage c (with_polygon (with_position (with_pen c.carriage (lifted c.carriage.pen)) p) (ended_with c.carriage.polygon true n k))

-- "PM1 with its added point is refused together"; "the exact position moving to that point"
unfoldable pub pm1_in : Core → Acted
pm1_in c =
    cond (closes c)
    (cond (leb (c.carriage.polygon.bytes + (mode_bytes + point_bytes)) polygon_bytes)
    (done (ended c (mode_bytes + point_bytes) 1 c.carriage.polygon.first) (edge_to c c.carriage.polygon.first))
    (refuse c polygon_full))
    (cond (leb (c.carriage.polygon.bytes + mode_bytes) polygon_bytes) (done (ended c mode_bytes 0 c.carriage.position) Keep)
    (refuse c polygon_full))

unfoldable pub pm1 : Core → Acted
pm1 c = cond c.carriage.polygon.mode (pm1_in c) (refuse c out_of_range)

-- "PM2 closes likewise, leaves the mode, restores position, mode and pen of PM0": with n bytes and k edges more
unfoldable pub leave : Core → ℕ → ℕ → Core
leave c n k =
    with_carriage c (record {
      position = c.carriage.polygon.saved.position;
      pen = record { number = c.carriage.pen.number; down = c.carriage.polygon.saved.down; changed = false };
      relative = c.carriage.polygon.saved.relative;
      polygon = ended_with c.carriage.polygon false n k;
      memory = c.carriage.memory;
    })

-- "polygon bytes 7: same, but PM2 still ends, open"
unfoldable pub pm2_in : Core → Acted
pm2_in c =
    cond (closes c)
    (cond (leb (c.carriage.polygon.bytes + point_bytes) polygon_bytes)
    (done (leave c point_bytes 1) (edge_to c c.carriage.polygon.first))
    (refuse (leave c 0 0) polygon_full))
    (done (leave c 0 0) Keep)

unfoldable pub pm2 : Core → Acted
pm2 c = cond c.carriage.polygon.mode (pm2_in c) (refuse c out_of_range)

-- "PM1 or PM2 outside, PM0 inside: 3", and so is any other number (page 6-14)
unfoldable pub pm_rule : Core → Numbers → Acted
pm_rule c n =
    cond (eqb n.count 0) (pm0 c)
    (cond (rounded n.first ≡? pos 0) (pm0 c)
    (cond (rounded n.first ≡? pos 1) (pm1 c)
    (cond (rounded n.first ≡? pos 2) (pm2 c)
    (refuse c out_of_range))))

-- "EP, with pen up or down, queues, for each two neighbours of a subpolygon, a segment"; "Pen 0 queues nothing" (page 6-9)
unfoldable pub ep_rule : Core → Acted
ep_rule c = done c (cond (inked c) Outline Keep)

-- "replace the polygon by five points .. 49 bytes by definition"
unfoldable pub rectangular : Polygon → Polygon
rectangular g = record { mode = false; bytes = rectangle_bytes; edges = 4; empty = true; first = g.first; saved = g.saved }

-- "EA and ER (absolute, relative corner) replace the polygon by five points, first along x, all pen down, and act as EP. Position stays."
unfoldable pub rectangle_to : Core → Position → Acted
rectangle_to c p =
    cond (in_range (location c.settings p))
    (done (with_carriage c (with_polygon c.carriage (rectangular c.carriage.polygon)))
    (Rectangle (location c.settings c.carriage.position) (location c.settings p) (inked c)))
    (refuse c too_far)

abbrev pub first_two : Numbers → Coordinates
first_two n = record { x = n.first; y = n.second }

-- the corner in absolute sense (page 5-16)
unfoldable pub ea_rule : Core → Numbers → Acted
ea_rule c n = rectangle_to c (absolute_position c.settings (first_two n))

-- the corner in relative sense (page 5-18)
unfoldable pub er_rule : Core → Numbers → Acted
er_rule c n = rectangle_to c (relative_position c.carriage.position (first_two n))

-- ---- Circles

-- "The four points at 0, 90, 180, 270 degrees must be in range." They are the vertices at these angles: `point-90` and its like in CircleLaws.antt of plane
unfoldable pub circle_fits : Core → ℤ → Bool
circle_fits c r =
    in_range (location c.settings (relative_position c.carriage.position (record { x = r; y = pos 0 }))) &&
    in_range (location c.settings (relative_position c.carriage.position (record { x = pos 0; y = r }))) &&
    in_range (location c.settings (relative_position c.carriage.position (record { x = neg_ℤ r; y = pos 0 }))) &&
    in_range (location c.settings (relative_position c.carriage.position (record { x = pos 0; y = neg_ℤ r })))

-- "A vertex adds radius × cosine and radius × sine to O": the way (radius, 0) from the current position, turned; once round, from the point at 0 degrees
unfoldable pub circle : Core → ℤ → ℕ → Circle
circle c r a = record {
  x = centre_of (axis_x c.settings) c.carriage.position.x;
  y = centre_of (axis_y c.settings) c.carriage.position.y;
  radius = record { u = r; v = pos 0 };
  angle = a;
  start = location c.settings (relative_position c.carriage.position (record { x = r; y = pos 0 }));
  sweep = pos whole_turn;
}

-- "the angle in tenths of a degree, rounded, 5 to 1200, default 50": z is what was given for it, if anything was
abbrev pub good_angle : ℤ → Bool
good_angle a = (pos least_angle ≤? a) && (a ≤? pos most_angle)

abbrev pub angle_or : Bool → ℤ → ℤ
angle_or absent z = cond absent (pos default_angle) (nearest_div z (pos tenth))

-- "It is drawn also when the pen is up; position and pen stay."
unfoldable pub circle_with : Core → ℤ → ℤ → Acted
circle_with c r a =
    cond (good_angle a)
    (cond (circle_fits c r) (done c (cond (inked c) (Chords (circle c r (nat_abs a))) Keep)) (refuse c too_far))
    (refuse c out_of_range)

unfoldable pub chord_angle : Numbers → ℤ
chord_angle n = angle_or (eqb n.count 1) n.second

-- "CI radius, chord angle" (page 5-12)
unfoldable pub ci_rule : Core → Numbers → Acted
ci_rule c n = circle_with c n.first (chord_angle n)

-- ---- Arcs: document 02, "Arcs for the goal creases"

-- "The swept angle is rounded to tenths of a degree"
unfoldable pub swept_angle : Numbers → ℤ
swept_angle n = nearest_div n.third (pos tenth)

-- "−3600 to 3600 without 0, else 3"
unfoldable pub good_sweep : ℤ → Bool
good_sweep s = (neg_ℤ (pos whole_turn) ≤? s) && (s ≤? pos whole_turn) && not (s ≡? pos 0)

-- "optional chord angle, as for CI; three or four numbers"
unfoldable pub arc_angle : Numbers → ℤ
arc_angle n = angle_or (eqb n.count 3) n.fourth

-- "The way from centre to current point is taken per axis in current units, rounded to ten-thousandths": from the centre q
unfoldable pub way_from : Core → Position → Way
way_from c q = record {
  u = way_of (axis_x c.settings) c.carriage.position.x q.x;
  v = way_of (axis_y c.settings) c.carriage.position.y q.y;
}

-- "The arc starts at the current exact position. Each later vertex is the centre plus that way turned": about q, through the sweep s, by the chord angle a
unfoldable pub arc : Core → Position → ℤ → ℕ → Circle
arc c q s a = record {
  x = centre_of (axis_x c.settings) q.x;
  y = centre_of (axis_y c.settings) q.y;
  radius = way_from c q;
  angle = a;
  start = location c.settings c.carriage.position;
  sweep = s;
}

-- "at the last by the swept angle itself"
unfoldable pub last_vertex : Circle → Point
last_vertex o = point_from_centre o.x o.y o.radius o.sweep

-- "The pen stays as it is. The position afterwards is the last vertex, kept as its location with offset 0"; "each chord .. being a move": with pen down and pen not 0
unfoldable pub follow : Core → Circle → Acted
follow c o =
    done (with_carriage c (with_position c.carriage (rest_at (last_vertex o))))
    (cond (c.carriage.pen.down && inked c) (Chords o) Keep)

-- "more than 32768 units either way is 3"; "A vertex out of range refuses the arc with 6 before drawing"
unfoldable pub arc_by : Core → Circle → Acted
arc_by c o =
    cond (way_fits o.radius) (cond (arc_fits o.x o.y o.radius o.sweep o.angle) (follow c o) (refuse c too_far))
    (refuse c out_of_range)

unfoldable pub arc_about : Core → Position → Numbers → Acted
arc_about c q n =
    cond (good_sweep (swept_angle n)) (cond (good_angle (arc_angle n)) (arc_by c (arc c q (swept_angle n) (nat_abs (arc_angle n)))) (refuse c out_of_range))
    (refuse c out_of_range)

-- "centre (absolute or relative)" (AA page 5-8, AR page 5-10)
unfoldable pub aa_rule : Core → Numbers → Acted
aa_rule c n = arc_about c (absolute_position c.settings (first_two n)) n

unfoldable pub ar_rule : Core → Numbers → Acted
ar_rule c n = arc_about c (relative_position c.carriage.position (first_two n)) n

-- ---- Replies: document 02, "Replies for the designers' packages"

-- "The reply is made when its instruction is carried out"; nothing else changes
unfoldable pub oa_rule : Core → Acted
oa_rule c = done c (Answer (place_told c))

unfoldable pub op_rule : Core → Acted
op_rule c = done c (Answer (corners_told c))

unfoldable pub ow_rule : Core → Acted
ow_rule c = done c (Answer (window_told c))

unfoldable pub oh_rule : Core → Acted
oh_rule c = done c (Answer (limits_told c))

-- "0 if none since fresh, IN or OE": what it tells is forgotten
unfoldable pub oe_rule : Core → Acted
oe_rule c = done (with_carriage c (with_memory c.carriage no_memory)) (Answer (refusal_told c))

-- "the latest 1, 2, 3, 6 or 7 that take gave": after every rule, its number is remembered
unfoldable pub noting : ℕ → Core → Core
noting k c = with_carriage c (with_memory c.carriage (remembering k c.carriage.memory))

unfoldable pub noted : Acted → Acted
noted t = record { core = noting t.number t.core; action = t.action; number = t.number }

-- ---- every event

-- an instruction ends: "the others on the byte that ends the instruction". PU, PD, PA, PR have done their work
unfoldable pub end_rule : Core → ℕ → Numbers → Acted
end_rule c op n =
    cond (eqb op IN) (in_rule c)
    (cond (eqb op DF) (df_rule c)
    (cond (eqb op EP) (ep_rule c)
    (cond (eqb op IP) (ip_rule c n)
    (cond (eqb op SC) (sc_rule c n)
    (cond (eqb op IW) (iw_rule c n)
    (cond (eqb op RO) (ro_rule c n)
    (cond (eqb op SP) (sp_rule c n)
    (cond (eqb op PM) (pm_rule c n)
    (cond (eqb op CI) (ci_rule c n)
    (cond (eqb op EA) (ea_rule c n)
    (cond (eqb op ER) (er_rule c n)
    (cond (eqb op AA) (aa_rule c n)
    (cond (eqb op AR) (ar_rule c n)
    (cond (eqb op OA) (oa_rule c)
    (cond (eqb op OP) (op_rule c)
    (cond (eqb op OW) (ow_rule c)
    (cond (eqb op OH) (oh_rule c)
    (cond (eqb op OE) (oe_rule c)
    (done c Keep)))))))))))))))))))

unfoldable pub act_on : Core → Event → Acted
act_on c Nothing = done c Keep
act_on c (Named op) = name_rule c op
act_on c (Pair n) = pair_rule c n
act_on c (Ended op n) = end_rule c op n
act_on c (Refused k) = refuse c k
