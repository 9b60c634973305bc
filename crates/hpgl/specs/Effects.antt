-- Who may change what, and what it is set to (document 01, "Position", "Rectangles and polygons", "Causes and numbers"; document 02): a line for each thing that happens, with the
-- parts of the machine that it changes. All that a line does not name is as it was before. The rules (Rules.antt) are written once more here, by parts and not by steps;
-- EffectsProof.antt proves that both say the same of every machine that the calls make.
use Rattle.std.specs.Prelude.{Bool, true, false, cond, not, ◌&&◌, ◌||◌, ℕ, ◌+◌, ◌/◌, eqb, ℤ, pos, nat_abs, ◌+ℤ◌, ◌-ℤ◌}
use Rattle.exact.specs.Whole.{◌≡?◌}
use Rattle.clip.specs.declared.Point.{Point}
use Rattle.reader.specs.declared.Coordinates.{Coordinates}
use Rattle.reader.specs.declared.Numbers.{Numbers}
use Rattle.reader.specs.declared.Event.{Event}
use Rattle.reader.specs.declared.Event.TheVariants as event
use Rattle.mnemonics.specs.Table as code
use Rattle.turns.specs.Turn.{turned_back_of, ordered_of}
use Rattle.plane.specs.Circle.{vertex_point_of}
use Rattle.hpgl.specs.declared.Position.{Position}
use Rattle.hpgl.specs.declared.Scale.{Scale}
use Rattle.hpgl.specs.declared.Window.{Window}
use Rattle.hpgl.specs.declared.Polygon.{Polygon}
use Rattle.hpgl.specs.declared.Core.{Core}
use Rattle.hpgl.specs.Place.{point, rounded, axis_x, axis_y, location, absolute_position, relative_position, rest_at, page_point}
use Rattle.hpgl.specs.Rules.{unscaled, no_window, closes, swept_angle, way_from}
use Rattle.hpgl.specs.Instruction.{Instruction, IN, DF, EP, IP, SC, IW, RO, SP, PM, CI, EA, ER, AA, AR, OA, OP, OW, OH, OE, PU, PD, PA, PR}

-- ---- the parts, and how one is set. `c ▸ s` is c with the part that s names set as s says

infixl 20 ◌▸◌
abbrev pub ◌▸◌ : Core → (Core → Core) → Core
c ▸ s = s c

-- the pen: down or up; its number; whether the PU or PD that is read changed it and no pair came yet
abbrev pub pen_down : Bool → Core → Core
pen_down b c = record { settings = c.settings; carriage = record { position = c.carriage.position; pen = record { number = c.carriage.pen.number; down = b; changed = c.carriage.pen.changed }; relative = c.carriage.relative; polygon = c.carriage.polygon; memory = c.carriage.memory } }

abbrev pub pen_number : ℕ → Core → Core
pen_number k c = record { settings = c.settings; carriage = record { position = c.carriage.position; pen = record { number = k; down = c.carriage.pen.down; changed = c.carriage.pen.changed }; relative = c.carriage.relative; polygon = c.carriage.polygon; memory = c.carriage.memory } }

abbrev pub pen_changed : Bool → Core → Core
pen_changed b c = record { settings = c.settings; carriage = record { position = c.carriage.position; pen = record { number = c.carriage.pen.number; down = c.carriage.pen.down; changed = b }; relative = c.carriage.relative; polygon = c.carriage.polygon; memory = c.carriage.memory } }

-- relative or absolute mode
abbrev pub relative : Bool → Core → Core
relative b c = record { settings = c.settings; carriage = record { position = c.carriage.position; pen = c.carriage.pen; relative = b; polygon = c.carriage.polygon; memory = c.carriage.memory } }

-- B and O on both axes
abbrev pub position : Position → Core → Core
position p c = record { settings = c.settings; carriage = record { position = p; pen = c.carriage.pen; relative = c.carriage.relative; polygon = c.carriage.polygon; memory = c.carriage.memory } }

-- polygon mode and bytes. How the polygon is kept besides (g) is no matter of this page: condition 3 judges it by what EP draws, `pm2-ends` by what PM2 restores
abbrev pub polygon : Polygon → Bool → ℕ → Core → Core
polygon g on n c =
    record { settings = c.settings; carriage = record { position = c.carriage.position; pen = c.carriage.pen; relative = c.carriage.relative; polygon = record { mode = on; bytes = n; edges = g.edges; empty = g.empty; first = g.first; saved = g.saved }; memory = c.carriage.memory } }

-- the refusal that OE tells (document 02, CR 5)
abbrev pub refusal : ℕ → Core → Core
refusal k c = record { settings = c.settings; carriage = record { position = c.carriage.position; pen = c.carriage.pen; relative = c.carriage.relative; polygon = c.carriage.polygon; memory = record { refusal = k } } }

-- P1 and P2, scale, turn, window
abbrev pub corners : Point → Point → Core → Core
corners p q c = record { settings = record { hard = c.settings.hard; p1 = p; p2 = q; scale = c.settings.scale; turn = c.settings.turn; window = c.settings.window }; carriage = c.carriage }

abbrev pub scale : Scale → Core → Core
scale k c = record { settings = record { hard = c.settings.hard; p1 = c.settings.p1; p2 = c.settings.p2; scale = k; turn = c.settings.turn; window = c.settings.window }; carriage = c.carriage }

abbrev pub turn : ℕ → Core → Core
turn t c = record { settings = record { hard = c.settings.hard; p1 = c.settings.p1; p2 = c.settings.p2; scale = c.settings.scale; turn = t; window = c.settings.window }; carriage = c.carriage }

abbrev pub window : Window → Core → Core
window w c = record { settings = record { hard = c.settings.hard; p1 = c.settings.p1; p2 = c.settings.p2; scale = c.settings.scale; turn = c.settings.turn; window = w }; carriage = c.carriage }

-- ---- what the lines speak of

-- the number of RO, SP and PM: "rounded first"; none is 0
abbrev pub asked : Numbers → ℤ
asked n = cond (eqb n.count 0) (pos 0) (rounded n.first)

-- "B becomes the location and O 0"
abbrev pub at_rest : Core → Position
at_rest c = rest_at (location c.settings c.carriage.position)

-- the page point
abbrev pub page : Core → Point
page c = page_point c.settings c.carriage.position

-- where a pair leads: "Absolute mode sets B to P1 and O to number − min"; "Relative mode adds to O"
abbrev pub target : Core → Coordinates → Position
target c n = cond c.carriage.relative (relative_position c.carriage.position n) (absolute_position c.settings n)

-- IP's P1 and P2: "none, as fresh; two, P1, and P2 keeps its distance; four, both"; "rounded first"
abbrev pub new_p1 : Core → Numbers → Point
new_p1 c n = cond (eqb n.count 0) (point c.settings.hard.left c.settings.hard.bottom) (point (rounded n.first) (rounded n.second))

abbrev pub new_p2 : Core → Numbers → Point
new_p2 c n =
    cond (eqb n.count 0) (point c.settings.hard.right c.settings.hard.top)
    (cond (eqb n.count 2)
    (point (rounded n.first +ℤ (c.settings.p2.x -ℤ c.settings.p1.x)) (rounded n.second +ℤ (c.settings.p2.y -ℤ c.settings.p1.y)))
    (point (rounded n.third) (rounded n.fourth)))

-- SC: "xmin, xmax, ymin, ymax; .. none, off"
abbrev pub new_scale : Numbers → Scale
new_scale n =
    cond (eqb n.count 0) unscaled
    (record { on = true; x = record { min = n.first; max = n.second }; y = record { min = n.third; max = n.fourth } })

-- IW: "two corners in current units, in absolute sense, rounded, .. and put in order; none removes it"
abbrev pub first_corner : Core → Numbers → Point
first_corner c n = location c.settings (absolute_position c.settings (record { x = n.first; y = n.second }))

abbrev pub second_corner : Core → Numbers → Point
second_corner c n = location c.settings (absolute_position c.settings (record { x = n.third; y = n.fourth }))

abbrev pub new_window : Core → Numbers → Window
new_window c n = cond (eqb n.count 0) no_window (record { set = true; area = ordered_of (first_corner c n) (second_corner c n) })

-- AA's and AR's centre: "(absolute or relative)"; "The position afterwards is the last vertex, kept as its location with offset 0": that at the swept angle itself
abbrev pub centre_aa : Core → Numbers → Position
centre_aa c n = absolute_position c.settings (record { x = n.first; y = n.second })

abbrev pub centre_ar : Core → Numbers → Position
centre_ar c n = relative_position c.carriage.position (record { x = n.first; y = n.second })

abbrev pub arc_end : Core → Position → Numbers → Point
arc_end c q n = vertex_point_of (axis_x c.settings) (axis_y c.settings) q.x q.y (way_from c q) (swept_angle n)

-- bytes: "9 for each point, 2 when the point is the first of a PU or PD that itself changed the pen"; the point that closes a subpolygon
abbrev pub pair_bytes : Core → ℕ
pair_bytes c = cond c.carriage.pen.changed 11 9

abbrev pub closing_bytes : Core → ℕ
closing_bytes c = cond (closes c) 9 0

abbrev pub bytes : Core → ℕ
bytes c = c.carriage.polygon.bytes

-- ---- on the second letter of a name: "PU, PD, PA, PR set pen or mode"

abbrev pub at_name : ℕ → Core → Core
at_name op c =
    cond (eqb op code.PU) (c ▸ pen_down false ▸ pen_changed c.carriage.pen.down)
    (cond (eqb op code.PD) (c ▸ pen_down true ▸ pen_changed (not c.carriage.pen.down))
    (cond (eqb op code.PA) (c ▸ relative false ▸ pen_changed false)
    (cond (eqb op code.PR) (c ▸ relative true ▸ pen_changed false)
    c)))

-- ---- a pair; in polygon mode it stores a point

abbrev pub at_pair : Core → Coordinates → Polygon → Core
at_pair c n g =
    cond c.carriage.polygon.mode (c ▸ position (target c n) ▸ pen_changed false ▸ polygon g true (bytes c + pair_bytes c))
    (c ▸ position (target c n) ▸ pen_changed false)

-- ---- an instruction that ends

-- "PM0 or PM empties the polygon, stores the current point, enters polygon mode"
abbrev pub begins : Core → Polygon → Core
begins c g = c ▸ polygon g true 11

-- "PM1 ends a subpolygon, first adding its first point if the last differs in location, .. the exact position moving to that point ..; then the pen is up"
abbrev pub ends : Core → Polygon → Core
ends c g =
    c ▸ pen_down false ▸ pen_changed false ▸ position (cond (closes c) c.carriage.polygon.first c.carriage.position)
    ▸ polygon g true (bytes c + (2 + closing_bytes c))

-- "PM2 closes likewise, leaves the mode, restores position, mode and pen of PM0", with so many bytes more
abbrev pub leaves : Core → ℕ → Polygon → Core
leaves c n g =
    c ▸ pen_down c.carriage.polygon.saved.down ▸ pen_changed false ▸ relative c.carriage.polygon.saved.relative
    ▸ position c.carriage.polygon.saved.position
    ▸ polygon g false (bytes c + n)

-- an instruction that is carried out
abbrev pub at_end : {op : ℕ} → Instruction op → Core → Numbers → Polygon → Core
at_end IN c n g =
    c ▸ pen_down false ▸ pen_changed false ▸ relative false ▸ corners (point c.settings.hard.left c.settings.hard.bottom) (point c.settings.hard.right c.settings.hard.top)
    ▸ scale unscaled ▸ turn 0 ▸ window no_window ▸ position (rest_at (page c)) ▸ polygon g false 0 ▸ refusal 0
at_end DF c n g = c ▸ relative false ▸ scale unscaled ▸ window no_window ▸ position (at_rest c)
at_end IP c n g = c ▸ corners (new_p1 c n) (new_p2 c n) ▸ position (at_rest c)
at_end SC c n g = c ▸ scale (new_scale n) ▸ position (at_rest c)
at_end RO c n g = c ▸ turn (nat_abs (asked n) / 90) ▸ position (rest_at (turned_back_of (page c) (nat_abs (asked n) / 90)))
at_end IW c n g = c ▸ window (new_window c n)
at_end SP c n g = c ▸ pen_number (nat_abs (asked n))
at_end PM c n g = cond (asked n ≡? pos 0) (begins c g) (cond (asked n ≡? pos 1) (ends c g) (leaves c (closing_bytes c) g))
at_end EA c n g = c ▸ polygon g false 49
at_end ER c n g = c ▸ polygon g false 49
at_end AA c n g = c ▸ position (rest_at (arc_end c (centre_aa c n) n))
at_end AR c n g = c ▸ position (rest_at (arc_end c (centre_ar c n) n))
at_end OE c n g = c ▸ refusal 0
at_end OA c n g = c
at_end OP c n g = c
at_end OW c n g = c
at_end OH c n g = c
at_end EP c n g = c
at_end CI c n g = c
at_end PU c n g = c
at_end PD c n g = c
at_end PA c n g = c
at_end PR c n g = c

-- one that is refused: "settings, position, polygon" are left, but PM2 with 7 "still ends, open"
abbrev pub at_refusal : ℕ → Core → Numbers → ℕ → Polygon → Core
at_refusal op c n k g = cond (eqb op code.PM && eqb k 7 && (asked n ≡? pos 2)) (leaves c 0 g) c

-- ---- whatever happens: an event of the instructions, its number, and how the polygon is kept after it

pub data Happens : Event → Type 0 where
  nothing : Happens event.Nothing
  name : {op : ℕ} → Instruction op → Happens (event.Named op)
  pair : (n : Coordinates) → Happens (event.Pair n)
  end : {op : ℕ} → Instruction op → (n : Numbers) → Happens (event.Ended op n)
  refused : (k : ℕ) → Happens (event.Refused k)

abbrev pub changed_by : {e : Event} → Happens e → Core → ℕ → Polygon → Core
changed_by nothing c k g = c
changed_by (name {op} i) c k g = cond (eqb k 0) (at_name op c) c
changed_by (pair n) c k g = cond (eqb k 0) (at_pair c n g) c
changed_by (end {op} i n) c k g = cond (eqb k 0) (at_end i c n g) (at_refusal op c n k g)
changed_by (refused r) c k g = c

-- and then, whatever it was, its number is remembered: "the latest 1, 2, 3, 6 or 7 that take gave"
abbrev pub remembers : ℕ → Core → Core
remembers k c = cond (eqb k 1 || eqb k 2 || eqb k 3 || eqb k 6 || eqb k 7) (c ▸ refusal k) c
