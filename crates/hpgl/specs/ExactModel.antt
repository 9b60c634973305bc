-- The exact model: what is owed paint, by the documents' words (01, "Strokes"; 02), at exact positions and in a queue. It is fed with the calls alone.
-- Reading, settings and position go by the same rules as the machine's; but what joins the polygon and the queue is decided here, from the event, the
-- number and the positions before and after, and so is what is replied. It never looks at the machine's actions, store, work or counts.
use Rattle.std.specs.Prelude.{ℕ, zero, suc, ◌+◌, Bool, true, cond, ◌||◌, List, [], ◌∷◌, ◌++◌, eqb, leb, ℤ, pos, nat_abs, length}
use Rattle.clip.specs.Line.{Exact, nearest}
use Rattle.clip.specs.declared.Point.{Point}
use Rattle.clip.specs.declared.Rect.{Rect}
use Rattle.reader.specs.declared.Reader.{Reader}
use Rattle.reader.specs.declared.Numbers.{Numbers}
use Rattle.reader.specs.declared.Event.{Event}
use Rattle.reader.specs.declared.Event.TheVariants.{Nothing, Named, Pair, Ended, Refused}
use Rattle.reader.specs.Reader.{fresh_reader}
use Rattle.reader.specs.Step.{step_of}
use Rattle.mnemonics.specs.Table.{IN, EP, PM, CI, EA, ER, AA, AR}
use Rattle.turns.specs.Turn.{turned_of, turned_exact}
use Rattle.plane.specs.declared.circle.Way.{Way}
use Rattle.plane.specs.Circle.{chords_of, angle_of, rotated_of, exact_vertex}
use Rattle.plane.specs.Arc.{parts_of, bend_of, exact_arc}
use Rattle.hpgl.specs.declared.Position.{Position}
use Rattle.hpgl.specs.declared.Settings.{Settings}
use Rattle.hpgl.specs.declared.Core.{Core}
use Rattle.hpgl.specs.declared.Reply.{Reply}
use Rattle.hpgl.specs.Replies.{no_reply, reply_of, reply_text}
use Rattle.hpgl.specs.Place.{axis_x, axis_y, exact_position, absolute_position, relative_position}
use Rattle.hpgl.specs.Rules.{fresh_core, differ, chord_angle, swept_angle, arc_angle, way_from, act_on, noted}
use Rattle.hpgl.specs.Machine.{reader_after}

-- ---- what the model has

-- a polygon point: "A polygon's points keep the exact positions they had when stored"; and whether it was reached pen down
pub record PolygonPoint : Type 0 where
  pub exact : Exact
  pub down : Bool

abbrev pub Subpolygon : Type 0
Subpolygon = List PolygonPoint

-- the subpolygons that are ended, and the one that is not
pub record ExactPolygon : Type 0 where
  pub ended : List Subpolygon
  pub current : Subpolygon

-- a segment of the queue: its exact line on the page, its located ends on the page, its pen, and whether it is owed paint
pub record ExactSegment : Type 0 where
  pub from : Exact
  pub to : Exact
  pub start : Point
  pub end : Point
  pub pen : ℕ
  pub owed : Bool

pub record Model : Type 0 where
  pub reader : Reader
  pub core : Core
  pub polygon : ExactPolygon
  pub queue : List ExactSegment
  -- the reply that waits; of no numbers, none does
  pub reply : Reply

-- ---- segments

-- "The exact line of a move joins the exact positions, turned"; "Location is turned to the page"
unfoldable pub exact_segment : Core → Exact → Exact → Bool → ExactSegment
exact_segment c e f owed = record {
  from = turned_exact e c.settings.turn;
  to = turned_exact f c.settings.turn;
  start = turned_of (nearest e) c.settings.turn;
  end = turned_of (nearest f) c.settings.turn;
  pen = c.carriage.pen.number;
  owed = owed;
}

-- "for each two neighbours of a subpolygon, a segment"; owed if the "second point was reached pen down"
unfoldable pub sides_from : Core → PolygonPoint → Subpolygon → List ExactSegment
sides_from c p [] = []
sides_from c p (q ∷ ps) = exact_segment c p.exact q.exact q.down ∷ sides_from c q ps

unfoldable pub sides : Core → Subpolygon → List ExactSegment
sides c [] = []
sides c (p ∷ ps) = sides_from c p ps

unfoldable pub all_sides : Core → List Subpolygon → List ExactSegment
all_sides c [] = []
all_sides c (s ∷ ss) = sides c s ++ all_sides c ss

-- "EP turns them by the turn then in force"
unfoldable pub outline : Core → ExactPolygon → List ExactSegment
outline c g = all_sides c g.ended ++ sides c g.current

-- vertex i of a circle of radius r and chord angle a about the position
unfoldable pub vertex_at : Core → ℤ → ℕ → ℕ → Exact
vertex_at c r a i =
    let w : Way = rotated_of (record { u = r; v = pos 0 }) (angle_of a i) in
    record {
      x = exact_vertex (axis_x c.settings) c.carriage.position.x w.u;
      y = exact_vertex (axis_y c.settings) c.carriage.position.y w.v;
    }

-- vertex i of an arc from the position about q, through the sweep s by the chord angle a: "The arc starts at the current exact position. Each later vertex is the centre
-- plus that way turned, by whole chord angles and at the last by the swept angle itself."
unfoldable pub arc_vertex : Core → Position → ℤ → ℕ → ℕ → Exact
arc_vertex c q s a i =
    let w : Way = rotated_of (way_from c q) (bend_of s a i) in
    record {
      x = exact_arc (axis_x c.settings) c.carriage.position.x q.x w.u i;
      y = exact_arc (axis_y c.settings) c.carriage.position.y q.y w.v i;
    }

-- "A circle's chords join its exact vertices": n segments that are owed, from vertex i on, each from v there to v at the next
unfoldable pub path : Core → (ℕ → Exact) → ℕ → ℕ → List ExactSegment
path c v i zero = []
path c v i (suc n) = exact_segment c (v i) (v (i + 1)) true ∷ path c v (i + 1) n

-- ---- the polygon

abbrev pub here : Core → PolygonPoint
here c = record { exact = exact_position c.settings c.carriage.position; down = c.carriage.pen.down }

abbrev pub no_points : ExactPolygon
no_points = record { ended = []; current = [] }

-- the last point
unfoldable pub last_of : PolygonPoint → Subpolygon → PolygonPoint
last_of p [] = p
last_of p (q ∷ ps) = last_of q ps

-- "first adding its first point if the last differs in location, with the pen as it is" (to an empty one nothing is added)
unfoldable pub closed : Subpolygon → Bool → Subpolygon
closed [] down = []
closed (p ∷ ps) down =
    cond (differ (nearest (last_of p ps).exact) (nearest p.exact)) ((p ∷ ps) ++ (record { exact = p.exact; down = down } ∷ [])) (p ∷ ps)

unfoldable pub end_current : ExactPolygon → Bool → ExactPolygon
end_current g down = record { ended = g.ended ++ (closed g.current down ∷ []); current = [] }

-- "five points, first along x, all pen down": from p to the corner q
unfoldable pub rectangle : Settings → Position → Position → ExactPolygon
rectangle s p q =
    let corner : (u v : Position) → PolygonPoint = λ u v. record { exact = exact_position s (record { x = u.x; y = v.y }); down = true } in
    record { ended = []; current = corner p p ∷ corner q p ∷ corner q q ∷ corner p q ∷ corner p p ∷ [] }

-- PM carried out: in polygon mode before and after it is PM1, only after PM0, only before PM2
unfoldable pub polygon_mode : Core → Core → ExactPolygon → ExactPolygon
polygon_mode c d g = cond c.carriage.polygon.mode (end_current g c.carriage.pen.down) (record { ended = []; current = here d ∷ [] })

-- after an instruction that ended
unfoldable pub after_end : Core → Core → ℕ → Numbers → ExactPolygon → ExactPolygon
after_end c d op n g =
    cond (eqb op IN) no_points
    (cond (eqb op PM) (polygon_mode c d g)
    (cond (eqb op EA) (rectangle c.settings c.carriage.position (absolute_position c.settings (record { x = n.first; y = n.second })))
    (cond (eqb op ER) (rectangle c.settings c.carriage.position (relative_position c.carriage.position (record { x = n.first; y = n.second })))
    g)))

-- the polygon after an event that was not refused, from the core c before it to d after it
unfoldable pub polygon_after : Core → Core → Event → ExactPolygon → ExactPolygon
polygon_after c d Nothing g = g
polygon_after c d (Named op) g = g
polygon_after c d (Pair p) g = cond d.carriage.polygon.mode (record { ended = g.ended; current = g.current ++ (here d ∷ []) }) g
polygon_after c d (Ended op n) g = after_end c d op n g
polygon_after c d (Refused k) g = g

-- ---- the queue

-- "Pen 0 queues nothing."
unfoldable pub inked_only : Core → List ExactSegment → List ExactSegment
inked_only c s = cond (eqb c.carriage.pen.number 0) [] s

-- "outside polygon mode, each move with pen down and pen not 0"
unfoldable pub move : Core → Core → List ExactSegment
move c d =
    cond d.carriage.polygon.mode []
    (cond d.carriage.pen.down
    (inked_only d (exact_segment d (exact_position c.settings c.carriage.position) (exact_position d.settings d.carriage.position) true ∷ []))
    [])

-- "Condition 3 covers arcs, each chord between neighbouring exact vertices being a move": about q, from the position before it
unfoldable pub arc_moves : Core → Core → Position → Numbers → List ExactSegment
arc_moves c d q n =
    let a : ℕ = nat_abs (arc_angle n) in
    cond d.carriage.pen.down (inked_only d (path d (arc_vertex c q (swept_angle n) a) 0 (parts_of (swept_angle n) a))) []

-- "each circle chord with pen not 0, pen up or down, and each polygon edge drawn with pen not 0"; c is the core before it, and d after it
unfoldable pub instructed : Core → Core → ℕ → Numbers → ExactPolygon → List ExactSegment
instructed c d op n g =
    cond (eqb op EP || eqb op EA || eqb op ER) (inked_only d (outline d g))
    (cond (eqb op CI) (inked_only d (path d (vertex_at d n.first (nat_abs (chord_angle n))) 0 (chords_of (nat_abs (chord_angle n)))))
    (cond (eqb op AA) (arc_moves c d (absolute_position c.settings (record { x = n.first; y = n.second })) n)
    (cond (eqb op AR) (arc_moves c d (relative_position c.carriage.position (record { x = n.first; y = n.second })) n)
    [])))

-- what an event that was not refused adds to the queue; g is the polygon after it
unfoldable pub added : Core → Core → Event → ExactPolygon → List ExactSegment
added c d Nothing g = []
added c d (Named op) g = []
added c d (Pair p) g = move c d
added c d (Ended op n) g = instructed c d op n g
added c d (Refused k) g = []

-- ---- the reply

-- "The reply is made when its instruction is carried out": by the core before it
unfoldable pub answered : Core → Event → Reply
answered c Nothing = no_reply
answered c (Named op) = no_reply
answered c (Pair p) = no_reply
answered c (Ended op n) = reply_of c op
answered c (Refused k) = no_reply

-- ---- the calls

unfoldable pub fresh_model : Rect → Model
fresh_model r = record { reader = fresh_reader; core = fresh_core r; polygon = no_points; queue = []; reply = no_reply }

-- the core and the number of an event, by the rules of reading, settings and position; the number is remembered
unfoldable pub core_after : Core → Event → Core
core_after c e = (noted (act_on c e)).core

unfoldable pub number_of : Core → Event → ℕ
number_of c e = (act_on c e).number

-- "A take that this document refuses adds none. A take that carries out a pair or an instruction adds its segments at the end, in order"
unfoldable pub taken : Model → Reader → Event → ℕ → Core → Model
taken m r e zero d =
    let g : ExactPolygon = polygon_after m.core d e m.polygon in
    record { reader = r; core = d; polygon = g; queue = m.queue ++ added m.core d e g; reply = answered m.core e }
taken m r e (suc k) d = record { reader = reader_after r (suc k); core = d; polygon = m.polygon; queue = m.queue; reply = no_reply }

-- a take while a segment waits is refused, and leaves all; so is one while a reply waits, of k numbers
unfoldable pub take_when : Model → List ExactSegment → ℕ → ℕ → Model
take_when m [] zero b =
    taken m (step_of m.reader b).reader (step_of m.reader b).event (number_of m.core (step_of m.reader b).event) (core_after m.core (step_of m.reader b).event)
take_when m [] (suc k) b = m
take_when m (s ∷ ss) k b = m

unfoldable pub take_model : Model → ℕ → Model
take_model m b = take_when m m.queue m.reply.count b

-- "A draw removes the first and works off that one; on an empty queue it changes nothing."
unfoldable pub rest : List ExactSegment → List ExactSegment
rest [] = []
rest (s ∷ ss) = ss

unfoldable pub draw_model : Model → Model
draw_model m = record { reader = m.reader; core = m.core; polygon = m.polygon; queue = rest m.queue; reply = m.reply }

-- a fetch takes the reply that waits, of k numbers, if the buffer is long enough, and leaves all else
unfoldable pub fetch_when : Model → ℕ → ℕ → Model
fetch_when m zero room = m
fetch_when m (suc k) room =
    cond (leb (length (reply_text m.reply)) room) (record { reader = m.reader; core = m.core; polygon = m.polygon; queue = m.queue; reply = no_reply }) m

unfoldable pub fetch_model : Model → ℕ → Model
fetch_model m room = fetch_when m m.reply.count room
