-- The calls fresh, take, draw and look (document 01, "The calls"), and fetch (document 02, CR 5), over the machine's state.
use Rattle.std.specs.Prelude.{ℕ, zero, suc, ◌+◌, Bool, true, false, cond, not, ◌&&◌, ◌||◌, List, [], ◌++◌, eqb, leb, ℤ, pos, get_or, set, replicate, length, drop, Option, Some, None}
use Rattle.exact.specs.Whole.{◌<?◌}
use Rattle.clip.specs.Clip.{clip}
use Rattle.clip.specs.declared.Point.{Point}
use Rattle.clip.specs.declared.Rect.{Rect}
use Rattle.reader.specs.declared.Reader.{Reader}
use Rattle.reader.specs.Reader.{fresh_reader}
use Rattle.reader.specs.Step.{step_of, passed_over}
use Rattle.turns.specs.Turn.{turned_of}
use Rattle.plane.specs.Arc.{parts_of, arc_point}
use Rattle.hpgl.specs.declared.Settings.{Settings}
use Rattle.hpgl.specs.declared.Core.{Core}
use Rattle.hpgl.specs.declared.Edge.{Edge}
use Rattle.hpgl.specs.declared.Circle.{Circle}
use Rattle.hpgl.specs.declared.Action.{Action}
use Rattle.hpgl.specs.declared.Action.TheVariants as action
use Rattle.hpgl.specs.declared.Acted.{Acted}
use Rattle.hpgl.specs.declared.Work.{Work}
use Rattle.hpgl.specs.declared.Work.TheVariants.{Nothing, Line, Chords, Edges, Answer}
use Rattle.hpgl.specs.declared.Reply.{Reply}
use Rattle.hpgl.specs.declared.State.{State}
use Rattle.hpgl.specs.declared.Drawn.{Drawn}
use Rattle.hpgl.specs.declared.Drawn.TheVariants as drawn
use Rattle.hpgl.specs.declared.Look.{Look}
use Rattle.hpgl.specs.Numbers.{bad_limits, busy, short_buffer, most_edges}
use Rattle.hpgl.specs.Place.{point, location, limits}
use Rattle.hpgl.specs.Change.{with_work}
use Rattle.hpgl.specs.Replies.{no_reply, reply_text}
use Rattle.hpgl.specs.Rules.{origin, int16, fresh_core, act_on, noted}

-- ---- Fresh

abbrev pub rect : ℤ → ℤ → ℤ → ℤ → Rect
rect l b r t = record { left = l; bottom = b; right = r; top = t }

-- "hard limits left, bottom, right, top, each −32768 to 32767, left < right, bottom < top"
unfoldable pub good_limits : Rect → Bool
good_limits r = int16 r.left && int16 r.bottom && int16 r.right && int16 r.top && (r.left <? r.right) && (r.bottom <? r.top)

-- "bad hard limits: 10, fresh machine with limits 0,0,1,1"
unfoldable pub hard_limits : Rect → Rect
hard_limits r = cond (good_limits r) r (rect (pos 0) (pos 0) (pos 1) (pos 1))

abbrev pub no_edge : Edge
no_edge = record { from = origin; to = origin; down = false }

unfoldable pub fresh_state : Rect → State
fresh_state r = record {
  reader = fresh_reader;
  core = fresh_core (hard_limits r);
  store = record { edges = replicate most_edges no_edge };
  work = Nothing;
}

unfoldable pub fresh_number : Rect → ℕ
fresh_number r = cond (good_limits r) 0 bad_limits

-- ---- Take

-- how many segments wait
unfoldable pub waiting : Work → ℕ
waiting Nothing = 0
waiting (Line a b) = 1
waiting (Chords o i n) = n
waiting (Edges i n) = n
waiting (Answer r) = 0

-- the reply that waits, if one does; one of no numbers is none
unfoldable pub replied : Work → Reply
replied Nothing = no_reply
replied (Line a b) = no_reply
replied (Chords o i n) = no_reply
replied (Edges i n) = no_reply
replied (Answer r) = r

unfoldable pub replying : Work → Bool
replying w = not (eqb (replied w).count 0)

-- whether a byte has to wait: for a segment, or for a reply
unfoldable pub occupied : Work → Bool
occupied w = not (eqb (waiting w) 0) || replying w

abbrev pub edge : Point → Point → Edge
edge p q = record { from = p; to = q; down = true }

-- "five points, first along x, all pen down": the four edges between them
unfoldable pub rectangle_edges : List Edge → Point → Point → List Edge
rectangle_edges es p q =
    set (set (set (set es 0 (edge p (point q.x p.y))) 1 (edge (point q.x p.y) q)) 2 (edge q (point p.x q.y))) 3
    (edge (point p.x q.y) p)

-- the edges after an action; k is how many the polygon had
unfoldable pub stored : List Edge → ℕ → Action → List Edge
stored es k action.Keep = es
stored es k (action.Line a b) = es
stored es k (action.Chords o) = es
stored es k (action.Join e) = set es k e
stored es k action.Outline = es
stored es k (action.Rectangle p q shown) = rectangle_edges es p q
stored es k (action.Answer r) = es

-- what waits after an action, with the turn t, the edges es that are then stored, and the count k of those that the polygon has
unfoldable pub queued : ℕ → List Edge → ℕ → Action → Work
queued t es k action.Keep = Nothing
queued t es k (action.Line a b) = Line a b
queued t es k (action.Chords o) = Chords o 0 (parts_of o.sweep o.angle)
queued t es k (action.Join e) = Nothing
queued t es k action.Outline = Edges 0 k
queued t es k (action.Rectangle p q shown) = cond shown (Edges 0 k) Nothing
queued t es k (action.Answer r) = Answer r

-- "After a refusal the rest is passed over"
unfoldable pub reader_after : Reader → ℕ → Reader
reader_after r n = cond (eqb n 0) r (passed_over r)

unfoldable pub applied : State → Reader → Acted → State
applied m r t =
    let es : List Edge = stored m.store.edges m.core.carriage.polygon.edges t.action in
    record {
      reader = reader_after r t.number;
      core = t.core;
      store = record { edges = es };
      work = queued t.core.settings.turn es t.core.carriage.polygon.edges t.action;
    }

-- what a byte does to the core, its number remembered
unfoldable pub acted : State → ℕ → Acted
acted m b = noted (act_on m.core (step_of m.reader b).event)

-- "take while a segment waits: 20, whole machine"; "While a reply waits a byte is refused with 20"
unfoldable pub take_state : State → ℕ → State
take_state m b = cond (occupied m.work) m (applied m (step_of m.reader b).reader (acted m b))

unfoldable pub take_number : State → ℕ → ℕ
take_number m b = cond (occupied m.work) busy (acted m b).number

-- ---- Draw: "works off one waiting segment and answers a stroke (pen, x0, y0, x1, y1), hidden, or idle if none waits"

unfoldable pub stroke_of : ℕ → Option (Point × Point) → Drawn
stroke_of pen None = drawn.Hidden
stroke_of pen (Some (s, t)) = drawn.Stroke (record { pen = pen; x0 = s.x; y0 = s.y; x1 = t.x; y1 = t.y })

-- a segment between two page points
unfoldable pub shown : Core → Point → Point → Drawn
shown c a b = stroke_of c.carriage.pen.number (clip (limits c.settings) a b)

-- vertex i of a circle, and on the page
unfoldable pub vertex_in : Circle → ℕ → Point
vertex_in o i = arc_point o.start o.x o.y o.radius o.sweep o.angle i

unfoldable pub vertex : Settings → Circle → ℕ → Point
vertex s o i = turned_of (vertex_in o i) s.turn

-- chord i
unfoldable pub chord_shown : Core → Circle → ℕ → Drawn
chord_shown c o i = shown c (vertex c.settings o i) (vertex c.settings o (i + 1))

-- edge i of the store: "it is hidden if the second was reached pen up"
unfoldable pub edge_shown : Core → Edge → Drawn
edge_shown c e = cond e.down (shown c (turned_of e.from c.settings.turn) (turned_of e.to c.settings.turn)) drawn.Hidden

-- the work without its first segment, and what is drawn of that. A count of 0 is EP's, of a polygon without edges; a circle has chords. A reply is no segment
unfoldable pub work_after : Work → Work
work_after Nothing = Nothing
work_after (Line a b) = Nothing
work_after (Chords o i zero) = Nothing
work_after (Chords o i (suc n)) = cond (eqb n 0) Nothing (Chords o (i + 1) n)
work_after (Edges i zero) = Nothing
work_after (Edges i (suc n)) = cond (eqb n 0) Nothing (Edges (i + 1) n)
work_after (Answer r) = Answer r

unfoldable pub draw_work : State → Work → Drawn
draw_work m Nothing = drawn.Idle
draw_work m (Line a b) = shown m.core a b
draw_work m (Chords o i zero) = drawn.Idle
draw_work m (Chords o i (suc n)) = chord_shown m.core o i
draw_work m (Edges i zero) = drawn.Idle
draw_work m (Edges i (suc n)) = edge_shown m.core (get_or m.store.edges i no_edge)
draw_work m (Answer r) = drawn.Idle

unfoldable pub draw_state : State → State
draw_state m = with_work m (work_after m.work)

unfoldable pub draw_answer : State → Drawn
draw_answer m = draw_work m m.work

-- ---- Look: "location, pen, pen up or down, polygon bytes. It changes nothing."

unfoldable pub look_at : State → Look
look_at m = record {
  location = location m.core.settings m.core.carriage.position;
  pen = m.core.carriage.pen.number;
  down = m.core.carriage.pen.down;
  bytes = m.core.carriage.polygon.bytes;
}

-- ---- Fetch: "its reply is fetched by a call with a lent buffer", of so many bytes (document 02, CR 5)

-- "31: buffer shorter than the reply; nothing written, the reply still waits"; "With no reply waiting that call writes nothing and answers length 0"
unfoldable pub fetch_number : State → ℕ → ℕ
fetch_number m room = cond (replying m.work) (cond (leb (length (reply_text (replied m.work))) room) 0 short_buffer) 0

unfoldable pub fetch_state : State → ℕ → State
fetch_state m room = cond (replying m.work) (cond (leb (length (reply_text (replied m.work))) room) (with_work m Nothing) m) m

-- what is written of a reply into so many bytes
unfoldable pub fetched_of : Reply → ℕ → List ℕ
fetched_of r room = cond (leb (length (reply_text r)) room) (reply_text r) []

unfoldable pub fetch_text : State → ℕ → List ℕ
fetch_text m room = fetched_of (replied m.work) room

-- "Buffer bytes past a reply keep their content": the buffer after the call
unfoldable pub fetch_out : State → List ℕ → List ℕ
fetch_out m out = fetch_text m (length out) ++ drop (length (fetch_text m (length out))) out
