-- The relation between a machine and the exact model that was fed with the same calls. Reader, core and the reply that waits are the same; the stored edges are the polygon's, one by one;
-- the work, written out as segments on the page, is the queue. Definitions alone.
use Rattle.std.specs.Prelude.{◌≡◌, Bool, true, false, List, [], ◌∷◌, ◌++◌, ℕ, zero, suc, ◌+◌, ◌*◌, ◌≤◌, ◌<◌, pos, length, get_or}
use Rattle.clip.specs.Line.{nearest, RoundsTo}
use Rattle.clip.specs.declared.Point.{Point}
use Rattle.turns.specs.Turn.{turn_count, turned_of}
use Rattle.hpgl.specs.declared.Position.{Position}
use Rattle.hpgl.specs.declared.Settings.{Settings}
use Rattle.hpgl.specs.declared.Polygon.{Polygon}
use Rattle.hpgl.specs.declared.Edge.{Edge}
use Rattle.hpgl.specs.declared.Circle.{Circle}
use Rattle.hpgl.specs.declared.Work.{Work}
use Rattle.hpgl.specs.declared.Work.TheVariants.{Nothing, Line, Chords, Edges, Answer}
use Rattle.hpgl.specs.declared.State.{State}
use Rattle.hpgl.specs.Numbers.{mode_bytes, point_bytes, most_edges}
use Rattle.hpgl.specs.Place.{axis_x, axis_y, exact_position}
use Rattle.hpgl.specs.Machine.{no_edge, vertex}
use Rattle.hpgl.specs.Valid.{Knows}
use Rattle.hpgl.specs.ExactModel.{PolygonPoint, Subpolygon, ExactPolygon, ExactSegment, last_of}

-- ---- the core

-- widths are not 0, and the turn is one of the table
pub record Sound (s : Settings) : Type 0 where
  pub x : (axis_x s).width ≡ pos 0 → ⊥
  pub y : (axis_y s).width ≡ pos 0 → ⊥
  pub turn : s.turn < turn_count

-- and no span is: P1 and P2 differ
pub record Spanned (s : Settings) : Type 0 where
  pub x : (axis_x s).span ≡ pos 0 → ⊥
  pub y : (axis_y s).span ≡ pos 0 → ⊥

-- and in polygon mode the bytes leave the store room for an edge more
pub record Fit (s : Settings) (k : Polygon) : Type 0 where
  pub sound : Sound s
  pub room : k.mode ≡ true → mode_bytes + point_bytes + point_bytes * k.edges ≤ k.bytes

-- ---- the store

-- n edges, from i on
unfoldable pub edges_from : List Edge → ℕ → ℕ → List Edge
edges_from es i zero = []
edges_from es i (suc n) = get_or es i no_edge ∷ edges_from es (i + 1) n

-- the edge between two points of a polygon
abbrev pub joined : PolygonPoint → PolygonPoint → Edge
joined p q = record { from = nearest p.exact; to = nearest q.exact; down = q.down }

unfoldable pub edges_after : PolygonPoint → Subpolygon → List Edge
edges_after p [] = []
edges_after p (q ∷ ps) = joined p q ∷ edges_after q ps

unfoldable pub edges_of : Subpolygon → List Edge
edges_of [] = []
edges_of (p ∷ ps) = edges_after p ps

unfoldable pub all_edges : List Subpolygon → List Edge
all_edges [] = []
all_edges (s ∷ ss) = edges_of s ++ all_edges ss

unfoldable pub polygon_edges : ExactPolygon → List Edge
polygon_edges g = all_edges g.ended ++ edges_of g.current

-- the subpolygon that is not ended: without a point, or with the given first and last one
pub data Open (s : Settings) (first last : Position) : Bool → Subpolygon → Type 0 where
  none : Open s first last true []
  some : {p : PolygonPoint} {ps : Subpolygon} → p.exact ≡ exact_position s first → (last_of p ps).exact ≡ exact_position s last → Open s first last false (p ∷ ps)

pub record Linked (s : Settings) (p : Position) (k : Polygon) (es : List Edge) (g : ExactPolygon) : Type 0 where
  pub size : length es ≡ most_edges
  pub edges : edges_from es 0 k.edges ≡ polygon_edges g
  pub current : k.mode ≡ true → Open s k.first p k.empty g.current

-- ---- the work

-- a segment on the page, shown or not
pub record PageSegment : Type 0 where
  pub start : Point
  pub end : Point
  pub shown : Bool

unfoldable pub turned_edges : ℕ → List Edge → List PageSegment
turned_edges t [] = []
turned_edges t (e ∷ es) = record { start = turned_of e.from t; end = turned_of e.to t; shown = e.down } ∷ turned_edges t es

-- n chords, from chord i on
unfoldable pub chords_from : Settings → Circle → ℕ → ℕ → List PageSegment
chords_from s o i zero = []
chords_from s o i (suc n) = record { start = vertex s o i; end = vertex s o (i + 1); shown = true } ∷ chords_from s o (i + 1) n

unfoldable pub view : Settings → List Edge → Work → List PageSegment
view s es Nothing = []
view s es (Line a b) = record { start = a; end = b; shown = true } ∷ []
view s es (Chords o i n) = chords_from s o i n
view s es (Edges i n) = turned_edges s.turn (edges_from es i n)
view s es (Answer r) = []

-- ---- the queue

unfoldable pub on_page : List ExactSegment → List PageSegment
on_page [] = []
on_page (g ∷ gs) = record { start = g.start; end = g.end; shown = g.owed } ∷ on_page gs

-- located within a half of the exact ends, with the pen in hand, which has paint
pub record Located (pen : ℕ) (g : ExactSegment) : Type 0 where
  pub number : g.pen ≡ pen
  pub ink : pen ≡ 0 → ⊥
  pub from : RoundsTo g.from g.start
  pub to : RoundsTo g.to g.end

pub data AllLocated (pen : ℕ) : List ExactSegment → Type 0 where
  none : AllLocated pen []
  more : {g : ExactSegment} {gs : List ExactSegment} → Located pen g → AllLocated pen gs → AllLocated pen (g ∷ gs)

-- ---- the whole

-- a machine, and the polygon and queue of the model with the same reader, core and reply
pub record Related (m : State) (g : ExactPolygon) (q : List ExactSegment) : Type 0 where
  pub fit : Fit m.core.settings m.core.carriage.polygon
  pub linked : Linked m.core.settings m.core.carriage.position m.core.carriage.polygon m.store.edges g
  pub knows : Knows m.core m.reader
  pub queue : view m.core.settings m.store.edges m.work ≡ on_page q
  pub located : AllLocated m.core.carriage.pen.number q
