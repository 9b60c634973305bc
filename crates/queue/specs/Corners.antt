-- Segments in a row: the table of the turn is looked up once, and a vertex at which two chords meet is found once.
use Rattle.std.specs.Prelude.{◌≡◌, refl, cond, ℕ, zero, suc, ◌+◌, get_or}
use Rattle.std.proofs.Common.{ap, ◌∙◌}
use Rattle.clip.specs.declared.Point.{Point}
use Rattle.turns.specs.declared.turn.Rows.{Rows}
use Rattle.turns.specs.Turn.{rows_of, turned_by, turned_of}
use Rattle.hpgl.specs.declared.Settings.{Settings}
use Rattle.hpgl.specs.declared.Circle.{Circle}
use Rattle.hpgl.specs.declared.Edge.{Edge}
use Rattle.hpgl.specs.declared.Work.{Work}
use Rattle.hpgl.specs.declared.Work.TheVariants.{Nothing, Line, Chords, Edges, Answer}
use Rattle.hpgl.specs.declared.State.{State}
use Rattle.hpgl.specs.declared.Segment.{Segment}
use Rattle.hpgl.specs.declared.Segment.TheVariants as segment
use Rattle.hpgl.specs.Rules.{origin}
use Rattle.hpgl.specs.Machine.{no_edge, vertex_in, vertex}
use Rattle.hpgl.specs.Segment.{chord_segment, edge_segment, work_segment, segment_of, SmallSegment}
use Rattle.hpgl.proofs.SegmentLaws.{chord-small, page-small}
use Rattle.hpgl.specs.Valid.{ValidSettings, SmallEdge, ValidWork}
use Rattle.queue.specs.First.{edge_place}

-- vertex i of a circle on the page, by the table of the turn
unfoldable pub vertex_at : Rows → Circle → ℕ → Point
vertex_at r o i = turned_by r (vertex_in o i)

-- where the first waiting chord begins; of other work the origin
unfoldable pub corner_of : Rows → Work → Point
corner_of r Nothing = origin
corner_of r (Line a b) = origin
corner_of r (Chords o i n) = vertex_at r o i
corner_of r (Edges i n) = origin
corner_of r (Answer t) = origin

-- where it ends; the origin also where none waits, since no vertex after i is asked to be in range then
unfoldable pub next_corner_of : Rows → Work → Point
next_corner_of r Nothing = origin
next_corner_of r (Line a b) = origin
next_corner_of r (Chords o i zero) = origin
next_corner_of r (Chords o i (suc n)) = vertex_at r o (i + 1)
next_corner_of r (Edges i n) = origin
next_corner_of r (Answer t) = origin

-- an edge of the store
unfoldable pub edge_in : Rows → Edge → Segment
edge_in r e = cond e.down (segment.Line (turned_by r e.from) (turned_by r e.to)) segment.PenUp

-- the first segment: its edge in the store is e, and a chord joins p and q
unfoldable pub segment_in : Rows → Edge → Work → Point → Point → Segment
segment_in r e Nothing p q = segment.Nothing
segment_in r e (Line a b) p q = segment.Line a b
segment_in r e (Chords o i zero) p q = segment.Nothing
segment_in r e (Chords o i (suc n)) p q = segment.Line p q
segment_in r e (Edges i zero) p q = segment.Nothing
segment_in r e (Edges i (suc n)) p q = edge_in r e
segment_in r e (Answer t) p q = segment.Nothing

-- with the table of the settings and its own corners
unfoldable pub first_segment : Settings → Edge → Work → Segment
first_segment s e w = let r = rows_of s.turn in segment_in r e w (corner_of r w) (next_corner_of r w)

-- ---- laws

-- with the edge at its place that is the segment that waits first
pub first-segment : (m : State) (w : Work) → first_segment m.core.settings (get_or m.store.edges (edge_place w) no_edge) w ≡ work_segment m w
unfolding vertex_at corner_of next_corner_of edge_in segment_in first_segment edge_place work_segment chord_segment edge_segment vertex rows_of turned_by turned_of
first-segment m Nothing = refl
first-segment m (Line a b) = refl
first-segment m (Chords o i zero) = refl
first-segment m (Chords o i (suc n)) = refl
first-segment m (Edges i zero) = refl
first-segment m (Edges i (suc n)) = refl
first-segment m (Answer t) = refl

-- it may be clipped
pub first_small : {s : Settings} {e : Edge} → ValidSettings s → SmallEdge e → (w : Work) → ValidWork w → SmallSegment (first_segment s e w)
unfolding vertex_at corner_of next_corner_of edge_in segment_in first_segment chord_segment edge_segment vertex rows_of turned_by turned_of
first_small v h Nothing k = tt
first_small v h (Line a b) k = k
first_small v h (Chords o i zero) k = tt
first_small v h (Chords o i (suc n)) k = chord-small v k.0
first_small v h (Edges i zero) k = tt
first_small v h (Edges i (suc n)) k = page-small v h
first_small v h (Answer t) k = tt

-- ---- where p is the vertex at which the first waiting chord begins; of other work nothing is asked

abbrev pub BeginsAt : Rows → Work → Point → Type 0
BeginsAt r Nothing p = Unit {0}
BeginsAt r (Line a b) p = Unit {0}
BeginsAt r (Chords o i n) p = p ≡ vertex_at r o i
BeginsAt r (Edges i n) p = Unit {0}
BeginsAt r (Answer t) p = Unit {0}

segment-begins : (r : Rows) (e : Edge) (w : Work) (p q : Point) → BeginsAt r w p → segment_in r e w p q ≡ segment_in r e w (corner_of r w) q
unfolding segment_in corner_of
segment-begins r e Nothing p q h = refl
segment-begins r e (Line a b) p q h = refl
segment-begins r e (Chords o i zero) p q h = refl
segment-begins r e (Chords o i (suc n)) p q h = λ i. segment.Line (h i) q
segment-begins r e (Edges i zero) p q h = refl
segment-begins r e (Edges i (suc n)) p q h = refl
segment-begins r e (Answer t) p q h = refl

-- so the segment from there is the one that waits first
pub segment-waits : (m : State) {r : Rows} (p : Point) → r ≡ rows_of m.core.settings.turn → BeginsAt r m.work p →
    segment_in r (get_or m.store.edges (edge_place m.work) no_edge) m.work p (next_corner_of r m.work) ≡ segment_of m
unfolding first_segment segment_of
segment-waits m {r} p e h =
    let w = m.work in
    let edge = get_or m.store.edges (edge_place w) no_edge in
    segment-begins r edge w p (next_corner_of r w) h
    ∙ ap (λ (q : Rows). segment_in q edge w (corner_of q w) (next_corner_of q w)) e
    ∙ first-segment m w
