-- A chord that is drawn from one vertex to the next, and other segments, which need none.
use mathlib.Core.Path.{◌≡◌, refl, sym, ap, subst, ◌∙◌}
use mathlib.Core.Bool.{Bool, false}
use mathlib.Core.List.{List}
use Prim.Native.Nat.{ℕ, zero, suc, ◌+◌, ◌*◌, ◌-◌, ◌/◌, ◌<◌}
use native.Mathlib.Omega.{arith}
use lib.IntN.{ℤ}
use lib.ListN.{length, get_or}
use borrow.Author.Tests.{ne_eqb}
use Rattle.clip.specs.declared.Rect.{Rect}
use Rattle.turns.specs.declared.turn.Rows.{Rows}
use Rattle.turns.specs.Turn.{rows_of}
use Rattle.reader.specs.declared.Reader.{Reader}
use Rattle.clip.specs.declared.Point.{Point}
use Rattle.hpgl.specs.declared.Edge.{Edge}
use Rattle.hpgl.specs.declared.Circle.{Circle}
use Rattle.hpgl.specs.declared.Core.{Core}
use Rattle.hpgl.specs.declared.Store.{Store}
use Rattle.hpgl.specs.declared.Work.{Work}
use Rattle.hpgl.specs.declared.Work.TheVariants.{Nothing, Line, Chords, Edges, Answer}
use Rattle.hpgl.specs.declared.State.{State}
use Rattle.hpgl.specs.declared.Drawn.{Drawn}
use Rattle.hpgl.specs.declared.Segment.{Segment}
use Rattle.hpgl.specs.declared.Segment.TheVariants as segment
use Rattle.hpgl.specs.Place.{limits}
use Rattle.hpgl.specs.Machine.{no_edge, waiting, work_after}
use Rattle.hpgl.specs.Segment.{segment_of, drawn_of}
use Rattle.hpgl.proofs.SegmentLaws.{segment-drawn}
use Rattle.feeding.specs.Plot.{Plot}
use Rattle.hpgl.proofs.Cases.{never}
use Rattle.rulekit.specs.declared.places.Frame.{Frame}
use Rattle.rulekit.specs.Hand.{frame_of}
use Rattle.queue.specs.First.{edge_place}
use Rattle.queue.specs.Corners.{vertex_at, next_corner_of, segment_in, BeginsAt, segment-waits}
use Rattle.gathering.specs.Gather.{whole, count_after, put_of, batched_of, chords_left}
use Rattle.gathering.specs.Far.{Far, Batching}
use Rattle.gathering.proofs.Gathers.{far-draw}

pub chords-some : (o : Circle) (i n : ℕ) → 0 < n → chords_left o i n ≡ Chords o i n
unfolding chords_left
chords-some o i n h = rw (ne_eqb n 0 (λ e. omega (arith, h, e))) refl

chords-after : (o : Circle) (i n : ℕ) → 0 < n → chords_left o (i + 1) (n - 1) ≡ work_after (Chords o i n)
unfolding chords_left work_after
chords-after o i zero h = absurd (omega (arith, h))
chords-after o i (suc n) h = let less : suc n - 1 ≡ n = omega arith in ap (chords_left o (i + 1)) less

pub chords-waiting : (o : Circle) (i n : ℕ) → waiting (chords_left o i n) ≡ n
unfolding chords_left waiting
chords-waiting o i zero = refl
chords-waiting o i (suc n) = rw (ne_eqb (suc n) 0 (λ e. omega (arith, e))) refl

abbrev pub chord : Rows → Circle → ℕ → Segment
chord r o i = segment.Line (vertex_at r o i) (vertex_at r o (i + 1))

module _ (reader : Reader) (core : Core) (store : Store) {r : Rows} (turned : r ≡ rows_of core.settings.turn) where
  pub chord-waits : (o : Circle) (i n : ℕ) → 0 < n → chord r o i ≡ segment_of (whole reader core store (Chords o i n))
  unfolding segment_in next_corner_of
  chord-waits o i zero h = absurd (omega (arith, h))
  chord-waits o i (suc n) h = segment-waits (whole reader core store (Chords o i (suc n))) (vertex_at r o i) turned refl

  module _ {on : Bool} {all : Plot} {s : List ℕ} {entry now : List ℤ} {at count : ℕ} {l : Rect} {pen : ℕ} (limited : l ≡ limits core.settings) (held : pen ≡ core.carriage.pen.number) where
    pub far-chord : (o : Circle) (i n : ℕ) → 0 < n → Far on all s entry now (whole reader core store (chords_left o i n)) at count → count < length entry / 5 →
        {d : Drawn} {numbers : List ℤ} {k : ℕ} → d ≡ drawn_of l pen (chord r o i) → numbers ≡ put_of d (count * 5) now → k ≡ count_after d count →
        Far on all s entry numbers (whole reader core store (chords_left o (i + 1) (n - 1))) at k
    unfolding waiting
    far-chord o i n h far free e g k =
        let m = whole reader core store (Chords o i n) in
        far-draw (subst (λ (w : Work). Far on all s entry now (whole reader core store w) at count) (chords-some o i n h) far) h free
        (e ∙ (λ j. drawn_of (limited j) (held j) (chord-waits o i n h j)) ∙ sym (segment-drawn m))
        g k (chords-after o i n h)

-- ---- what is told of work that is drawn by a loop of its own

module _ {now : List ℤ} {f : Frame} {pen : ℕ} {w : Work} {count : ℕ} (d : Batching now f pen w count) where
  pub turned : f.rows ≡ rows_of d.core.settings.turn
  unfolding frame_of
  turned = ap (λ (f : Frame). f.rows) d.framed

  pub limited : f.limits ≡ limits d.core.settings
  unfolding frame_of
  limited = ap (λ (f : Frame). f.limits) d.framed

pub batched-chords : {now : List ℤ} {f : Frame} {pen : ℕ} {o : Circle} {i n count : ℕ} → Batching now f pen (Chords o i n) count → 0 < n
unfolding waiting
batched-chords d = d.some

-- ---- work that is drawn segment by segment

alone : (r : Rows) (e : Edge) (w : Work) (p : Point) → batched_of w ≡ false → segment_in r e w p p ≡ segment_in r e w p (next_corner_of r w)
unfolding segment_in batched_of
alone r e Nothing p h = refl
alone r e (Line a b) p h = refl
alone r e (Chords o i n) p h = never h refl
alone r e (Edges i zero) p h = refl
alone r e (Edges i (suc n)) p h = refl
alone r e (Answer t) p h = refl

begins : (r : Rows) (w : Work) (p : Point) → batched_of w ≡ false → BeginsAt r w p
unfolding batched_of
begins r Nothing p h = tt
begins r (Line a b) p h = tt
begins r (Chords o i n) p h = never h refl
begins r (Edges i n) p h = tt
begins r (Answer t) p h = tt

pub alone_waits : (m : State) {r : Rows} (p : Point) → r ≡ rows_of m.core.settings.turn → batched_of m.work ≡ false →
    segment_in r (get_or m.store.edges (edge_place m.work) no_edge) m.work p p ≡ segment_of m
alone_waits m {r} p e h = alone r _ m.work p h ∙ segment-waits m p e (begins r m.work p h)
