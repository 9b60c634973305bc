-- The laws of the segment that waits first: draw answers it, clipped to the limits in force, in 01's values; and it may be clipped.
use Rattle.std.specs.Prelude.{◌≡◌, refl, Bool, cond, ℕ, zero, suc, ◌+◌, get_or, Option, Some, None}
use Rattle.std.proofs.Common.{ap, ◌∙◌, arith}
use Rattle.std.proofs.Math.Bool.{true, false}
use Rattle.clip.specs.Clip.{clip}
use Rattle.clip.specs.declared.Point.{Point}
use Rattle.clip.specs.declared.Rect.{Rect}
use Rattle.turns.specs.Turn.{turned_of}
use Rattle.turns.proofs.TurnLaws.{turned-small}
use Rattle.hpgl.specs.declared.Settings.{Settings}
use Rattle.hpgl.specs.declared.Edge.{Edge}
use Rattle.hpgl.specs.declared.Circle.{Circle}
use Rattle.hpgl.specs.declared.Work.{Work}
use Rattle.hpgl.specs.declared.Work.TheVariants as work
use Rattle.hpgl.specs.declared.State.{State}
use Rattle.hpgl.specs.declared.Drawn.TheVariants as drawn
use Rattle.hpgl.specs.declared.Segment.{Segment}
use Rattle.hpgl.specs.declared.Segment.TheVariants.{Nothing, PenUp, Line}
use Rattle.hpgl.specs.Place.{limits}
use Rattle.hpgl.specs.Machine.{no_edge, stroke_of, shown, vertex, chord_shown, edge_shown, draw_work, draw_answer}
use Rattle.hpgl.specs.Values.{drawn_values}
use Rattle.hpgl.specs.Valid.{ValidSettings, SmallEdge, ValidCircle, ValidWork, Valid}
use Rattle.hpgl.proofs.ValidFacts.{edge-small}
use Rattle.hpgl.specs.Segment.{chord_segment, edge_segment, work_segment, segment_of, drawn_of, clipped_values, segment_values, draw_values, SmallSegment}

-- draw answers the segment that waits first, clipped to the limits in force
work-drawn : (m : State) (w : Work) → draw_work m w ≡ drawn_of (limits m.core.settings) m.core.carriage.pen.number (work_segment m w)
unfolding draw_work drawn_of work_segment chord_segment edge_segment shown chord_shown edge_shown
work-drawn m work.Nothing = refl
work-drawn m (work.Line a b) = refl
work-drawn m (work.Chords o i zero) = refl
work-drawn m (work.Chords o i (suc n)) = refl
work-drawn m (work.Edges i zero) = refl
work-drawn m (work.Edges i (suc n)) = go (get_or m.store.edges i no_edge).down
  where
    go : (down : Bool) → let s = m.core.settings in
        let e = get_or m.store.edges i no_edge in
        let a = turned_of e.from s.turn in
        let b = turned_of e.to s.turn in
        cond down (shown m.core a b) drawn.Hidden ≡ drawn_of (limits s) m.core.carriage.pen.number (cond down (Line a b) PenUp)
    go true = refl
    go false = refl
work-drawn m (work.Answer r) = refl

pub segment-drawn : (m : State) → draw_answer m ≡ drawn_of (limits m.core.settings) m.core.carriage.pen.number (segment_of m)
unfolding draw_answer segment_of
segment-drawn m = work-drawn m m.work

clipped-values : (pen : ℕ) (k : Option (Point × Point)) → drawn_values (stroke_of pen k) ≡ clipped_values pen k
unfolding drawn_values stroke_of clipped_values
clipped-values pen None = refl
clipped-values pen (Some (s, t)) = refl

segment-values : (r : Rect) (pen : ℕ) (g : Segment) → drawn_values (drawn_of r pen g) ≡ segment_values r pen g
unfolding drawn_values drawn_of segment_values
segment-values r pen Nothing = refl
segment-values r pen PenUp = refl
segment-values r pen (Line a b) = clipped-values pen (clip r a b)

-- the values of draw's answer are those of the segment that waits first
pub draw-values : (m : State) → drawn_values (draw_answer m) ≡ draw_values m
unfolding draw_values
draw-values m = ap drawn_values (segment-drawn m) ∙ segment-values (limits m.core.settings) m.core.carriage.pen.number (segment_of m)

module _ {s : Settings} (v : ValidSettings s) where
  pub chord-small : {o : Circle} {i n : ℕ} → ValidCircle o i (suc n) → SmallSegment (chord_segment s o i)
  unfolding chord_segment vertex
  chord-small {i = i} h = (turned-small (h.fits i (omega arith) (omega arith)) v.turn, turned-small (h.fits (i + 1) (omega arith) (omega arith)) v.turn)

  pub page-small : {e : Edge} → SmallEdge e → SmallSegment (edge_segment s e)
  unfolding edge_segment
  page-small {e} h = go e.down
    where
      go : (down : Bool) → SmallSegment (cond down (Line (turned_of e.from s.turn) (turned_of e.to s.turn)) PenUp)
      go true = (turned-small h.from v.turn, turned-small h.to v.turn)
      go false = tt

work-small : {m : State} → Valid m → (w : Work) → ValidWork w → SmallSegment (work_segment m w)
unfolding work_segment
work-small v work.Nothing h = tt
work-small v (work.Line a b) h = h
work-small v (work.Chords o i zero) h = tt
work-small v (work.Chords o i (suc n)) h = chord-small v.core.settings h.0
work-small v (work.Edges i zero) h = tt
work-small v (work.Edges i (suc n)) h = page-small v.core.settings (edge-small v.edges i)
work-small v (work.Answer r) h = tt

-- that of a machine that the calls make may be
pub segment-small : {m : State} → Valid m → SmallSegment (segment_of m)
unfolding segment_of
segment-small {m} v = work-small v m.work v.work
