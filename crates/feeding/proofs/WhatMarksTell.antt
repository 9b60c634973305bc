-- The marks of a plot: a stroke's pen is not 0, which tells it from a refusal, and a refusal's place is within the bytes.
-- Why: where a segment waits the pen has paint (`Usable`), and a stroke has that pen; and a place is the count of bytes taken.
use Rattle.std.specs.Prelude.{◌≡◌, length, Option, Some, None}
use Rattle.std.proofs.Math.Path.{refl}
use mathlib.Core.List.{List, [], ◌∷◌}
use Prim.Native.Nat.{ℕ, zero, suc, ◌+◌, ◌≤◌, ◌<◌}
use Rattle.std.proofs.Common.{arith}
use Rattle.clip.specs.Clip.{clip}
use Rattle.clip.specs.declared.Point.{Point}
use Rattle.clip.specs.declared.Rect.{Rect}
use Rattle.hpgl.specs.declared.State.{State}
use Rattle.hpgl.specs.declared.Segment.{Segment}
use Rattle.hpgl.specs.declared.Segment.TheVariants as segment
use Rattle.hpgl.specs.declared.Drawn.{Drawn}
use Rattle.hpgl.specs.declared.Drawn.TheVariants as drawn
use Rattle.hpgl.specs.Machine.{waiting, take_state, take_number, stroke_of, draw_state, draw_answer}
use Rattle.feeding.proofs.DrawOffLaws.{draw-less}
use Rattle.feeding.specs.Plot.{Mark, stroke, refusal, Plot, drew, took, draw_off, take_with, take_on, plot_from}
use Rattle.feeding.specs.DrawOff.{untaken}
use Rattle.hpgl.proofs.Cases.{pick}
use Rattle.hpgl.specs.Segment.{drawn_of}
use Rattle.hpgl.proofs.SegmentLaws.{segment-drawn}
use Rattle.hpgl.specs.Valid.{Every, none, more, Usable}
use Rattle.hpgl.proofs.ValidKept.{usable-take, usable-draw}

-- ---- a draw: a stroke has the pen's number

abbrev DrawnInked : Drawn → Type 0
DrawnInked (drawn.Stroke s) = s.pen ≡ 0 → ⊥
DrawnInked drawn.Hidden = Unit {0}
DrawnInked drawn.Idle = Unit {0}

module _ (r : Rect) (pen : ℕ) (h : pen ≡ 0 → ⊥) where
  clipped-inked : (k : Option (Point × Point)) → DrawnInked (stroke_of pen k)
  unfolding stroke_of
  clipped-inked None = tt
  clipped-inked (Some (s, t)) = h

  drawn-inked : (g : Segment) → DrawnInked (drawn_of r pen g)
  unfolding drawn_of
  drawn-inked segment.Nothing = tt
  drawn-inked segment.PenUp = tt
  drawn-inked (segment.Line a b) = clipped-inked (clip r a b)

answer-inked : {m : State} → Usable m → 0 < waiting m.work → DrawnInked (draw_answer m)
answer-inked {m} v w = rw (segment-drawn m) (drawn-inked _ _ (v.inked.pen w) _)

-- ---- a plot

-- a mark of a plot that ends before the byte `end`
unfoldable pub Told : ℕ → Mark → Type 0
Told end (stroke s) = s.pen ≡ 0 → ⊥
Told end (refusal n t) = t ≤ end

module _ (end : ℕ) where
  drew-told : (d : Drawn) (r : ℕ) (next : ℕ → Plot) → DrawnInked d → ((q : ℕ) → Every (Told end) (next q).marks) → Every (Told end) (drew d r next).marks
  unfolding drew Told
  drew-told (drawn.Stroke s) r next p h = more p (h r)
  drew-told drawn.Hidden r next p h = h (suc r)
  drew-told drawn.Idle r next p h = h (suc r)

  took-told : (n t r : ℕ) (next : ℕ → Plot) → t ≤ end → ((q : ℕ) → Every (Told end) (next q).marks) → Every (Told end) (took n t r next).marks
  unfolding took Told
  took-told zero t r next l h = h (suc r)
  took-told (suc n) t r next l h = more l (h r)

  off-told : (k : ℕ) (m : State) (t r : ℕ) (idle : State → ℕ → Plot) → waiting m.work ≡ k → Usable m → ((i : State) (q : ℕ) → Usable i → Every (Told end) (idle i q).marks)
      → Every (Told end) (draw_off k m t r idle).marks
  unfolding draw_off
  off-told zero m t r idle w v h = h m r v
  off-told (suc k) m t zero idle w v h = none
  off-told (suc k) m t (suc r) idle w v h =
      drew-told (draw_answer m) r (λ q. draw_off k (draw_state m) t q idle) (answer-inked v (omega (arith, w)))
      (λ q. off-told k (draw_state m) t q idle (draw-less m k w) (usable-draw v) h)

  with-told : (m : State) (b t r : ℕ) (next : State → ℕ → Plot) → t + 1 ≤ end → ((q : ℕ) → Every (Told end) (next (take_state m b) q).marks)
      → Every (Told end) (take_with m b t r next).marks
  unfolding take_with
  with-told m b t zero next l h = none
  with-told m b t (suc r) next l h = took-told (take_number m b) (t + 1) r (λ q. next (take_state m b) q) l h

  take-told : (m : State) (b t r : ℕ) (next : State → ℕ → Plot) → t + 1 ≤ end → ((q : ℕ) → Every (Told end) (next (take_state m b) q).marks)
      → Every (Told end) (take_on m b t r next).marks
  unfolding take_on
  take-told m b t r next l h = pick (λ (f : Plot). Every (Told end) f.marks) (untaken (take_number m b)) none (with-told m b t r next l h)

  pub plot-told : (m : State) (bs : List ℕ) (t r : ℕ) → t + length bs ≤ end → Usable m → Every (Told end) (plot_from m bs t r).marks
  unfolding plot_from
  plot-told m [] t r l v = off-told (waiting m.work) m t r _ refl v (λ i q w. none)
  plot-told m (b ∷ bs) t r l v =
      off-told (waiting m.work) m t r _ refl v
      (λ i q w. take-told i b t q (λ j p. plot_from j bs (t + 1) p) (omega arith) (λ p. plot-told (take_state i b) bs (t + 1) p (omega arith) (usable-take b w)))
