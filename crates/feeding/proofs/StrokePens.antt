-- The strokes that feed stores have a pen's number, 0 to 8.
-- Why: a stroke has the number of the machine's pen, and every machine that the calls make is valid.
use Rattle.std.specs.Prelude.{◌≡◌, refl, Bool, true, false, List, [], ◌∷◌, ℕ, zero, suc, ◌+◌, ◌≤◌, ◌<◌, eqb, get_or, Option, Some, None}
use Rattle.std.proofs.Common.{eqb-true}
use Rattle.std.proofs.lemmas.Bool.{eqb-false}
use Rattle.clip.specs.Clip.{clip}
use Rattle.clip.specs.declared.Point.{Point}
use Rattle.hpgl.specs.declared.Core.{Core}
use Rattle.hpgl.specs.declared.State.{State}
use Rattle.hpgl.specs.declared.Stroke.{Stroke}
use Rattle.hpgl.specs.declared.Work.{Work}
use Rattle.hpgl.specs.declared.Work.TheVariants.{Nothing, Line, Chords, Edges, Answer}
use Rattle.hpgl.specs.declared.Drawn.{Drawn}
use Rattle.hpgl.specs.declared.Drawn.TheVariants as drawn
use Rattle.hpgl.specs.Place.{limits}
use Rattle.hpgl.specs.Machine.{waiting, take_state, take_number, stroke_of, shown, chord_shown, edge_shown, no_edge, draw_work, draw_state, draw_answer}
use Rattle.feeding.specs.Feed.{drew, feed_from}
use Rattle.feeding.proofs.FeedLaws.{at-end, at_byte, at-refused, at-full, at-draw}
use Rattle.feeding.proofs.PartsOfFeed.{by-waiting}
use Rattle.hpgl.proofs.Cases.{pick}
use Rattle.hpgl.specs.Numbers.{most_pen}
use Rattle.hpgl.specs.Valid.{Valid, Every, none, more}
use Rattle.hpgl.proofs.ValidKept.{valid-take, valid-draw}

abbrev pub Penned : Stroke → Type 0
Penned s = s.pen ≤ most_pen

-- ---- a draw

abbrev DrawnPenned : Drawn → Type 0
DrawnPenned (drawn.Stroke s) = Penned s
DrawnPenned drawn.Hidden = Unit {0}
DrawnPenned drawn.Idle = Unit {0}

module _ (c : Core) (h : c.carriage.pen.number ≤ most_pen) where
  stroke-penned : (k : Option (Point × Point)) → DrawnPenned (stroke_of c.carriage.pen.number k)
  unfolding stroke_of
  stroke-penned None = tt
  stroke-penned (Some (s, t)) = h

  shown-penned : (a b : Point) → DrawnPenned (shown c a b)
  unfolding shown
  shown-penned a b = stroke-penned (clip (limits c.settings) a b)

work-penned : (m : State) (w : Work) → m.core.carriage.pen.number ≤ most_pen → DrawnPenned (draw_work m w)
unfolding draw_work chord_shown edge_shown
work-penned m Nothing h = tt
work-penned m (Line a b) h = shown-penned m.core h a b
work-penned m (Chords o i zero) h = tt
work-penned m (Chords o i (suc n)) h = shown-penned m.core h _ _
work-penned m (Edges i zero) h = tt
work-penned m (Edges i (suc n)) h = pick DrawnPenned (get_or m.store.edges i no_edge).down (shown-penned m.core h _ _) tt
work-penned m (Answer r) h = tt

draw-penned : (m : State) → Valid m → DrawnPenned (draw_answer m)
unfolding draw_answer
draw-penned m v = work-penned m m.work v.core.pen

-- ---- feed

module _ (bs : List ℕ) (t : ℕ) where
  abbrev Pens : State → ℕ → Type 0
  Pens m r = Valid m → Every Penned (feed_from m bs t r).strokes

  pens-full : (m : State) → 0 < waiting m.work → Pens m 0
  pens-full m w v = rw (at-full m bs t w) none

  pens-drew : (m : State) (d : Drawn) (r : ℕ) → DrawnPenned d → Valid m → ((q : ℕ) → Pens (draw_state m) q) → Every Penned (drew d r (λ q. feed_from (draw_state m) bs t q)).strokes
  unfolding drew
  pens-drew m (drawn.Stroke s) r p v h = more p (h r (valid-draw v))
  pens-drew m drawn.Hidden r p v h = h (suc r) (valid-draw v)
  pens-drew m drawn.Idle r p v h = h (suc r) (valid-draw v)

  pens-draw : (m : State) (r : ℕ) → 0 < waiting m.work → ((q : ℕ) → Pens (draw_state m) q) → Pens m (suc r)
  pens-draw m r w h v = rw (at-draw m bs t r w) (pens-drew m (draw_answer m) r (draw-penned m v) v h)

pens-byte : (b : ℕ) (bs : List ℕ) (t : ℕ) → ((m : State) (r : ℕ) → Pens bs (t + 1) m r) → (m : State) (r : ℕ) → waiting m.work ≡ 0 → Pens (b ∷ bs) t m r
pens-byte b bs t next m r w v = by_number (eqb (take_number m b) 0) refl
  where
    by_number : (z : Bool) → eqb (take_number m b) 0 ≡ z → Every Penned (feed_from m (b ∷ bs) t r).strokes
    by_number true e = rw (at_byte m t r w b bs (eqb-true (take_number m b) 0 e)) (next (take_state m b) r (valid-take b v))
    by_number false e = rw (at-refused m t r w b bs (eqb-false (take_number m b) 0 e)) none

pens : (bs : List ℕ) (t : ℕ) (m : State) (r : ℕ) → Pens bs t m r
pens [] t = by-waiting (Pens [] t) (λ m r w v. rw (at-end m t r w) none) (pens-full [] t) (pens-draw [] t)
pens (b ∷ bs) t = by-waiting (Pens (b ∷ bs) t) (pens-byte b bs t (pens bs (t + 1))) (pens-full (b ∷ bs) t) (pens-draw (b ∷ bs) t)

pub feed-pens : (m : State) (bs : List ℕ) (t r : ℕ) → Valid m → Every Penned (feed_from m bs t r).strokes
feed-pens m bs t r v = pens bs t m r v
