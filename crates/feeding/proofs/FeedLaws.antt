-- One step of feed, as equations of `feed_from`, and what feed leaves: a place within the bytes, no more strokes than records, a machine that the calls make.
--     at-end      idle, and no byte is left               at_byte, at-refused      idle, and the next byte is taken, or refused
--     at_held     a reply waits, and a byte is left
--     at-full     a segment waits, no record is free      at-hidden, at-stroke     a segment waits, and is drawn
use Rattle.std.specs.Prelude.{◌≡◌, Bool, true, false, cond, List, [], ◌∷◌, ℕ, suc, ◌+◌, ◌≤◌, ◌<◌, eqb, length, get_or}
use Rattle.std.proofs.Math.Path.{refl, sym}
use Rattle.std.proofs.Common.{◌∙◌, arith, eq-eqb, ne_eqb}
use Rattle.hpgl.specs.declared.State.{State}
use Rattle.hpgl.specs.declared.Stroke.{Stroke}
use Rattle.hpgl.specs.declared.Drawn.TheVariants as drawn
use Rattle.feeding.specs.DrawOff.{list_full, untaken}
use Rattle.hpgl.specs.Numbers.{busy}
use Rattle.hpgl.proofs.Cases.{pick}
use Rattle.hpgl.specs.Machine.{waiting, occupied, take_state, take_number, draw_state, draw_answer}
use Rattle.feeding.specs.Feed.{Feed, stop, store, drew, draw_off, counted, feed_from}
pub use Rattle.feeding.proofs.DrawOffLaws.{draw-less, draw-idle}
use Rattle.feeding.proofs.DrawOffLaws.{off-idle, off-full, off-draw, off-all, drew-all, held_number, held-state, Kept, stored-kept, drawn-kept, stop-kept, byte-kept, refused-kept}
use Rattle.hpgl.specs.Valid.{Usable}
use Rattle.hpgl.specs.Made.{Made}
use Rattle.feeding.specs.Led.{Led, usable-led, made-led}

-- ---- one step

-- what feed does once no segment waits
abbrev rest : List ℕ → ℕ → State → ℕ → Feed
rest [] t m r = stop m t 0
rest (b ∷ bs) t m r = cond (eqb (take_number m b) 0) (feed_from (take_state m b) bs (t + 1) r) (stop (take_state m b) (counted (take_number m b) t) (take_number m b))

by-rest : (m : State) (bs : List ℕ) (t r : ℕ) → feed_from m bs t r ≡ draw_off (waiting m.work) m t r (rest bs t)
unfolding feed_from
by-rest m [] t r = refl
by-rest m (b ∷ bs) t r = refl

abbrev full : ℕ → State → Feed
full t m = stop m t list_full

module _ (m : State) (t r : ℕ) (idle : waiting m.work ≡ 0) where
  by-idle : (bs : List ℕ) → feed_from m bs t r ≡ rest bs t m r
  unfolding draw_off
  by-idle bs = by-rest m bs t r ∙ off-idle drew (full t) (rest bs t) m r idle

  pub at-end : feed_from m [] t r ≡ stop m t 0
  at-end = by-idle []

  pub at_byte : (b : ℕ) (bs : List ℕ) → take_number m b ≡ 0 → feed_from m (b ∷ bs) t r ≡ feed_from (take_state m b) bs (t + 1) r
  at_byte b bs h = by-idle (b ∷ bs) ∙ rw (eq-eqb (take_number m b) 0 h) refl

  pub at-refused : (b : ℕ) (bs : List ℕ) → (take_number m b ≡ 0 → ⊥) → feed_from m (b ∷ bs) t r ≡ stop (take_state m b) (counted (take_number m b) t) (take_number m b)
  at-refused b bs h = by-idle (b ∷ bs) ∙ rw (ne_eqb (take_number m b) 0 h) refl

  -- "it counts as taken", a byte that is refused with another number than 20
  pub refused-counts : (b : ℕ) (bs : List ℕ) → (take_number m b ≡ 0 → ⊥) → (take_number m b ≡ 20 → ⊥) → feed_from m (b ∷ bs) t r ≡ stop (take_state m b) (t + 1) (take_number m b)
  unfolding counted untaken
  refused-counts b bs h k = at-refused b bs h ∙ rw (ne_eqb (take_number m b) busy k) refl

  -- "feed stops there and does not count it"
  pub at_held : (b : ℕ) (bs : List ℕ) → occupied m.work ≡ true → feed_from m (b ∷ bs) t r ≡ stop m t busy
  unfolding counted untaken
  at_held b bs h =
      let n = held_number m b h in
      at-refused b bs (λ e. omega (arith, sym n ∙ e)) ∙ (λ i. stop (held-state m b h i) (counted (n i) t) (n i))

  -- and with 20 in the place of the name, as document 02 has it
  pub held-is-20 : (b : ℕ) (bs : List ℕ) → occupied m.work ≡ true → feed_from m (b ∷ bs) t r ≡ stop m t 20
  held-is-20 b bs h = at_held b bs h

module _ (m : State) (bs : List ℕ) (t : ℕ) where
  pub at-full : 0 < waiting m.work → feed_from m bs t 0 ≡ stop m t list_full
  unfolding draw_off
  at-full h = by-rest m bs t 0 ∙ off-full drew (full t) (rest bs t) m h

  -- "else stop with 21"
  pub full-is-21 : 0 < waiting m.work → feed_from m bs t 0 ≡ stop m t 21
  full-is-21 h = at-full h

  -- a segment waits and a record is free, whatever the draw answers
  pub at-draw : (r : ℕ) → 0 < waiting m.work → feed_from m bs t (suc r) ≡ drew (draw_answer m) r (λ q. feed_from (draw_state m) bs t q)
  unfolding draw_off
  at-draw r h = by-rest m bs t (suc r) ∙ off-draw drew (full t) (rest bs t) m r h ∙ (λ i. drew (draw_answer m) r (λ q. sym (by-rest (draw_state m) bs t q) i))

  pub at-hidden : (r : ℕ) → 0 < waiting m.work → draw_answer m ≡ drawn.Hidden → feed_from m bs t (suc r) ≡ feed_from (draw_state m) bs t (suc r)
  unfolding drew
  at-hidden r h e = at-draw r h ∙ rw e refl

  pub at-stroke : (r : ℕ) (s : Stroke) → 0 < waiting m.work → draw_answer m ≡ drawn.Stroke s → feed_from m bs t (suc r) ≡ store s (feed_from (draw_state m) bs t r)
  unfolding drew
  at-stroke r s h e = at-draw r h ∙ rw e refl

-- ---- what feed leaves

module _ (t : ℕ) (bs : List ℕ) where
  abbrev Leaves : State → ℕ → Feed → Type 0
  Leaves m r f = Kept m t bs r f.state f.taken (length f.strokes)

  off-kept : (k : ℕ) (m : State) (r : ℕ) (idle : State → ℕ → Feed) → ((i : State) (q : ℕ) → Leaves i q (idle i q)) → Leaves m r (draw_off k m t r idle)
  unfolding draw_off drew
  off-kept k m r idle h =
      off-all drew (full t) idle Leaves h (λ i. stop-kept i t bs 0)
      (λ i q next l. drew-all store (Leaves i) (λ s p f. stored-kept) (draw_answer i) q next (λ p. drawn-kept (l p))) k m r

pub counted_next : (n t : ℕ) → (t ≤ counted n t) × (counted n t ≤ t + 1)
unfolding counted
counted_next n t = pick (λ (k : ℕ). (t ≤ k) × (k ≤ t + 1)) (untaken n) (omega arith, omega arith) (omega arith, omega arith)

kept : (m : State) (bs : List ℕ) (t r : ℕ) → Leaves t bs m r (feed_from m bs t r)
unfolding feed_from
kept m [] t r = off-kept t [] (waiting m.work) m r (λ i q. stop i t 0) (λ i q. stop-kept i t [] q)
kept m (b ∷ bs) t r = off-kept t (b ∷ bs) (waiting m.work) m r _ (λ i q. go i q (eqb (take_number i b) 0) (kept (take_state i b) bs (t + 1) q))
  where
    go : (i : State) (q : ℕ) (e : Bool) → Leaves (t + 1) bs (take_state i b) q (feed_from (take_state i b) bs (t + 1) q) →
        Leaves t (b ∷ bs) i q (cond e (feed_from (take_state i b) bs (t + 1) q) (stop (take_state i b) (counted (take_number i b) t) (take_number i b)))
    go i q true h = byte-kept i b bs t q h
    go i q false h = let k = counted_next (take_number i b) t in refused-kept i b bs t q _ k.0 k.1

-- no byte is taken twice, and none past the end
pub feed-place : (m : State) (bs : List ℕ) (t r : ℕ) → (t ≤ (feed_from m bs t r).taken) × ((feed_from m bs t r).taken ≤ t + length bs)
feed-place m bs t r = let k = kept m bs t r in (k.least, k.most)

-- the list takes every stroke
pub feed-stored : (m : State) (bs : List ℕ) (t r : ℕ) → length (feed_from m bs t r).strokes ≤ r
feed-stored m bs t r = (kept m bs t r).stored

-- take and draw would have led there, byte by byte
pub feed-led : (m : State) (bs : List ℕ) (t r : ℕ) → Led m bs (feed_from m bs t r).state
feed-led m bs t r = (kept m bs t r).led

-- so the machine after it may be used again, and comes from the calls if the one before it does
pub feed-usable : (m : State) (bs : List ℕ) (t r : ℕ) → Usable m → Usable (feed_from m bs t r).state
feed-usable m bs t r w = usable-led (feed-led m bs t r) w

pub feed-made : (m : State) (bs : List ℕ) (t r : ℕ) → ((k : ℕ) → get_or bs k 0 < 256) → Made m → Made (feed_from m bs t r).state
feed-made m bs t r h w = made-led (feed-led m bs t r) h w
