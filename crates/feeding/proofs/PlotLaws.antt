-- One step of plot, as equations of `plot_from`, and what plot leaves: a place within the bytes, no more marks than records, a machine that the calls make.
--     at-end      idle, and no byte is left                at-full      a segment waits, no record is free
--     at_byte     idle, and a byte is taken, or refused    at-draw      a segment waits, and is drawn
--     at-stuck    idle, a byte is left, and no record is free
--     at_held     a reply waits, and a byte is left
use Rattle.std.specs.Prelude.{◌≡◌, true, false, List, [], ◌∷◌, length, get_or}
use Rattle.std.proofs.Math.Path.{refl, sym, ap}
use Rattle.std.proofs.Common.{◌∙◌}
use Rattle.std.proofs.Math.Bool.{cond}
use Prim.Native.Nat.{ℕ, zero, suc, ◌+◌, ◌≤◌, ◌<◌}
use Rattle.hpgl.specs.declared.State.{State}
use Rattle.feeding.specs.DrawOff.{list_full, untaken}
use Rattle.hpgl.specs.Numbers.{busy}
use Rattle.hpgl.proofs.Cases.{pick}
use Rattle.hpgl.specs.Machine.{waiting, occupied, take_state, take_number, draw_state, draw_answer}
use Rattle.feeding.specs.Plot.{Plot, stroke, refusal, stop, store, drew, took, draw_off, take_with, take_on, plot_from}
use Rattle.feeding.proofs.DrawOffLaws.{off-idle, off-full, off-draw, off-all, drew-all, held_number, Kept, stored-kept, drawn-kept, stop-kept, byte-kept}
use Rattle.hpgl.specs.Valid.{Usable}
use Rattle.hpgl.specs.Made.{Made}
use Rattle.feeding.specs.Led.{Led, usable-led, made-led}

-- ---- one step

-- what plot does once no segment waits
abbrev rest : List ℕ → ℕ → State → ℕ → Plot
rest [] t m r = stop m t 0
rest (b ∷ bs) t m r = take_on m b t r (λ j p. plot_from j bs (t + 1) p)

by-rest : (m : State) (bs : List ℕ) (t r : ℕ) → plot_from m bs t r ≡ draw_off (waiting m.work) m t r (rest bs t)
unfolding plot_from
by-rest m [] t r = refl
by-rest m (b ∷ bs) t r = refl

abbrev full : ℕ → State → Plot
full t m = stop m t list_full

module _ (m : State) (t : ℕ) (idle : waiting m.work ≡ 0) where
  by-idle : (bs : List ℕ) (r : ℕ) → plot_from m bs t r ≡ rest bs t m r
  unfolding draw_off
  by-idle bs r = by-rest m bs t r ∙ off-idle drew (full t) (rest bs t) m r idle

  pub at-end : (r : ℕ) → plot_from m [] t r ≡ stop m t 0
  at-end r = by-idle [] r

  module _ (b : ℕ) (bs : List ℕ) where
    pub at-stuck : untaken (take_number m b) ≡ false → plot_from m (b ∷ bs) t 0 ≡ stop m t list_full
    unfolding take_on take_with
    at-stuck h = by-idle (b ∷ bs) 0 ∙ rw h refl

    pub at_byte : (r : ℕ) → untaken (take_number m b) ≡ false → plot_from m (b ∷ bs) t (suc r) ≡ took (take_number m b) (t + 1) r (λ q. plot_from (take_state m b) bs (t + 1) q)
    unfolding take_on take_with
    at_byte r h = by-idle (b ∷ bs) (suc r) ∙ rw h refl

    pub at_held : (r : ℕ) → occupied m.work ≡ true → plot_from m (b ∷ bs) t r ≡ stop m t busy
    unfolding take_on untaken
    at_held r h = by-idle (b ∷ bs) r ∙ ap (λ (n : ℕ). cond (untaken n) (stop m t n) (take_with m b t r (λ j p. plot_from j bs (t + 1) p))) (held_number m b h)

module _ (m : State) (bs : List ℕ) (t : ℕ) where
  pub at-full : 0 < waiting m.work → plot_from m bs t 0 ≡ stop m t list_full
  unfolding draw_off
  at-full h = by-rest m bs t 0 ∙ off-full drew (full t) (rest bs t) m h

  pub at-draw : (r : ℕ) → 0 < waiting m.work → plot_from m bs t (suc r) ≡ drew (draw_answer m) r (λ q. plot_from (draw_state m) bs t q)
  unfolding draw_off
  at-draw r h = by-rest m bs t (suc r) ∙ off-draw drew (full t) (rest bs t) m r h ∙ (λ i. drew (draw_answer m) r (λ q. sym (by-rest (draw_state m) bs t q) i))

-- a byte's number: 0, or a refusal
pub took-none : {n : ℕ} (t r : ℕ) (next : ℕ → Plot) → n ≡ 0 → took n t r next ≡ next (suc r)
unfolding took
took-none t r next e = rw e refl

pub took-refused : (n t r : ℕ) (next : ℕ → Plot) → (n ≡ 0 → ⊥) → took n t r next ≡ store (refusal n t) (next r)
unfolding took
took-refused zero t r next f = absurd (f refl)
took-refused (suc n) t r next f = refl

-- ---- what plot leaves

module _ (t : ℕ) (bs : List ℕ) where
  abbrev Leaves : State → ℕ → Plot → Type 0
  Leaves m r f = Kept m t bs r f.state f.taken (length f.marks)

  took-kept : (m : State) (k i r : ℕ) (next : ℕ → Plot) → ((q : ℕ) → Leaves m q (next q)) → Leaves m (suc r) (took k i r next)
  unfolding took
  took-kept m zero i r next h = h (suc r)
  took-kept m (suc k) i r next h = stored-kept (h r)

  off-kept : (k : ℕ) (m : State) (r : ℕ) (idle : State → ℕ → Plot) → ((i : State) (q : ℕ) → Leaves i q (idle i q)) → Leaves m r (draw_off k m t r idle)
  unfolding draw_off drew
  off-kept k m r idle h =
      off-all drew (full t) idle Leaves h (λ i. stop-kept i t bs 0)
      (λ i q next l. drew-all (λ s. store (stroke s)) (Leaves i) (λ s p f. stored-kept) (draw_answer i) q next (λ p. drawn-kept (l p))) k m r

with-kept : (m : State) (b : ℕ) (bs : List ℕ) (t r : ℕ) (next : State → ℕ → Plot) →
    ((q : ℕ) → Leaves (t + 1) bs (take_state m b) q (next (take_state m b) q)) → Leaves t (b ∷ bs) m r (take_with m b t r next)
unfolding take_with
with-kept m b bs t zero next h = stop-kept m t (b ∷ bs) 0
with-kept m b bs t (suc r) next h =
    took-kept t (b ∷ bs) m (take_number m b) (t + 1) r (λ q. next (take_state m b) q) (λ q. byte-kept m b bs t q (h q))

take-kept : (m : State) (b : ℕ) (bs : List ℕ) (t r : ℕ) (next : State → ℕ → Plot) →
    ((q : ℕ) → Leaves (t + 1) bs (take_state m b) q (next (take_state m b) q)) → Leaves t (b ∷ bs) m r (take_on m b t r next)
unfolding take_on
take-kept m b bs t r next h = pick (Leaves t (b ∷ bs) m r) (untaken (take_number m b)) (stop-kept m t (b ∷ bs) r) (with-kept m b bs t r next h)

kept : (m : State) (bs : List ℕ) (t r : ℕ) → Leaves t bs m r (plot_from m bs t r)
unfolding plot_from
kept m [] t r = off-kept t [] (waiting m.work) m r (λ i q. stop i t 0) (λ i q. stop-kept i t [] q)
kept m (b ∷ bs) t r =
    off-kept t (b ∷ bs) (waiting m.work) m r _
    (λ i q. take-kept i b bs t q (λ j p. plot_from j bs (t + 1) p) (λ p. kept (take_state i b) bs (t + 1) p))

-- no byte is taken twice, and none past the end
pub plot-place : (m : State) (bs : List ℕ) (t r : ℕ) → (t ≤ (plot_from m bs t r).taken) × ((plot_from m bs t r).taken ≤ t + length bs)
plot-place m bs t r = let k = kept m bs t r in (k.least, k.most)

-- the list takes every mark
pub plot-stored : (m : State) (bs : List ℕ) (t r : ℕ) → length (plot_from m bs t r).marks ≤ r
plot-stored m bs t r = (kept m bs t r).stored

-- take and draw would have led there, byte by byte
pub plot-led : (m : State) (bs : List ℕ) (t r : ℕ) → Led m bs (plot_from m bs t r).state
plot-led m bs t r = (kept m bs t r).led

-- so the machine after it may be used again, and comes from the calls if the one before it does
pub plot-usable : (m : State) (bs : List ℕ) (t r : ℕ) → Usable m → Usable (plot_from m bs t r).state
plot-usable m bs t r w = usable-led (plot-led m bs t r) w

pub plot-made : (m : State) (bs : List ℕ) (t r : ℕ) → ((k : ℕ) → get_or bs k 0 < 256) → Made m → Made (plot_from m bs t r).state
plot-made m bs t r h w = made-led (plot-led m bs t r) h w
