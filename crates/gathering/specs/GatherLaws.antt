-- Feed and plot as one: one step of either, as equations of `gather_from`.
use Rattle.std.specs.Prelude.{◌≡◌, refl, Bool, not, ◌||◌, List, [], ◌∷◌, eqb}
use Rattle.std.proofs.Math.Path.{ap}
use Rattle.std.proofs.Common.{◌∙◌, arith, eq-eqb, eqb-true}
use Rattle.std.proofs.Math.Bool.{true, false}
use Prim.Native.Nat.{ℕ, zero, suc, ◌+◌, ◌<◌}
use Rattle.hpgl.specs.declared.Work.{Work}
use Rattle.hpgl.specs.declared.Work.TheVariants.{Nothing, Line, Chords, Edges, Answer}
use Rattle.hpgl.specs.declared.State.{State}
use Rattle.hpgl.specs.declared.Drawn.{Drawn}
use Rattle.hpgl.specs.declared.Drawn.TheVariants as drawn
use Rattle.feeding.specs.DrawOff.{list_full}
use Rattle.hpgl.specs.Numbers.{busy}
use Rattle.hpgl.proofs.Cases.{never}
use Rattle.hpgl.specs.Machine.{waiting, replied, replying, occupied, take_state, take_number, draw_state, draw_answer}
use Rattle.feeding.specs.Feed as F
use Rattle.feeding.proofs.FeedLaws as feed
use Rattle.feeding.proofs.DrawOffLaws.{free-taken}
use Rattle.feeding.specs.Plot.{refusal, stop, store, drew}
use Rattle.feeding.proofs.PlotLaws as plot
use Rattle.gathering.specs.Gather.{marked, gather_from}

-- ---- what waits: segments, a reply, or neither

pub free-idle : (w : Work) → occupied w ≡ false → waiting w ≡ 0
unfolding occupied
free-idle w = go (eqb (waiting w) 0) refl
  where
    go : (b : Bool) → eqb (waiting w) 0 ≡ b → (not b || replying w) ≡ false → waiting w ≡ 0
    go true e h = eqb-true (waiting w) 0 e
    go false e h = never h refl

pub idle-free : (w : Work) → waiting w ≡ 0 → replying w ≡ false → occupied w ≡ false
unfolding occupied
idle-free w h k = rw (eq-eqb (waiting w) 0 h, k) refl

-- a reply waits alone
pub reply-alone : (w : Work) → replying w ≡ true → waiting w ≡ 0
unfolding replying replied waiting
reply-alone Nothing h = never refl h
reply-alone (Line a b) h = never refl h
reply-alone (Chords o i n) h = never refl h
reply-alone (Edges i n) h = never refl h
reply-alone (Answer r) h = refl

pub reply-held : (w : Work) → replying w ≡ true → occupied w ≡ true
unfolding occupied
reply-held w h = rw (eq-eqb (waiting w) 0 (reply-alone w h), h) refl

-- ---- one step

module _ (m : State) (t : ℕ) where
  pub at-end : waiting m.work ≡ 0 → (on : Bool) (r : ℕ) → gather_from on m [] t r ≡ stop m t 0
  unfolding gather_from
  at-end idle true r = plot.at-end m t idle r
  at-end idle false r = ap marked (feed.at-end m t r idle)

  -- "feed stops there and does not count it", and so does plot
  pub at_held : replying m.work ≡ true → (b : ℕ) (bs : List ℕ) (on : Bool) (r : ℕ) → gather_from on m (b ∷ bs) t r ≡ stop m t busy
  unfolding gather_from
  at_held h b bs true r = plot.at_held m t (reply-alone m.work h) b bs r (reply-held m.work h)
  at_held h b bs false r = ap marked (feed.at_held m t r (reply-alone m.work h) b bs (reply-held m.work h))

module _ (m : State) (t : ℕ) (free : occupied m.work ≡ false) where
  idle : waiting m.work ≡ 0
  idle = free-idle m.work free

  module _ (b : ℕ) (bs : List ℕ) where
    -- where refusals are stored, a byte waits for a record
    pub at-stuck : {on : Bool} → on ≡ true → gather_from on m (b ∷ bs) t 0 ≡ stop m t list_full
    unfolding gather_from
    at-stuck e = rw e (plot.at-stuck m t idle b bs (free-taken m b free))

    pub at_byte : (on : Bool) (r : ℕ) → (on ≡ true → 0 < r) → take_number m b ≡ 0 → gather_from on m (b ∷ bs) t r ≡ gather_from on (take_state m b) bs (t + 1) r
    unfolding gather_from
    at_byte true zero h e = absurd (omega (arith, h refl))
    at_byte true (suc r) h e = plot.at_byte m t idle b bs r (free-taken m b free) ∙ plot.took-none (t + 1) r _ e
    at_byte false r h e = ap marked (feed.at_byte m t r idle b bs e)

    module _ (refused : take_number m b ≡ 0 → ⊥) where
      pub at-refusal : {on : Bool} → on ≡ true → (r : ℕ) → gather_from on m (b ∷ bs) t (suc r) ≡ store (refusal (take_number m b) (t + 1)) (gather_from on (take_state m b) bs (t + 1) r)
      unfolding gather_from
      at-refusal e r = rw e (plot.at_byte m t idle b bs r (free-taken m b free) ∙ plot.took-refused (take_number m b) (t + 1) r _ refused)

      pub at-refused : {on : Bool} → on ≡ false → (r : ℕ) → gather_from on m (b ∷ bs) t r ≡ stop (take_state m b) (t + 1) (take_number m b)
      unfolding gather_from F.counted
      at-refused e r = rw e (ap marked (feed.at-refused m t r idle b bs refused) ∙ rw (free-taken m b free) refl)

marked-drew : (d : Drawn) (r : ℕ) (next : ℕ → F.Feed) → marked (F.drew d r next) ≡ drew d r (λ q. marked (next q))
unfolding drew F.drew
marked-drew (drawn.Stroke s) r next = refl
marked-drew drawn.Hidden r next = refl
marked-drew drawn.Idle r next = refl

module _ (m : State) (bs : List ℕ) (t : ℕ) (waits : 0 < waiting m.work) where
  pub at-full : (on : Bool) → gather_from on m bs t 0 ≡ stop m t list_full
  unfolding gather_from
  at-full true = plot.at-full m bs t waits
  at-full false = ap marked (feed.at-full m bs t waits)

  pub at-draw : (on : Bool) (r : ℕ) → gather_from on m bs t (suc r) ≡ drew (draw_answer m) r (λ q. gather_from on (draw_state m) bs t q)
  unfolding gather_from
  at-draw true r = plot.at-draw m bs t r waits
  at-draw false r = ap marked (feed.at-draw m bs t r waits) ∙ marked-drew (draw_answer m) r (λ q. F.feed_from (draw_state m) bs t q)
