-- What feed and plot share: each draw works off one segment, one step of drawing off, and what is left after it.
use Rattle.std.specs.Prelude.{◌≡◌, refl, true, false, cond, List, ◌∷◌, ℕ, zero, suc, ◌+◌, ◌≤◌, ◌<◌, eqb, length}
use Rattle.std.proofs.Common.{sym, ap, ◌∙◌, arith, ne_eqb}
use Rattle.hpgl.specs.declared.Work.{Work}
use Rattle.hpgl.specs.declared.Work.TheVariants.{Nothing, Line, Chords, Edges, Answer}
use Rattle.hpgl.specs.declared.State.{State}
use Rattle.hpgl.specs.declared.Stroke.{Stroke}
use Rattle.hpgl.specs.declared.Drawn.{Drawn}
use Rattle.hpgl.specs.declared.Drawn.TheVariants as answer
use Rattle.hpgl.specs.Machine.{waiting, occupied, work_after, take_state, take_number, draw_work, draw_state, draw_answer}
use Rattle.feeding.specs.DrawOff.{untaken, drew_by, draw_off_by}
use Rattle.hpgl.specs.Numbers.{busy}
use Rattle.hpgl.proofs.Pins.{take-free}
use Rattle.feeding.specs.Led.{Led, here, taken, drawn}

-- ---- how many segments wait, and what draw answers

left_after : (n : ℕ) (w : Work) → waiting w ≡ n → waiting (cond (eqb n 0) Nothing w) ≡ n
unfolding waiting
left_after zero w h = refl
left_after (suc n) w h = rw (ne_eqb (suc n) 0 (λ e. omega arith)) h

work-less : (w : Work) (k : ℕ) → waiting w ≡ suc k → waiting (work_after w) ≡ k
unfolding waiting work_after
work-less Nothing k h = absurd (omega arith)
work-less (Line a b) k h = omega arith
work-less (Chords o i zero) k h = absurd (omega arith)
work-less (Chords o i (suc n)) k h = left_after n (Chords o (i + 1) n) refl ∙ omega arith
work-less (Edges i zero) k h = absurd (omega arith)
work-less (Edges i (suc n)) k h = left_after n (Edges (i + 1) n) refl ∙ omega arith
work-less (Answer r) k h = absurd (omega arith)

-- a draw works off one segment
pub draw-less : (m : State) (k : ℕ) → waiting m.work ≡ suc k → waiting (draw_state m).work ≡ k
unfolding draw_state
draw-less m k h = work-less m.work k h

idle-work : (m : State) (w : Work) → waiting w ≡ 0 → draw_work m w ≡ answer.Idle
unfolding waiting draw_work
idle-work m Nothing h = refl
idle-work m (Line a b) h = absurd (omega arith)
idle-work m (Chords o i zero) h = refl
idle-work m (Chords o i (suc n)) h = absurd (omega arith)
idle-work m (Edges i zero) h = refl
idle-work m (Edges i (suc n)) h = absurd (omega arith)
idle-work m (Answer r) h = refl

-- "or idle if none waits"
pub draw-idle : (m : State) → waiting m.work ≡ 0 → draw_answer m ≡ answer.Idle
unfolding draw_answer
draw-idle m h = idle-work m m.work h

-- ---- a byte that is not taken

-- "While a reply waits a byte is refused with 20", and the machine stays
pub held_number : (m : State) (b : ℕ) → occupied m.work ≡ true → take_number m b ≡ busy
unfolding take_number
held_number m b h = rw h refl

pub held-state : (m : State) (b : ℕ) → occupied m.work ≡ true → take_state m b ≡ m
unfolding take_state
held-state m b h = rw h refl

-- and any other is
pub free-taken : (m : State) (b : ℕ) → occupied m.work ≡ false → untaken (take_number m b) ≡ false
unfolding untaken
free-taken m b h = ne_eqb (take_number m b) busy (take-free m b h)

pub none-taken : (n : ℕ) → n ≡ 0 → untaken n ≡ false
unfolding untaken
none-taken n h = rw h refl

-- ---- one step

module _ {A : Type 0} (drew : Drawn → ℕ → (ℕ → A) → A) (full : State → A) (idle : State → ℕ → A) where
  abbrev pub off : State → ℕ → A
  off m r = draw_off_by drew full (waiting m.work) m r idle

  pub off-idle : (m : State) (r : ℕ) → waiting m.work ≡ 0 → off m r ≡ idle m r
  off-idle m r h = ap (λ (k : ℕ). draw_off_by drew full k m r idle) h

  pub off-full : (m : State) → 0 < waiting m.work → off m 0 ≡ full m
  off-full m h = go (waiting m.work) h
    where
      go : (k : ℕ) → 0 < k → draw_off_by drew full k m 0 idle ≡ full m
      go zero h = absurd (omega (arith, h))
      go (suc k) h = refl

  pub off-draw : (m : State) (r : ℕ) → 0 < waiting m.work → off m (suc r) ≡ drew (draw_answer m) r (λ q. off (draw_state m) q)
  off-draw m r h = go (waiting m.work) refl h
    where
      go : (k : ℕ) → waiting m.work ≡ k → 0 < k → draw_off_by drew full k m (suc r) idle ≡ drew (draw_answer m) r (λ q. off (draw_state m) q)
      go zero e h = absurd (omega (arith, h))
      go (suc k) e h = ap (λ (j : ℕ). drew (draw_answer m) r (λ q. draw_off_by drew full j (draw_state m) q idle)) (sym (draw-less m k e))

  -- what holds where nothing waits and where no record is free, and holds before a draw if it does after it, holds
  pub off-all : (P : State → ℕ → A → Type 0) → ((m : State) (r : ℕ) → P m r (idle m r)) → ((m : State) → P m 0 (full m))
      → ((m : State) (r : ℕ) (next : ℕ → A) → ((q : ℕ) → P (draw_state m) q (next q)) → P m (suc r) (drew (draw_answer m) r next))
      → (k : ℕ) (m : State) (r : ℕ) → P m r (draw_off_by drew full k m r idle)
  off-all P i f d zero m r = i m r
  off-all P i f d (suc k) m zero = f m
  off-all P i f d (suc k) m (suc r) = d m r (λ q. draw_off_by drew full k (draw_state m) q idle) (λ q. off-all P i f d k (draw_state m) q)

-- a stroke uses a record
pub drew-all : {A : Type 0} (store : Stroke → A → A) (P : ℕ → A → Type 0) → ((s : Stroke) (r : ℕ) (f : A) → P r f → P (suc r) (store s f))
    → (d : Drawn) (r : ℕ) (next : ℕ → A) → ((q : ℕ) → P q (next q)) → P (suc r) (drew_by store d r next)
drew-all store P k (answer.Stroke s) r next h = k s r (next r) (h r)
drew-all store P k answer.Hidden r next h = h (suc r)
drew-all store P k answer.Idle r next h = h (suc r)

-- ---- what is left

-- from the machine m, with t bytes taken, these bytes left and r records free, to the machine i, with k bytes taken and j records used
pub record Kept (m : State) (t : ℕ) (bs : List ℕ) (r : ℕ) (i : State) (k j : ℕ) : Type 0 where
  pub least : t ≤ k
  pub most : k ≤ t + length bs
  pub stored : j ≤ r
  pub led : Led m bs i

module _ {t : ℕ} {bs : List ℕ} {i : State} {k j : ℕ} where
  pub stored-kept : {m : State} {r : ℕ} → Kept m t bs r i k j → Kept m t bs (suc r) i k (suc j)
  stored-kept h = record { least = h.least; most = h.most; stored = omega (arith, h.stored); led = h.led }

  pub drawn-kept : {m : State} {r : ℕ} → Kept (draw_state m) t bs r i k j → Kept m t bs r i k j
  drawn-kept h = record { least = h.least; most = h.most; stored = h.stored; led = drawn h.led }

pub stop-kept : (m : State) (t : ℕ) (bs : List ℕ) (r : ℕ) → Kept m t bs r m t 0
stop-kept m t bs r = record { least = omega arith; most = omega arith; stored = omega arith; led = here }

-- a byte is taken, and what is left follows
pub byte-kept : {i : State} {k j : ℕ} (m : State) (b : ℕ) (bs : List ℕ) (t r : ℕ) → Kept (take_state m b) (t + 1) bs r i k j → Kept m t (b ∷ bs) r i k j
byte-kept m b bs t r h = record {
  least = omega (arith, h.least);
  most = omega (arith, h.most);
  stored = h.stored;
  led = taken b h.led;
}

-- a byte that is refused, and counted or not
pub refused-kept : (m : State) (b : ℕ) (bs : List ℕ) (t r k : ℕ) → t ≤ k → k ≤ t + 1 → Kept m t (b ∷ bs) r (take_state m b) k 0
refused-kept m b bs t r k l u = record { least = l; most = omega (arith, u); stored = omega arith; led = taken b here }
