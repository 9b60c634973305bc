-- The call plot, beside those of document 01: a feed that goes on after a refused byte and stores the refusal among the strokes.
use Rattle.std.specs.Prelude.{ℕ, zero, suc, ◌+◌, cond, List, [], ◌∷◌, ◌++◌, ℤ, pos, length, drop}
use Rattle.hpgl.specs.declared.State.{State}
use Rattle.hpgl.specs.declared.Stroke.{Stroke}
use Rattle.hpgl.specs.declared.Drawn.{Drawn}
use Rattle.feeding.specs.DrawOff.{list_full, untaken, drew_by, draw_off_by}
use Rattle.hpgl.specs.Machine.{waiting, take_state, take_number}

-- what a record holds: a stroke, or a refusal with 01's number and the place of its byte, counted from 1
pub data Mark : Type 0 where
  stroke : Stroke → Mark
  refusal : ℕ → ℕ → Mark

-- the machine after it, the bytes taken, the marks in order, and 21 where the list was full before all was done, 20 where a reply waits (0 for none)
pub record Plot : Type 0 where
  pub state : State
  pub taken : ℕ
  pub marks : List Mark
  pub number : ℕ

abbrev pub stop : State → ℕ → ℕ → Plot
stop m t n = record { state = m; taken = t; marks = []; number = n }

-- a mark is stored, and f is what follows
abbrev pub store : Mark → Plot → Plot
store k f = record { state = f.state; taken = f.taken; marks = k ∷ f.marks; number = f.number }

-- a draw with r + 1 records free
unfoldable pub drew : Drawn → ℕ → (ℕ → Plot) → Plot
drew d r rest = drew_by (λ s. store (stroke s)) d r rest

-- a byte that was taken with the number n, as the t-th, with r + 1 records free: a refusal uses one
unfoldable pub took : ℕ → ℕ → ℕ → (ℕ → Plot) → Plot
took zero t r rest = rest (suc r)
took (suc n) t r rest = store (refusal (suc n) t) (rest r)

-- while a segment waits, draw: k segments wait, t bytes are taken, r records are free; `idle` goes on once none waits
unfoldable pub draw_off : ℕ → State → ℕ → ℕ → (State → ℕ → Plot) → Plot
draw_off k m t r idle = draw_off_by drew (λ i. stop i t list_full) k m r idle

-- when idle, take a byte; any byte may be refused, so that it too waits for a free record
unfoldable pub take_with : State → ℕ → ℕ → ℕ → (State → ℕ → Plot) → Plot
take_with m b t zero next = stop m t list_full
take_with m b t (suc r) next = took (take_number m b) (t + 1) r (λ q. next (take_state m b) q)

-- one that is not taken, for a reply waits, ends it there as it ends feed, and is neither counted nor stored
unfoldable pub take_on : State → ℕ → ℕ → ℕ → (State → ℕ → Plot) → Plot
take_on m b t r next = cond (untaken (take_number m b)) (stop m t (take_number m b)) (take_with m b t r next)

-- t bytes are taken, these are left, and r records are free
unfoldable pub plot_from : State → List ℕ → ℕ → ℕ → Plot
plot_from m [] t r = draw_off (waiting m.work) m t r (λ i q. stop i t 0)
plot_from m (b ∷ bs) t r = draw_off (waiting m.work) m t r (λ i q. take_on i b t q (λ j p. plot_from j bs (t + 1) p))

-- a mark as five numbers; a refusal has 0 in the place of a pen, which no stroke has
unfoldable pub numbers_of : List Mark → List ℤ
numbers_of [] = []
numbers_of (stroke s ∷ ks) = pos s.pen ∷ s.x0 ∷ s.y0 ∷ s.x1 ∷ s.y1 ∷ numbers_of ks
numbers_of (refusal n t ∷ ks) = pos 0 ∷ pos n ∷ pos t ∷ pos 0 ∷ pos 0 ∷ numbers_of ks

-- a list of numbers with the marks stored from its start on
abbrev pub laid_marks : List Mark → List ℤ → List ℤ
laid_marks ks numbers = numbers_of ks ++ drop (length (numbers_of ks)) numbers
