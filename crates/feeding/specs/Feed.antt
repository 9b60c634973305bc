-- The call feed (document 01, "The calls"): bytes in, strokes out into a lent list.
use Rattle.std.specs.Prelude.{ℕ, ◌+◌, cond, List, [], ◌∷◌, ◌++◌, eqb, ℤ, pos, length, drop}
use Rattle.hpgl.specs.declared.State.{State}
use Rattle.hpgl.specs.declared.Stroke.{Stroke}
use Rattle.hpgl.specs.declared.Drawn.{Drawn}
use Rattle.feeding.specs.DrawOff.{list_full, untaken, drew_by, draw_off_by}
use Rattle.hpgl.specs.Machine.{waiting, take_state, take_number}

-- "Answer: bytes taken, strokes stored, number (0 for none)": with the machine after it, and the strokes themselves, in order
pub record Feed : Type 0 where
  pub state : State
  pub taken : ℕ
  pub strokes : List Stroke
  pub number : ℕ

abbrev pub stop : State → ℕ → ℕ → Feed
stop m t n = record { state = m; taken = t; strokes = []; number = n }

-- a stroke is stored, and f is what follows
abbrev pub store : Stroke → Feed → Feed
store s f = record { state = f.state; taken = f.taken; strokes = s ∷ f.strokes; number = f.number }

-- a draw with r + 1 records free
unfoldable pub drew : Drawn → ℕ → (ℕ → Feed) → Feed
drew d r rest = drew_by store d r rest

-- "While a segment waits, draw if the list has a free record, else stop with 21": k segments wait, t bytes are taken, r records are free;
-- `idle` goes on once none waits
unfoldable pub draw_off : ℕ → State → ℕ → ℕ → (State → ℕ → Feed) → Feed
draw_off k m t r idle = draw_off_by drew (λ i. stop i t list_full) k m r idle

-- a byte that is refused with n, after t that were taken: "it counts as taken", but with 20 it does not (document 02, CR 5)
unfoldable pub counted : ℕ → ℕ → ℕ
counted n t = cond (untaken n) t (t + 1)

-- "When idle, take the next byte. Stop after a byte that is refused": t bytes are taken, and these are left
unfoldable pub feed_from : State → List ℕ → ℕ → ℕ → Feed
feed_from m [] t r = draw_off (waiting m.work) m t r (λ i q. stop i t 0)
feed_from m (b ∷ bs) t r =
    draw_off (waiting m.work) m t r
    (λ i q. cond (eqb (take_number i b) 0) (feed_from (take_state i b) bs (t + 1) q) (stop (take_state i b) (counted (take_number i b) t) (take_number i b)))

-- feed with these bytes and r free records
abbrev pub feed_of : State → List ℕ → ℕ → Feed
feed_of m bytes r = feed_from m bytes 0 r

-- "Records after those stored keep their content"
abbrev pub laid : List Stroke → List Stroke → List Stroke
laid ss records = ss ++ drop (length ss) records

-- a stroke as five numbers, and a list of numbers with strokes stored from its start on
unfoldable pub numbers_of : List Stroke → List ℤ
numbers_of [] = []
numbers_of (s ∷ ss) = pos s.pen ∷ s.x0 ∷ s.y0 ∷ s.x1 ∷ s.y1 ∷ numbers_of ss

abbrev pub laid_numbers : List Stroke → List ℤ → List ℤ
laid_numbers ss numbers = numbers_of ss ++ drop (length (numbers_of ss)) numbers
