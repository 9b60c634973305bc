-- What calls over many bytes lead to: machines that fresh, take and draw would have led to as well.
use Rattle.std.specs.Prelude.{List, ◌∷◌, ℕ, suc, ◌<◌, get_or}
use Rattle.hpgl.specs.declared.State.{State}
use Rattle.hpgl.specs.Machine.{take_state, draw_state}
use Rattle.hpgl.specs.Made as made
use Rattle.hpgl.specs.Valid.{Usable}
use Rattle.hpgl.proofs.ValidKept.{usable-take, usable-draw}

-- by draws, and by takes of the first of these bytes, one after the other, each once
pub data Led : State → List ℕ → State → Type 0 where
  here : {m : State} {bs : List ℕ} → Led m bs m
  taken : {m i : State} {bs : List ℕ} (b : ℕ) → Led (take_state m b) bs i → Led m (b ∷ bs) i
  drawn : {m i : State} {bs : List ℕ} → Led (draw_state m) bs i → Led m bs i

-- a machine that may be used leads to such
pub usable-led : {m i : State} {bs : List ℕ} → Led m bs i → Usable m → Usable i
usable-led here w = w
usable-led (taken b l) w = usable-led l (usable-take b w)
usable-led (drawn l) w = usable-led l (usable-draw w)

-- "A machine comes only from these calls", and leads by bytes to such
pub made-led : {m i : State} {bs : List ℕ} → Led m bs i → ((k : ℕ) → get_or bs k 0 < 256) → made.Made m → made.Made i
made-led here h w = w
made-led (taken b l) h w = made-led l (λ k. h (suc k)) (made.take w b (h 0))
made-led (drawn l) h w = made-led l h (made.draw w)
