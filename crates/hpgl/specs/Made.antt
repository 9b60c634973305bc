-- "A machine comes only from these calls": fresh, with any four numbers, bad ones too; take, with any byte; draw; fetch, with a buffer of
-- any length.
-- `made-usable` (ValidKept.antt) proves that each of them is usable, so that what the calls need keeps nobody out.
use Rattle.std.specs.Prelude.{ℕ, ◌<◌}
use Rattle.clip.specs.declared.Rect.{Rect}
use Rattle.hpgl.specs.declared.State.{State}
use Rattle.hpgl.specs.Machine.{fresh_state, take_state, draw_state, fetch_state}

pub data Made : State → Type 0 where
  fresh : (r : Rect) → Made (fresh_state r)
  take : {m : State} → Made m → (b : ℕ) → b < 256 → Made (take_state m b)
  draw : {m : State} → Made m → Made (draw_state m)
  fetch : {m : State} → Made m → (room : ℕ) → Made (fetch_state m room)
