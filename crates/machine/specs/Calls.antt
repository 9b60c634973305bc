-- What the calls answer, whole: the machine after them, with 01's number, what was drawn, or how many bytes were written.
use Rattle.std.specs.Prelude.{ℕ, length}
use Rattle.clip.specs.declared.Rect.{Rect}
use Rattle.hpgl.specs.declared.Drawn.{Drawn}
use Rattle.hpgl.specs.declared.State.{State}
use Rattle.hpgl.specs.Machine.{fresh_state, fresh_number, take_state, take_number, draw_state, draw_answer, fetch_state, fetch_number, fetch_text}
use Rattle.machine.specs.declared.Started.{Started}
use Rattle.machine.specs.declared.Taken.{Taken}
use Rattle.machine.specs.declared.Worked.{Worked}
use Rattle.machine.specs.declared.Fetched.{Fetched}

-- of fresh and take: the machine after it, and 01's number
pub record Numbered : Type 0 where
  pub state : State
  pub number : ℕ

-- of draw
pub record Drew : Type 0 where
  pub state : State
  pub drawn : Drawn

-- of fetch
pub record Told : Type 0 where
  pub state : State
  pub length : ℕ
  pub number : ℕ

abbrev pub started_by : Started → Numbered
started_by a = record { state = a.machine.state; number = a.number }

unfoldable pub started_of : Rect → Numbered
started_of r = record { state = fresh_state r; number = fresh_number r }

abbrev pub taken_by : Taken → Numbered
taken_by a = record { state = a.machine.state; number = a.number }

unfoldable pub taken_of : State → ℕ → Numbered
taken_of m b = record { state = take_state m b; number = take_number m b }

abbrev pub worked_by : Worked → Drew
worked_by a = record { state = a.machine.state; drawn = a.drawn }

unfoldable pub worked_of : State → Drew
worked_of m = record { state = draw_state m; drawn = draw_answer m }

abbrev pub fetched_by : Fetched → Told
fetched_by a = record { state = a.machine.state; length = a.length; number = a.number }

-- fetch with a buffer of so many bytes
unfoldable pub fetched_from : State → ℕ → Told
fetched_from m room = record { state = fetch_state m room; length = length (fetch_text m room); number = fetch_number m room }
