-- A run of bytes: they are taken one by one, up to the first that is refused or makes a segment wait. One that a waiting reply refuses is not taken, as by feed.
use Rattle.std.specs.Prelude.{ℕ, ◌+◌, cond, List, [], ◌∷◌, eqb}
use Rattle.hpgl.specs.declared.State.{State}
use Rattle.hpgl.specs.Machine.{waiting, take_state, take_number}
use Rattle.feeding.specs.Feed.{counted}
use Rattle.machine.specs.declared.Ran.{Ran}

-- the machine after a run, the place after the last byte that it took, and that byte's number
pub record Run : Type 0 where
  pub state : State
  pub at : ℕ
  pub number : ℕ

abbrev pub ran_of : State → ℕ → ℕ → Run
ran_of m at n = record { state = m; at = at; number = n }

abbrev pub ran_by : Ran → Run
ran_by r = ran_of r.machine.state r.at r.number

-- the bytes from the place `at` on: the machine after the last that is taken, the place after it, and its number
unfoldable pub run_of : State → List ℕ → ℕ → Run
run_of m [] at = ran_of m at 0
run_of m (b ∷ bs) at =
    cond (eqb (waiting m.work) 0)
    (cond (eqb (take_number m b) 0) (run_of (take_state m b) bs (at + 1)) (ran_of (take_state m b) (counted (take_number m b) at) (take_number m b)))
    (ran_of m at 0)
