-- Two machines with one state are one, and so are two answers with one.
use Rattle.std.specs.Prelude.{◌≡◌, ℕ}
use mathlib.Core.HLevel.{is_prop→PathP}
use Rattle.hpgl.specs.declared.State.{State}
use Rattle.hpgl.specs.Valid.{Usable}
use Rattle.machine.specs.declared.Machine.{Machine}
use Rattle.machine.specs.declared.Fetched.{Fetched}
use Rattle.machine.specs.Calls.{Told, fetched_by}
use Rattle.machine.specs.UsableOnce.{usable-once}

abbrev pub machine_of : (s : State) → Usable s → Machine
machine_of s u = record { state = s; usable = u }

pub machine-is : (m : Machine) {s : State} (u : Usable s) → m.state ≡ s → m ≡ machine_of s u
machine-is m u e = λ i. record { state = e i; usable = is_prop→PathP (λ j. Usable (e j)) (λ j. usable-once (e j)) m.usable u i }

abbrev pub fetched_as : (t : Told) → Usable t.state → Fetched
fetched_as t u = record { machine = machine_of t.state u; length = t.length; number = t.number }

pub fetched-is : (f : Fetched) {t : Told} (u : Usable t.state) → fetched_by f ≡ t → f ≡ fetched_as t u
fetched-is f u e = λ i. record {
  machine = record { state = (e i).state; usable = is_prop→PathP (λ j. Usable (e j).state) (λ j. usable-once (e j).state) f.machine.usable u i };
  length = (e i).length;
  number = (e i).number;
}
