-- The answer of a feed, with a machine that holds its state: two answers with one list and one state are one.
use Rattle.std.specs.Prelude.{◌≡◌}
use mathlib.Core.HLevel.{is_prop→PathP}
use Rattle.hpgl.specs.Valid.{Usable}
use Rattle.machine.specs.UsableOnce.{usable-once}
use Rattle.machine.specs.Machines.{machine_of}
use Rattle.feed.specs.declared.Listed.{Listed}
use Rattle.feed.specs.Fed.{Held, listed_by}

abbrev pub listed_as : (h : Held) → Usable h.fed.state → Listed
listed_as h u = record { list = h.list; fed = record { machine = machine_of h.fed.state u; taken = h.fed.at; stored = h.fed.stored; number = h.fed.number } }

pub listed-is : (l : Listed) {h : Held} (u : Usable h.fed.state) → listed_by l ≡ h → l ≡ listed_as h u
listed-is l u e = λ i. record {
  list = (e i).list;
  fed = record {
    machine = record { state = (e i).fed.state; usable = is_prop→PathP (λ j. Usable (e j).fed.state) (λ j. usable-once (e j).fed.state) l.fed.machine.usable u i };
    taken = (e i).fed.at;
    stored = (e i).fed.stored;
    number = (e i).fed.number;
  };
}
