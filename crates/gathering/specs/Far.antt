-- How far a feed or a plot is.
use Rattle.std.specs.Prelude.{◌≡◌, Bool, false, List, ◌++◌, ℕ, ◌+◌, ◌-◌, ◌/◌, ◌≤◌, ◌<◌, ℤ, length, get_or, drop}
use Rattle.reader.specs.declared.Reader.{Reader}
use Rattle.reader.specs.declared.Next.{Next}
use Rattle.reader.specs.Step.{step_of}
use Rattle.reader.specs.Stream.{◌telling◌}
use Rattle.hpgl.specs.declared.Core.{Core}
use Rattle.hpgl.specs.declared.Store.{Store}
use Rattle.hpgl.specs.declared.Work.{Work}
use Rattle.hpgl.specs.declared.State.{State}
use Rattle.hpgl.specs.Machine.{waiting, occupied}
use Rattle.feeding.specs.Plot.{Mark, Plot, laid_marks}
use Rattle.hpgl.specs.Valid.{Valid}
use Rattle.rulekit.specs.declared.places.Frame.{Frame}
use Rattle.rulekit.specs.Hand.{frame_of}
use Rattle.gathering.specs.Gather.{whole, gather_from}

-- marks that were stored before what f stores
abbrev pub before : List Mark → Plot → Plot
before ks f = record { state = f.state; taken = f.taken; marks = ks ++ f.marks; number = f.number }

-- all of it is `all`; the marks so far stand in the list, and what is left follows them
pub record Far (on : Bool) (all : Plot) (s : List ℕ) (entry now : List ℤ) (m : State) (at count : ℕ) : Type 0 where
  pub marks : List Mark
  pub counted : length marks ≡ count
  pub room : count ≤ length entry / 5
  pub long : length now ≡ length entry
  pub laid : now ≡ laid_marks marks entry
  pub valid : Valid m
  pub goes_on : all ≡ before marks (gather_from on m (drop at s) at (length entry / 5 - count))

-- the machine `next` has taken the bytes up to a place, core and store as they were, and q is what the byte there tells it
pub record Reached (on : Bool) (all : Plot) (s : List ℕ) (entry now : List ℤ) (m : State) (at count : ℕ) (q : Next) : Type 0 where
  pub reader : Reader
  pub work : Work
  pub place : ℕ
  pub further : at ≤ place
  pub within : place < length s
  pub ends : q.at ≡ place + 1
  pub step : (q.reader telling q.event) ≡ step_of reader (get_or s place 0)
  pub free : occupied work ≡ false
  pub far : Far on all s entry now (whole reader m.core m.store work) place count

-- ---- work that is drawn by a loop of its own

-- some feed or plot is so far, and this work waits; it has this frame and this pen
pub record Batching (now : List ℤ) (f : Frame) (pen : ℕ) (w : Work) (count : ℕ) : Type 0 where
  pub on : Bool
  pub all : Plot
  pub bytes : List ℕ
  pub entry : List ℤ
  pub reader : Reader
  pub core : Core
  pub store : Store
  pub at : ℕ
  pub framed : f ≡ frame_of core.settings
  pub held : pen ≡ core.carriage.pen.number
  pub some : 0 < waiting w
  pub far : Far on all bytes entry now (whole reader core store w) at count

-- how far it is once this work is left
abbrev pub Drew : {now : List ℤ} {f : Frame} {pen : ℕ} {w : Work} {count : ℕ} → Batching now f pen w count → List ℤ → Work → ℕ → Type 0
Drew d exit w k = Far d.on d.all d.bytes d.entry exit (whole d.reader d.core d.store w) d.at k
