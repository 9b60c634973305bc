-- A plot of a stretch stores refusals alone, draws nothing, and leaves the machine outside an instruction; and a refusal leaves it there in the first place.
-- Why: by the rows of the reader's table outside an instruction and its columns but that of letters; such an event leaves core and store and queues nothing.
use Rattle.std.specs.Prelude.{◌≡◌, Bool, cond, List, [], ◌∷◌, ◌⊎◌, ℕ, zero, suc, ◌+◌, eqb}
use Rattle.std.proofs.Math.Path.{refl}
use Rattle.std.proofs.Common.{◌∙◌, true≢false, inl, inr, arith, eq-eqb, ne_eqb}
use Rattle.std.proofs.Math.Bool.{true, false}
use Rattle.numerals.specs.declared.bytes.Class.{Class}
use Rattle.numerals.specs.declared.bytes.Class.TheVariants.{Blank, Semicolon, Letter, Digit, Sign, Point, Other}
use Rattle.numerals.specs.Bytes.{class_of}
use Rattle.reader.specs.declared.Event.{Event}
use Rattle.reader.specs.declared.Event.TheVariants.{Nothing, Named, Pair, Ended, Refused}
use Rattle.reader.specs.declared.Mode.{Mode}
use Rattle.reader.specs.declared.Mode.TheVariants.{Idle, First, Parameters, InNumber, PassOver, Label}
use Rattle.reader.specs.declared.Reader.{Reader}
use Rattle.reader.specs.declared.Step.{Step}
use Rattle.reader.specs.Inside.{inside}
use Rattle.reader.specs.InsideLaws.{passed-outside}
use Rattle.reader.specs.Reader.{unknown, label_end, go_on_of, quiet_of, refuse_of}
use Rattle.reader.specs.Step.{idle_of, first_of, pass_over_of, label_of, by_mode, step_of, passed_over}
use Rattle.hpgl.specs.declared.Acted.{Acted}
use Rattle.hpgl.specs.declared.State.{State}
use Rattle.hpgl.specs.Rules.{done, refuse, noted, act_on}
use Rattle.hpgl.specs.Machine.{waiting, replied, replying, occupied, queued, reader_after, applied, acted, take_state, take_number}
use Rattle.hpgl.proofs.Pins.{pinned}
use Rattle.hpgl.specs.Valid.{Every, none, more}
use Rattle.feeding.proofs.DrawOffLaws.{free-taken}
use Rattle.feeding.specs.Plot.{Plot, took, plot_from}
use Rattle.feeding.proofs.PlotLaws.{at-end, at-stuck, at_byte}
use Rattle.stretches.specs.Stretch.{is_letter, NoLetter, Outside, Unknown, Refuses}

-- ---- the reader

-- what a byte of a stretch may mean
unfoldable Quiet : Event → Type 0
Quiet Nothing = Unit {0}
Quiet (Named op) = ⊥
Quiet (Pair p) = ⊥
Quiet (Ended op n) = ⊥
Quiet (Refused k) = k ≡ unknown

record Passes (t : Step) : Type 0 where
  told : Quiet t.event
  out : inside t.reader.mode ≡ false

module _ (r : Reader) where
  quiet : (m : Mode) → inside m ≡ false → Passes (quiet_of r m)
  unfolding quiet_of go_on_of Quiet
  quiet m o = record { told = tt; out = o }

  refuses : (m : Mode) → inside m ≡ false → Passes (refuse_of r m unknown)
  unfolding refuse_of go_on_of Quiet
  refuses m o = record { told = refl; out = o }

  idle : (k : Class) → is_letter k ≡ false → Passes (idle_of r k)
  unfolding idle_of inside is_letter
  idle Blank h = quiet Idle refl
  idle Semicolon h = quiet Idle refl
  idle (Letter l) h = absurd (true≢false h)
  idle (Digit d) h = refuses PassOver refl
  idle (Sign s) h = refuses PassOver refl
  idle Point h = refuses PassOver refl
  idle Other h = refuses PassOver refl

  first : (a : ℕ) (k : Class) → is_letter k ≡ false → Passes (first_of r a k)
  unfolding first_of inside is_letter
  first a Blank h = refuses PassOver refl
  first a Semicolon h = refuses Idle refl
  first a (Letter l) h = absurd (true≢false h)
  first a (Digit d) h = refuses PassOver refl
  first a (Sign s) h = refuses PassOver refl
  first a Point h = refuses PassOver refl
  first a Other h = refuses PassOver refl

  pass-over : (k : Class) → is_letter k ≡ false → Passes (pass_over_of r k)
  unfolding pass_over_of inside is_letter
  pass-over Blank h = quiet PassOver refl
  pass-over Semicolon h = quiet Idle refl
  pass-over (Letter l) h = absurd (true≢false h)
  pass-over (Digit d) h = quiet PassOver refl
  pass-over (Sign s) h = quiet PassOver refl
  pass-over Point h = quiet PassOver refl
  pass-over Other h = quiet PassOver refl

  label : (t : Bool) → Passes (cond t (quiet_of r Idle) (quiet_of r Label))
  unfolding inside
  label true = quiet Idle refl
  label false = quiet Label refl

  passes-by_mode : (b : ℕ) (m : Mode) → inside m ≡ false → NoLetter b → Passes (by_mode r b m)
  unfolding by_mode label_of inside
  passes-by_mode b Idle o h = idle (class_of b) h
  passes-by_mode b (First a) o h = first a (class_of b) h
  passes-by_mode b Parameters o h = absurd (true≢false o)
  passes-by_mode b InNumber o h = absurd (true≢false o)
  passes-by_mode b PassOver o h = pass-over (class_of b) h
  passes-by_mode b Label o h = label (eqb b label_end)

  step-passes : (b : ℕ) → inside r.mode ≡ false → NoLetter b → Passes (step_of r b)
  unfolding step_of
  step-passes b o h = passes-by_mode b r.mode o h

-- ---- a byte is taken

after-out : (r : Reader) (n : ℕ) → inside r.mode ≡ false → inside (reader_after r n).mode ≡ false
unfolding reader_after
after-out r n o = go (eqb n 0)
  where
    go : (t : Bool) → inside (cond t r (passed_over r)).mode ≡ false
    go true = o
    go false = passed-outside r

passed-out : (r : Reader) (n : ℕ) → (n ≡ 0 → ⊥) → inside (reader_after r n).mode ≡ false
unfolding reader_after
passed-out r n z = rw (ne_eqb n 0 z) (passed-outside r)

-- such an event is carried out: the number is 0 or 1, and nothing is queued
record Idles (m : State) (r : Reader) (t : Acted) : Type 0 where
  number : (t.number ≡ 0) ⊎ (t.number ≡ unknown)
  outside : Outside (applied m r t)

event-idles : (m : State) (r : Reader) (e : Event) → Quiet e → inside r.mode ≡ false → Idles m r (noted (act_on m.core e))
unfolding act_on done refuse noted applied queued waiting replying replied Quiet
event-idles m r Nothing q o = record { number = inl refl; outside = record { idle = refl; silent = refl; out = after-out r 0 o } }
event-idles m r (Named op) q o = absurd q
event-idles m r (Pair p) q o = absurd q
event-idles m r (Ended op n) q o = absurd q
event-idles m r (Refused k) q o = record { number = inr q; outside = record { idle = refl; silent = refl; out = after-out r k o } }

-- nothing waits, so that a byte is taken
pub outside-free : {m : State} → Outside m → occupied m.work ≡ false
unfolding occupied
outside-free {m} h = rw (eq-eqb (waiting m.work) 0 h.idle, h.silent) refl

module _ (m : State) (b : ℕ) where
  is_state : occupied m.work ≡ false → take_state m b ≡ applied m (step_of m.reader b).reader (acted m b)
  unfolding take_state
  is_state w = rw w refl

  is_number : occupied m.work ≡ false → take_number m b ≡ (acted m b).number
  unfolding take_number
  is_number w = rw w refl

  module _ (h : Outside m) (l : NoLetter b) where
    idles : Idles m (step_of m.reader b).reader (acted m b)
    unfolding acted
    idles = let p = step-passes m.reader b h.out l in event-idles m (step_of m.reader b).reader (step_of m.reader b).event p.told p.out

    pub take-outside : Outside (take_state m b)
    take-outside = rw (is_state (outside-free h)) idles.outside

    pub take-unknown : (take_number m b ≡ 0) ⊎ (take_number m b ≡ unknown)
    take-unknown = rw (is_number (outside-free h)) idles.number

  -- what is carried out with a number that is not 0: nothing is queued, and the rest of the instruction is passed over
  refused-applied : ((acted m b).number ≡ 0 → ⊥) → Outside (applied m (step_of m.reader b).reader (acted m b))
  unfolding applied acted noted queued waiting replying replied
  refused-applied z = record {
    idle = rw ((pinned m.core (step_of m.reader b).event).refused z).0 refl;
    silent = rw ((pinned m.core (step_of m.reader b).event).refused z).0 refl;
    out = passed-out (step_of m.reader b).reader (acted m b).number z;
  }

  -- so any refusal leaves the machine outside
  pub refused-outside : occupied m.work ≡ false → (take_number m b ≡ 0 → ⊥) → Outside (take_state m b)
  refused-outside w n = rw (is_state w) (refused-applied (λ e. n (is_number w ∙ e)))

-- ---- a stretch is plotted

took-refuses : (n t r : ℕ) (next : ℕ → Plot) → (n ≡ 0) ⊎ (n ≡ unknown) → ((q : ℕ) → Refuses (next q)) → Refuses (took n t r next)
unfolding took Unknown
took-refuses zero t r next u h = h (suc r)
took-refuses (suc n) t r next (inl e) h = absurd (omega arith)
took-refuses (suc n) t r next (inr e) h = record { marks = more e (h r).marks; outside = (h r).outside }

pub stretch-refuses : (m : State) (bs : List ℕ) (t r : ℕ) → Outside m → Every NoLetter bs → Refuses (plot_from m bs t r)
stretch-refuses m [] t r h l = rw (at-end m t h.idle r) (record { marks = none; outside = h })
stretch-refuses m (b ∷ bs) t zero h l = rw (at-stuck m t h.idle b bs (free-taken m b (outside-free h))) (record { marks = none; outside = h })
stretch-refuses m (b ∷ bs) t (suc r) h (more l ls) =
    rw (at_byte m t h.idle b bs r (free-taken m b (outside-free h)))
    (took-refuses (take_number m b) (t + 1) r (λ q. plot_from (take_state m b) bs (t + 1) q) (take-unknown m b h l)
    (λ q. stretch-refuses (take_state m b) bs (t + 1) q (take-outside m b h l) ls))
