-- What the reader says of the instruction that it is inside: it is inside one only after naming it, an instruction that ends is the one that was named last, and
-- a refusal leaves it inside none.
-- Why: each row of the reader's table keeps the code of the instruction, but for the second letter of a name; by cases over modes and classes.
use Rattle.std.specs.Prelude.{◌≡◌, Bool, cond, ℕ, eqb, Option, None, Some}
use Rattle.std.proofs.Math.Path.{refl}
use Rattle.std.proofs.Common.{sym, ◌∙◌, subst}
use Rattle.std.proofs.Math.Bool.{true, false}
use Rattle.std.proofs.lemmas.Bool.{false≢true}
use Rattle.numerals.specs.declared.bytes.Class.{Class}
use Rattle.numerals.specs.declared.bytes.Class.TheVariants.{Blank, Semicolon, Letter, Digit, Sign, Point, Other}
use Rattle.reader.specs.declared.Event.{Event}
use Rattle.reader.specs.declared.Event.TheVariants.{Nothing, Named, Pair, Ended, Refused}
use Rattle.reader.specs.declared.Closed.{Closed}
use Rattle.reader.specs.declared.Closed.TheVariants.{Kept, Complete, Faulty}
use Rattle.reader.specs.declared.Mode.{Mode}
use Rattle.reader.specs.declared.Mode.TheVariants.{Idle, First, Parameters, InNumber, PassOver, Label}
use Rattle.reader.specs.declared.Reader.{Reader}
use Rattle.reader.specs.declared.Step.{Step}
use Rattle.numerals.specs.declared.number.Number.{Number}
use Rattle.numerals.specs.Bytes.{class_of}
use Rattle.numerals.specs.Number.{digit_of, start_of, point_of}
use Rattle.mnemonics.specs.Table.{find_of, count_fits, is_label}
use Rattle.reader.specs.Reader.{go_on_of, quiet_of, refuse_of, begin_of, open_of, with_numbers, label_end, wrong_count}
use Rattle.reader.specs.Step.{found_of, name_of, end_of, complete_of, ending_of, after_number_of, close_with, closed_of, close_of, idle_of, first_of, parameters_of, in_number_of, pass_over_of, label_of, by_mode, step_of, passed_mode, passed_over}
use Rattle.reader.specs.Inside.{inside}

-- the same instruction, if any
pub record Stays (r s : Reader) : Type 0 where
  pub op : s.op ≡ r.op
  pub within : inside s.mode ≡ true → inside r.mode ≡ true

pub record Ends (r s : Reader) (code : ℕ) : Type 0 where
  pub op : r.op ≡ code
  pub within : inside r.mode ≡ true
  pub out : inside s.mode ≡ false

-- from a reader to the next, by the event between them
unfoldable pub Leads : Reader → Reader → Event → Type 0
Leads r s Nothing = Stays r s
Leads r s (Named op) = s.op ≡ op
Leads r s (Pair p) = Stays r s
Leads r s (Ended op n) = Ends r s op
Leads r s (Refused k) = (s.op ≡ r.op) × (inside s.mode ≡ false)

never : {X : Type 0} {t : Bool} → t ≡ false → t ≡ true → X
never h k = absurd (false≢true (sym h ∙ k))

passed : (m : Mode) → inside (passed_mode m) ≡ false
unfolding passed_mode inside
passed Idle = refl
passed (First a) = refl
passed Parameters = refl
passed InNumber = refl
passed PassOver = refl
passed Label = refl

record Tells (r : Reader) (t : Step) : Type 0 where
  told : Leads r t.reader t.event

module _ (r : Reader) where
  both : (t : Bool) {x y : Step} → Tells r x → Tells r y → Tells r (cond t x y)
  both true h k = h
  both false h k = k

  quiet : (m : Mode) → inside m ≡ false → Tells r (quiet_of r m)
  unfolding quiet_of go_on_of Leads
  quiet m o = record { told = record { op = refl; within = λ e. never o e } }

  refuses : (m : Mode) (n : ℕ) → inside m ≡ false → Tells r (refuse_of r m n)
  unfolding refuse_of go_on_of Leads
  refuses m n o = record { told = (refl, o) }

  passes : (n : ℕ) → Tells r (refuse_of r PassOver n)
  unfolding inside
  passes n = refuses PassOver n refl

  opens : (n : Number) → inside r.mode ≡ true → Tells r (open_of r n)
  unfolding open_of Leads
  opens n w = record { told = record { op = refl; within = λ e. w } }

  finds : (f : Option ℕ) → Tells r (found_of r f)
  unfolding found_of begin_of Leads
  finds (Some op) = record { told = refl }
  finds None = passes _

  names : (a b : ℕ) → Tells r (name_of r a b)
  unfolding name_of inside
  names a b = both (is_label a b) (refuses _ _ refl) (finds (find_of a b))

  ends : (m : Mode) → inside r.mode ≡ true → inside m ≡ false → Tells r (end_of r m)
  unfolding end_of go_on_of Leads
  ends m w o = both (count_fits r.op r.numbers.count) (record { told = record { op = refl; within = w; out = o } }) (refuses m wrong_count o)

  closes : (m : Mode) (k : Closed) → inside r.mode ≡ true → Tells r (close_with r m k)
  unfolding close_with after_number_of complete_of quiet_of end_of refuse_of go_on_of Leads with_numbers
  closes m (Kept ns) w = go (inside m) refl
    where
      go : (t : Bool) → inside m ≡ t → Tells r (cond t (quiet_of (with_numbers r ns) m) (end_of (with_numbers r ns) m))
      go true i = record { told = record { op = refl; within = λ e. w } }
      go false o =
          both (count_fits r.op ns.count) (record { told = record { op = refl; within = w; out = o } })
          (record { told = (refl, o) })
  closes m (Complete p) w = record { told = record { op = refl; within = λ e. w } }
  closes m (Faulty n) w = refuses (passed_mode m) n (passed m)

  idle : (k : Class) → Tells r (idle_of r k)
  unfolding idle_of inside
  idle Blank = quiet _ refl
  idle Semicolon = quiet _ refl
  idle (Letter l) = quiet _ refl
  idle (Digit d) = passes _
  idle (Sign s) = passes _
  idle Point = passes _
  idle Other = passes _

  first : (a : ℕ) (k : Class) → Tells r (first_of r a k)
  unfolding first_of inside
  first a Blank = passes _
  first a Semicolon = refuses _ _ refl
  first a (Letter b) = names a b
  first a (Digit d) = passes _
  first a (Sign s) = passes _
  first a Point = passes _
  first a Other = passes _

  parameters : (k : Class) → inside r.mode ≡ true → Tells r (parameters_of r k)
  unfolding parameters_of quiet_of go_on_of Leads inside
  parameters Blank w = record { told = record { op = refl; within = λ e. w } }
  parameters Semicolon w = ends Idle w refl
  parameters (Letter l) w = ends (First l) w refl
  parameters (Digit d) w = opens (digit_of (start_of false) d) w
  parameters (Sign s) w = opens (start_of s) w
  parameters Point w = opens (point_of (start_of false)) w
  parameters Other w = passes _

  in-number : (k : Class) → inside r.mode ≡ true → Tells r (in_number_of r k)
  unfolding in_number_of close_of
  in-number Blank w = closes (ending_of Blank) (closed_of r) w
  in-number Semicolon w = closes (ending_of Semicolon) (closed_of r) w
  in-number (Letter l) w = closes (ending_of (Letter l)) (closed_of r) w
  in-number (Digit d) w = opens (digit_of r.number d) w
  in-number (Sign s) w = passes _
  in-number Point w = both r.number.pointed (passes _) (opens (point_of r.number) w)
  in-number Other w = passes _

  pass-over : (k : Class) → Tells r (pass_over_of r k)
  unfolding pass_over_of inside
  pass-over Blank = quiet _ refl
  pass-over Semicolon = quiet _ refl
  pass-over (Letter l) = quiet _ refl
  pass-over (Digit d) = quiet _ refl
  pass-over (Sign s) = quiet _ refl
  pass-over Point = quiet _ refl
  pass-over Other = quiet _ refl

  tells-by_mode : (b : ℕ) (m : Mode) → r.mode ≡ m → Tells r (by_mode r b m)
  unfolding by_mode label_of inside
  tells-by_mode b Idle e = idle (class_of b)
  tells-by_mode b (First a) e = first a (class_of b)
  tells-by_mode b Parameters e = parameters (class_of b) (rw e refl)
  tells-by_mode b InNumber e = in-number (class_of b) (rw e refl)
  tells-by_mode b PassOver e = pass-over (class_of b)
  tells-by_mode b Label e = both (eqb b label_end) (quiet _ refl) (quiet _ refl)

  pub step-tells : (b : ℕ) → Leads r (step_of r b).reader (step_of r b).event
  unfolding step_of
  step-tells b = (tells-by_mode b r.mode refl).told

-- what a refusal leaves is inside no instruction
pub passed-outside : (r : Reader) → inside (passed_over r).mode ≡ false
unfolding passed_over
passed-outside r = passed r.mode

-- what the reader itself refuses has its mode already: nothing more is passed over, and the text of LB stays a text
pub refused-passed : (r : Reader) (b k : ℕ) → (step_of r b).event ≡ Refused k → passed_over (step_of r b).reader ≡ (step_of r b).reader
unfolding passed_over passed_mode Leads
refused-passed r b k e =
    let outside : inside (step_of r b).reader.mode ≡ false = (subst (λ (x : Event). Leads r (step_of r b).reader x) e (step-tells r b)).1 in
    rw outside refl
