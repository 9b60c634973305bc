-- The reader refuses with 1, 2 or 3, and with no other number.
use Rattle.std.specs.Prelude.{Bool, cond, ℕ, T, eqb, ℤ, Option, None, Some}
use Rattle.std.proofs.Math.Bool.{true, false}
use Rattle.numerals.specs.declared.bytes.Class.{Class}
use Rattle.numerals.specs.declared.bytes.Class.TheVariants.{Blank, Semicolon, Letter, Digit, Sign, Point, Other}
use Rattle.reader.specs.declared.Event.TheVariants.{Ended}
use Rattle.reader.specs.declared.Closed.{Closed}
use Rattle.reader.specs.declared.Closed.TheVariants.{Kept, Complete, Faulty}
use Rattle.reader.specs.declared.Mode.{Mode}
use Rattle.reader.specs.declared.Mode.TheVariants.{Idle, First, Parameters, InNumber, PassOver, Label}
use Rattle.reader.specs.declared.Reader.{Reader}
use Rattle.numerals.specs.Bytes.{class_of}
use Rattle.numerals.specs.Number.{point_of, finish_of}
use Rattle.mnemonics.specs.Table.{find_of, count_fits, takes_pairs, has_room, is_label}
use Rattle.reader.specs.Sizes.{is_cause, Caused}
use Rattle.reader.specs.Reader.{unknown, wrong_count, out_of_range, stored_of, pair_of, go_on_of, quiet_of, refuse_of, begin_of, open_of, with_numbers}
use Rattle.reader.specs.Step.{found_of, name_of, kept_of, judged_of, closed_of, end_of, complete_of, after_number_of, close_with, close_of, ending_of, idle_of, first_of, parameters_of, in_number_of, pass_over_of, label_of, by_mode, step_of}
use Rattle.reader.specs.Inside.{inside}

-- A number that ends.
CausedEnd : Closed → Type 0
CausedEnd (Kept ns) = Unit {0}
CausedEnd (Complete p) = Unit {0}
CausedEnd (Faulty n) = T (is_cause n)

kept-caused : (r : Reader) (v : ℤ) → CausedEnd (kept_of r v)
unfolding kept_of CausedEnd
kept-caused r v = go (has_room r.op r.numbers.count) (takes_pairs r.op) (eqb r.numbers.count 1)
  where
    go : (x y z : Bool) → CausedEnd (cond x (cond y (cond z (Complete (pair_of r.numbers v)) (Kept (stored_of r.numbers v))) (Kept (stored_of r.numbers v))) (Faulty wrong_count))
    go true true true = tt
    go true true false = tt
    go true false z = tt
    go false y z = tt

closed-caused : (r : Reader) → CausedEnd (closed_of r)
unfolding closed_of judged_of CausedEnd
closed-caused r = go (finish_of r.number)
  where
    go : (v : Option ℤ) → CausedEnd (judged_of r v)
    go (Some v) = kept-caused r v
    go None = tt

module _ (r : Reader) where
  end-caused : (m : Mode) → Caused (end_of r m).event
  unfolding end_of refuse_of go_on_of
  end-caused m = go (count_fits r.op r.numbers.count)
    where
      go : (t : Bool) → Caused (cond t (go_on_of r m (Ended r.op r.numbers)) (refuse_of r m wrong_count)).event
      go true = tt
      go false = tt

  after-number-caused : (m : Mode) → Caused (after_number_of r m).event
  unfolding after_number_of quiet_of go_on_of
  after-number-caused m = go (inside m)
    where
      go : (t : Bool) → Caused (cond t (quiet_of r m) (end_of r m)).event
      go true = tt
      go false = end-caused m

close-caused : (r : Reader) (m : Mode) → Caused (close_of r m).event
unfolding close_of close_with complete_of refuse_of go_on_of CausedEnd
close-caused r m = go (closed_of r) (closed-caused r)
  where
    go : (c : Closed) → CausedEnd c → Caused (close_with r m c).event
    go (Kept ns) e = after-number-caused (with_numbers r ns) m
    go (Complete p) e = tt
    go (Faulty n) e = e

-- The rows of the table.
module _ (r : Reader) where
  name-caused : (a b : ℕ) → Caused (name_of r a b).event
  unfolding name_of found_of begin_of refuse_of go_on_of
  name-caused a b = go (is_label a b) (find_of a b)
    where
      go : (t : Bool) (f : Option ℕ) → Caused (cond t (refuse_of r Label unknown) (found_of r f)).event
      go true f = tt
      go false (Some op) = tt
      go false None = tt

  idle-caused : (c : Class) → Caused (idle_of r c).event
  unfolding idle_of quiet_of refuse_of go_on_of
  idle-caused Blank = tt
  idle-caused Semicolon = tt
  idle-caused (Letter l) = tt
  idle-caused (Digit d) = tt
  idle-caused (Sign s) = tt
  idle-caused Point = tt
  idle-caused Other = tt

  first-caused : (a : ℕ) (c : Class) → Caused (first_of r a c).event
  unfolding first_of refuse_of go_on_of
  first-caused a Blank = tt
  first-caused a Semicolon = tt
  first-caused a (Letter b) = name-caused a b
  first-caused a (Digit d) = tt
  first-caused a (Sign s) = tt
  first-caused a Point = tt
  first-caused a Other = tt

  parameters-caused : (c : Class) → Caused (parameters_of r c).event
  unfolding parameters_of quiet_of open_of refuse_of go_on_of
  parameters-caused Blank = tt
  parameters-caused Semicolon = end-caused r Idle
  parameters-caused (Letter l) = end-caused r (First l)
  parameters-caused (Digit d) = tt
  parameters-caused (Sign s) = tt
  parameters-caused Point = tt
  parameters-caused Other = tt

  in-number-caused : (c : Class) → Caused (in_number_of r c).event
  unfolding in_number_of open_of refuse_of go_on_of
  in-number-caused Blank = close-caused r (ending_of Blank)
  in-number-caused Semicolon = close-caused r (ending_of Semicolon)
  in-number-caused (Letter l) = close-caused r (ending_of (Letter l))
  in-number-caused (Digit d) = tt
  in-number-caused (Sign s) = tt
  in-number-caused Point = go r.number.pointed
    where
      go : (t : Bool) → Caused (cond t (refuse_of r PassOver out_of_range) (open_of r (point_of r.number))).event
      go true = tt
      go false = tt
  in-number-caused Other = tt

  pass-over-caused : (c : Class) → Caused (pass_over_of r c).event
  unfolding pass_over_of quiet_of go_on_of
  pass-over-caused Blank = tt
  pass-over-caused Semicolon = tt
  pass-over-caused (Letter l) = tt
  pass-over-caused (Digit d) = tt
  pass-over-caused (Sign s) = tt
  pass-over-caused Point = tt
  pass-over-caused Other = tt

  label-caused : (b : ℕ) → Caused (label_of r b).event
  unfolding label_of quiet_of go_on_of
  label-caused b = go (eqb b 3) _ _
    where
      go : (t : Bool) (m n : Mode) → Caused (cond t (quiet_of r m) (quiet_of r n)).event
      go true m n = tt
      go false m n = tt

  pub step-caused : (b : ℕ) → Caused (step_of r b).event
  unfolding step_of by_mode
  step-caused b = go r.mode
    where
      go : (m : Mode) → Caused (by_mode r b m).event
      go Idle = idle-caused (class_of b)
      go (First a) = first-caused a (class_of b)
      go Parameters = parameters-caused (class_of b)
      go InNumber = in-number-caused (class_of b)
      go PassOver = pass-over-caused (class_of b)
      go Label = label-caused b
