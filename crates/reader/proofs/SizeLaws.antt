-- Every byte keeps the sizes of what the reader holds and hands on.
use Rattle.std.specs.Prelude.{◌≡◌, refl, Bool, cond, ◌||◌, ℕ, zero, suc, ◌+◌, ◌*◌, ◌-◌, ◌≤◌, ◌<◌, leb, ltb, eqb, ℤ, pos, Option, None, Some}
use Rattle.std.proofs.Math.Bool.{true, false}
use Prim.Native.Char.{code}
use Rattle.std.proofs.Common.{arith, lit<, lit≤, leb-true, leb-false, ltb-false}
use Rattle.exact.specs.Fit.{Bd}
use Rattle.numerals.specs.declared.bytes.Class.{Class}
use Rattle.numerals.specs.declared.bytes.Class.TheVariants.{Blank, Semicolon, Letter, Digit, Sign, Point, Other}
use Rattle.numerals.specs.declared.number.Number.{Number}
use Rattle.reader.specs.declared.Coordinates.{Coordinates}
use Rattle.reader.specs.declared.Numbers.{Numbers}
use Rattle.reader.specs.declared.Event.TheVariants.{Ended}
use Rattle.reader.specs.declared.Closed.{Closed}
use Rattle.reader.specs.declared.Closed.TheVariants.{Kept, Complete, Faulty}
use Rattle.reader.specs.declared.Mode.{Mode}
use Rattle.reader.specs.declared.Mode.TheVariants.{Idle, First, Parameters, InNumber, PassOver, Label}
use Rattle.reader.specs.declared.Reader.{Reader}
use Rattle.numerals.specs.Bytes.{case, low_class_of, class_of}
use Rattle.reader.specs.Inside.{inside}
use Rattle.numerals.specs.Number.{places, past_of, bottom, start_of, point_of, counted_of, digit_of, signed_of, largest_of, nearest_of, finish_of}
use Rattle.mnemonics.specs.Table.{rows, named_of, find_from, find_of, count_fits, takes_pairs, has_room, is_label}
use Rattle.reader.specs.Sizes.{Small, SmallMode, SmallNumber, Readable, SmallPair, SizedStep}
use Rattle.numerals.proofs.NumeralLaws.{past-most, largest-le}
use Rattle.reader.specs.Reader.{none_of, stored_of, pair_of, fresh_reader, go_on_of, quiet_of, refuse_of, begin_of, open_of, with_numbers}
use Rattle.reader.specs.Step.{found_of, name_of, kept_of, judged_of, closed_of, end_of, complete_of, passed_mode, ending_of, after_number_of, close_with, close_of, idle_of, first_of, parameters_of, in_number_of, pass_over_of, label_of, by_mode, step_of, passed_over}

-- A number that has ended.
signed-small : (s : Bool) (m : ℕ) → m ≤ bottom → Bd (signed_of s m) bottom
unfolding signed_of
signed-small false m h = record { bd = h }
signed-small true zero h = record { bd = h }
signed-small true (suc m) h = record { bd = h }

SmallValue : Option ℤ → Type 0
SmallValue (Some v) = Bd v bottom
SmallValue None = Unit {0}

finish-small : (n : Number) → SmallValue (finish_of n)
unfolding finish_of SmallValue
finish-small n = go n.filled (leb (nearest_of n) (largest_of n.negative)) refl
  where
    go : (f t : Bool) → leb (nearest_of n) (largest_of n.negative) ≡ t → SmallValue (cond f (cond t (Some (signed_of n.negative (nearest_of n))) None) None)
    go true true e = signed-small n.negative (nearest_of n) (omega (arith, leb-true (nearest_of n) (largest_of n.negative) e, largest-le n.negative))
    go true false e = tt
    go false t e = tt

none-small : Small none_of
unfolding none_of
none-small = let z : Bd (pos 0) bottom = record { bd = lit≤ tt } in record { count = lit≤ tt; first = z; second = z; third = z; fourth = z }

stored-small : (ns : Numbers) (v : ℤ) → Small ns → Bd v bottom → Small (stored_of ns v)
unfolding stored_of
stored-small ns v s h = go (eqb ns.count 0) (eqb ns.count 1) (eqb ns.count 2)
  where
    go : (a b c : Bool) → Small (cond a (record { count = 1; first = v; second = ns.second; third = ns.third; fourth = ns.fourth }) (cond b (record { count = 2; first = ns.first; second = v; third = ns.third; fourth = ns.fourth }) (cond c (record { count = 3; first = ns.first; second = ns.second; third = v; fourth = ns.fourth }) (record { count = 4; first = ns.first; second = ns.second; third = ns.third; fourth = v }))))
    go true b c = record { count = lit≤ tt; first = h; second = s.second; third = s.third; fourth = s.fourth }
    go false true c = record { count = lit≤ tt; first = s.first; second = h; third = s.third; fourth = s.fourth }
    go false false true = record { count = lit≤ tt; first = s.first; second = s.second; third = h; fourth = s.fourth }
    go false false false = record { count = lit≤ tt; first = s.first; second = s.second; third = s.third; fourth = h }

SizedClosed : Closed → Type 0
SizedClosed (Kept ns) = Small ns
SizedClosed (Complete p) = SmallPair p
SizedClosed (Faulty n) = Unit {0}

module _ (r : Reader) (h : Readable r) where
  kept-sized : (v : ℤ) → Bd v bottom → SizedClosed (kept_of r v)
  unfolding kept_of pair_of SizedClosed
  kept-sized v b = go (has_room r.op r.numbers.count) (takes_pairs r.op) (eqb r.numbers.count 1)
    where
      stored : Small (stored_of r.numbers v)
      stored = stored-small r.numbers v h.numbers b

      go : (x y z : Bool) → SizedClosed (cond x (cond y (cond z (Complete (pair_of r.numbers v)) (Kept (stored_of r.numbers v))) (Kept (stored_of r.numbers v))) (Faulty 2))
      go true true true = record { x = h.numbers.first; y = b }
      go true true false = stored
      go true false z = stored
      go false y z = tt

  closed-sized : SizedClosed (closed_of r)
  unfolding closed_of judged_of SmallValue SizedClosed
  closed-sized = go (finish_of r.number) (finish-small r.number)
    where
      go : (v : Option ℤ) → SmallValue v → SizedClosed (judged_of r v)
      go (Some v) b = kept-sized v b
      go None b = tt

  quiet-sized : (m : Mode) → SmallMode m → SizedStep (quiet_of r m)
  unfolding quiet_of go_on_of
  quiet-sized m k = record { reader = record { mode = k; op = h.op; numbers = h.numbers; number = h.number }; event = tt }

  refuse-sized : (m : Mode) → SmallMode m → (n : ℕ) → SizedStep (refuse_of r m n)
  unfolding refuse_of go_on_of
  refuse-sized m k n = record { reader = record { mode = k; op = h.op; numbers = h.numbers; number = h.number }; event = tt }

  open-sized : (n : Number) → SmallNumber n → SizedStep (open_of r n)
  unfolding open_of
  open-sized n k = record { reader = record { mode = tt; op = h.op; numbers = h.numbers; number = k }; event = tt }

  pair-sized : (m : Mode) → SmallMode m → (p : Coordinates) → SmallPair p → SizedStep (complete_of r m p)
  unfolding complete_of go_on_of with_numbers
  pair-sized m k p s = record { reader = record { mode = k; op = h.op; numbers = none-small; number = h.number }; event = s }

end-sized : (r : Reader) → Readable r → (m : Mode) → SmallMode m → SizedStep (end_of r m)
unfolding end_of go_on_of
end-sized r h m k = go (count_fits r.op r.numbers.count) refl
  where
    go : (t : Bool) → count_fits r.op r.numbers.count ≡ t → SizedStep (cond t (go_on_of r m (Ended r.op r.numbers)) (refuse_of r m 2))
    go true e = record { reader = record { mode = k; op = h.op; numbers = h.numbers; number = h.number }; event = record { listed = h.op; count = e; numbers = h.numbers } }
    go false e = refuse-sized r h m k 2

with-readable : (r : Reader) → Readable r → (ns : Numbers) → Small ns → Readable (with_numbers r ns)
unfolding with_numbers
with-readable r h ns s = record { mode = h.mode; op = h.op; numbers = s; number = h.number }

passed-small : (m : Mode) → SmallMode m → SmallMode (passed_mode m)
unfolding passed_mode inside
passed-small Idle h = tt
passed-small (First a) h = h
passed-small Parameters h = tt
passed-small InNumber h = tt
passed-small PassOver h = tt
passed-small Label h = tt

after-number-sized : (r : Reader) → Readable r → (m : Mode) → SmallMode m → SizedStep (after_number_of r m)
unfolding after_number_of
after-number-sized r h m k = go (inside m)
  where
    go : (t : Bool) → SizedStep (cond t (quiet_of r m) (end_of r m))
    go true = quiet-sized r h m k
    go false = end-sized r h m k

close-sized : (r : Reader) → Readable r → (m : Mode) → SmallMode m → SizedStep (close_of r m)
unfolding close_of close_with SizedClosed
close-sized r h m k = go (closed_of r) (closed-sized r h)
  where
    go : (c : Closed) → SizedClosed c → SizedStep (close_with r m c)
    go (Kept ns) s = after-number-sized (with_numbers r ns) (with-readable r h ns s) m k
    go (Complete p) s = pair-sized r h m k p s
    go (Faulty n) s = refuse-sized r h (passed_mode m) (passed-small m k) n

-- What is found stands in the table.
Placed : ℕ → Option ℕ → Type 0
Placed n (Some op) = op < n
Placed n None = Unit {0}

find-placed : (a b i n : ℕ) → Placed (i + n) (find_from a b i n)
unfolding find_from Placed
find-placed a b i zero = tt
find-placed a b i (suc n) = go (named_of i a b) (rest (find_from a b (i + 1) n) (find-placed a b (i + 1) n))
  where
    rest : (f : Option ℕ) → Placed (i + 1 + n) f → Placed (i + suc n) f
    rest (Some op) p = omega arith
    rest None p = tt

    go : (t : Bool) → Placed (i + suc n) (find_from a b (i + 1) n) → Placed (i + suc n) (cond t (Some i) (find_from a b (i + 1) n))
    go true p = omega arith
    go false p = p

name-sized : (r : Reader) → Readable r → (a b : ℕ) → SizedStep (name_of r a b)
unfolding name_of find_of found_of begin_of Placed
name-sized r h a b = go (is_label a b) (find_of a b) (find-placed a b 0 rows)
  where
    go : (t : Bool) (f : Option ℕ) → Placed rows f → SizedStep (cond t (refuse_of r Label 1) (found_of r f))
    go true f p = refuse-sized r h Label tt 1
    go false (Some op) p = record { reader = record { mode = tt; op = p; numbers = none-small; number = h.number }; event = p }
    go false None p = refuse-sized r h PassOver tt 1

-- A letter is a byte, and a digit below ten, whatever the byte.
abbrev SmallClass : Class → Type 0
SmallClass Blank = Unit {0}
SmallClass Semicolon = Unit {0}
SmallClass (Letter l) = l ≤ 255
SmallClass (Digit d) = d ≤ 9
SmallClass (Sign s) = Unit {0}
SmallClass Point = Unit {0}
SmallClass Other = Unit {0}

low_small : (b : ℕ) → SmallClass (low_class_of b)
unfolding low_class_of
low_small b = go (eqb b 9 || eqb b 10 || eqb b 13 || eqb b 32 || eqb b (code ",")) (eqb b (code "+")) (eqb b (code "-")) (eqb b (code "."))
  where
    go : (s t u v : Bool) → SmallClass (cond s Blank (cond t (Sign false) (cond u (Sign true) (cond v Point Other))))
    go true t u v = tt
    go false true u v = tt
    go false false true v = tt
    go false false false true = tt
    go false false false false = tt

class-small : (b : ℕ) → SmallClass (class_of b)
unfolding class_of
class-small b = go (ltb b (code "0")) (leb b (code "9")) (eqb b (code ";")) (ltb b (code "A")) (leb b (code "Z")) (ltb b (code "a")) (leb b (code "z")) refl refl refl
  where
    go : (s t u v w x y : Bool) → leb b (code "9") ≡ t → leb b (code "Z") ≡ w → leb b (code "z") ≡ y →
        SmallClass (cond s (low_class_of b) (cond t (Digit (b - code "0")) (cond u Semicolon (cond v Other (cond w (Letter b) (cond x Other (cond y (Letter (b - case)) Other)))))))
    go true t u v w x y d k l = low_small b
    go false true u v w x y d k l = omega (arith, leb-true b (code "9") d)
    go false false true v w x y d k l = tt
    go false false false true w x y d k l = tt
    go false false false false true x y d k l = omega (arith, leb-true b (code "Z") k)
    go false false false false false true y d k l = tt
    go false false false false false false true d k l = omega (arith, leb-true b (code "z") l)
    go false false false false false false false d k l = tt

-- A number as it is read.
start_small : (s : Bool) → SmallNumber (start_of s)
unfolding start_of
start_small s = record { decimals = lit≤ tt; magnitude = lit≤ tt }

point-small : (n : Number) → SmallNumber n → SmallNumber (point_of n)
unfolding point_of
point-small n h = record { decimals = h.decimals; magnitude = h.magnitude }

digit-small : (n : Number) (d : ℕ) → SmallNumber n → d ≤ 9 → SmallNumber (digit_of n d)
unfolding digit_of counted_of
digit-small n d h k = go (leb places n.decimals) (ltb bottom n.magnitude) n.pointed refl refl
  where
    as_it_was : SmallNumber (counted_of n n.decimals n.magnitude)
    as_it_was = record { decimals = h.decimals; magnitude = h.magnitude }

    go : (s t u : Bool) → leb places n.decimals ≡ s → ltb bottom n.magnitude ≡ t →
        SmallNumber (cond s (counted_of n (past_of n.decimals d) n.magnitude) (cond t (counted_of n n.decimals n.magnitude) (cond u (counted_of n (n.decimals + 1) (n.magnitude * 10 + d)) (counted_of n n.decimals (n.magnitude * 10 + d)))))
    go true t u e f = record { decimals = past-most n.decimals d h.decimals; magnitude = h.magnitude }
    go false true u e f = as_it_was
    go false false true e f = record { decimals = omega (arith, leb-false places n.decimals e); magnitude = omega (arith, ltb-false bottom n.magnitude f) }
    go false false false e f = record { decimals = h.decimals; magnitude = omega (arith, ltb-false bottom n.magnitude f) }

-- The rows of the table.
module _ (r : Reader) (h : Readable r) where
  abbrev quiet : (m : Mode) → SmallMode m → SizedStep (quiet_of r m)
  quiet m k = quiet-sized r h m k

  abbrev refuse : (m : Mode) → SmallMode m → (n : ℕ) → SizedStep (refuse_of r m n)
  refuse m k n = refuse-sized r h m k n

  idle-sized : (c : Class) → SmallClass c → SizedStep (idle_of r c)
  unfolding idle_of
  idle-sized Blank k = quiet _ tt
  idle-sized Semicolon k = quiet _ tt
  idle-sized (Letter l) k = quiet _ k
  idle-sized (Digit d) k = refuse _ tt _
  idle-sized (Sign s) k = refuse _ tt _
  idle-sized Point k = refuse _ tt _
  idle-sized Other k = refuse _ tt _

  first-sized : (a : ℕ) (c : Class) → SmallClass c → SizedStep (first_of r a c)
  unfolding first_of
  first-sized a Blank k = refuse _ tt _
  first-sized a Semicolon k = refuse _ tt _
  first-sized a (Letter b) k = name-sized r h a b
  first-sized a (Digit d) k = refuse _ tt _
  first-sized a (Sign s) k = refuse _ tt _
  first-sized a Point k = refuse _ tt _
  first-sized a Other k = refuse _ tt _

  parameters-sized : (c : Class) → SmallClass c → SizedStep (parameters_of r c)
  unfolding parameters_of
  parameters-sized Blank k = quiet _ tt
  parameters-sized Semicolon k = end-sized r h Idle tt
  parameters-sized (Letter l) k = end-sized r h (First l) k
  parameters-sized (Digit d) k = open-sized r h _ (digit-small _ d (start_small false) k)
  parameters-sized (Sign s) k = open-sized r h _ (start_small s)
  parameters-sized Point k = open-sized r h _ (point-small _ (start_small false))
  parameters-sized Other k = refuse _ tt _

  in-number-sized : (c : Class) → SmallClass c → SizedStep (in_number_of r c)
  unfolding in_number_of ending_of
  in-number-sized Blank k = close-sized r h (ending_of Blank) tt
  in-number-sized Semicolon k = close-sized r h (ending_of Semicolon) tt
  in-number-sized (Letter l) k = close-sized r h (ending_of (Letter l)) k
  in-number-sized (Digit d) k = open-sized r h _ (digit-small _ d h.number k)
  in-number-sized (Sign s) k = refuse _ tt _
  in-number-sized Point k = go r.number.pointed
    where
      go : (t : Bool) → SizedStep (cond t (refuse_of r PassOver 3) (open_of r (point_of r.number)))
      go true = refuse _ tt _
      go false = open-sized r h _ (point-small _ h.number)
  in-number-sized Other k = refuse _ tt _

  pass-over-sized : (c : Class) → SmallClass c → SizedStep (pass_over_of r c)
  unfolding pass_over_of
  pass-over-sized Blank k = quiet _ tt
  pass-over-sized Semicolon k = quiet _ tt
  pass-over-sized (Letter l) k = quiet _ k
  pass-over-sized (Digit d) k = quiet _ tt
  pass-over-sized (Sign s) k = quiet _ tt
  pass-over-sized Point k = quiet _ tt
  pass-over-sized Other k = quiet _ tt

  label-sized : (b : ℕ) → SizedStep (label_of r b)
  unfolding label_of
  label-sized b = go (eqb b 3)
    where
      go : (t : Bool) → SizedStep (cond t (quiet_of r Idle) (quiet_of r Label))
      go true = quiet _ tt
      go false = quiet _ tt

  -- Every byte leaves a readable reader readable, and what it means is of its size.
  pub step-sized : (b : ℕ) → SizedStep (step_of r b)
  unfolding step_of by_mode
  step-sized b = go r.mode
    where
      go : (m : Mode) → SizedStep (by_mode r b m)
      go Idle = idle-sized (class_of b) (class-small b)
      go (First a) = first-sized a (class_of b) (class-small b)
      go Parameters = parameters-sized (class_of b) (class-small b)
      go InNumber = in-number-sized (class_of b) (class-small b)
      go PassOver = pass-over-sized (class_of b) (class-small b)
      go Label = label-sized b

  pub passed-over-readable : Readable (passed_over r)
  unfolding passed_over
  passed-over-readable = record { mode = passed-small r.mode h.mode; op = h.op; numbers = h.numbers; number = h.number }

pub fresh-readable : Readable fresh_reader
unfolding fresh_reader
fresh-readable = record { mode = tt; op = lit< tt; numbers = none-small; number = start_small false }
