-- A whole instruction, written as a person writes it, means what it says: its name, then its pairs in order or its numbers.
use Rattle.std.specs.Prelude.{◌≡◌, Bool, true, false, cond, not, T, leb, ltb, eqb, ℤ, length, Option, None, Some}
use Rattle.std.proofs.Math.Path.{refl}
use Rattle.std.proofs.Common.{ap, arith, eqb→eq, lit<}
use mathlib.Core.List.{List, [], ◌∷◌, ◌++◌}
use Prim.Native.Nat.{ℕ, zero, suc, ◌+◌, ◌-◌, ◌%◌, ◌≤◌, ◌<◌}
use Prim.Native.Char.{code}
use borrow.Author.Tests.{lt-ltb, eqb-true, leb-true, not-true}
use Rattle.numerals.specs.declared.bytes.Class.{Class}
use Rattle.numerals.specs.declared.bytes.Class.TheVariants.{Blank, Semicolon, Letter, Digit, Sign, Point, Other}
use Rattle.numerals.specs.declared.number.Number.{Number}
use Rattle.reader.specs.declared.Numbers.{Numbers}
use Rattle.reader.specs.declared.Event.{Event}
use Rattle.reader.specs.declared.Event.TheVariants.{Nothing, Named, Pair, Ended}
use Rattle.reader.specs.declared.Closed.TheVariants.{Kept, Complete}
use Rattle.reader.specs.declared.Mode.TheVariants.{Idle, First, Parameters, InNumber}
use Rattle.reader.specs.declared.Reader.{Reader}
use Rattle.numerals.specs.Bytes.{class_of, low_class_of}
use Rattle.mnemonics.specs.Table.{rows, least, most, step, any, cell_of, named_of, find_from, find_of, is_label, count_fits, takes_pairs, has_room}
use Rattle.reader.specs.Reader.{none_of, stored_of, pair_of, go_on_of, quiet_of, begin_of, with_numbers}
use Rattle.reader.specs.Step.{found_of, name_of, kept_of, judged_of, closed_of, end_of, complete_of, ending_of, after_number_of, close_with, close_of, idle_of, first_of, parameters_of, in_number_of, by_mode, step_of}
use Rattle.reader.specs.Inside.{inside}
use Rattle.mnemonics.specs.Every.{holds, every-at}
use Rattle.numerals.specs.Marks.{read_numeral}
use Rattle.reader.specs.Stream.{reader, ◌telling◌, Means, done, quiet, loud}
use Rattle.numerals.specs.Numeral.{text}
use Rattle.numerals.proofs.NumeralLaws.{numeral-value}
use Rattle.reader.specs.Written.{one, two, letters, Literal, printed, numbers_from, last_from, Two, coordinates, flat, pairs}
use Rattle.reader.proofs.TextLaws.{then, numeral-text}

module _ (op : ℕ) where
  -- A number that ends, of an instruction that has room for it and takes no pairs, is kept.
  module _ (ns : Numbers) (l : Literal) (room : has_room op ns.count ≡ true) (single : takes_pairs op ≡ false) where
    abbrev opened : Reader
    opened = reader op ns InNumber (read_numeral l.numeral)

    kept : closed_of opened ≡ judged_of opened (Some l.value)
    unfolding closed_of
    kept = rw (numeral-value l.numeral l.fraction, l.good) refl

    at-comma : step_of opened (code ",") ≡ reader op (stored_of ns l.value) Parameters (read_numeral l.numeral) telling Nothing
    unfolding step_of by_mode class_of low_class_of in_number_of close_of close_with ending_of after_number_of inside judged_of kept_of quiet_of go_on_of with_numbers
    at-comma = rw kept (simp (room, single))

    at-semicolon : count_fits op (stored_of ns l.value).count ≡ true → step_of opened (code ";") ≡ reader op (stored_of ns l.value) Idle (read_numeral l.numeral) telling Ended op (stored_of ns l.value)
    unfolding step_of by_mode class_of low_class_of in_number_of close_of close_with ending_of after_number_of inside judged_of kept_of end_of go_on_of with_numbers
    at-semicolon fits = rw kept (simp (room, single, fits))

  -- An instruction ends with no number open.
  end : (ns : Numbers) (n : Number) → count_fits op ns.count ≡ true → step_of (reader op ns Parameters n) (code ";") ≡ reader op ns Idle n telling Ended op ns
  unfolding step_of by_mode class_of parameters_of end_of go_on_of
  end ns n fits = simp fits

  numeral : (ns : Numbers) (n : Number) (l : Literal) → Means (reader op ns Parameters n) (text l.numeral) [] (reader op ns InNumber (read_numeral l.numeral))
  numeral ns n l = numeral-text op ns n l.numeral l.written l.whole l.fraction

  stored-count : (ns : Numbers) (v : ℤ) → ns.count < 4 → (stored_of ns v).count ≡ suc ns.count
  unfolding stored_of
  stored-count ns v h = go ns.count ns.first ns.second ns.third ns.fourth h
    where
      go : (k : ℕ) (a b c d : ℤ) → k < 4 → (stored_of (record { count = k; first = a; second = b; third = c; fourth = d }) v).count ≡ suc k
      go zero a b c d h = refl
      go (suc zero) a b c d h = refl
      go (suc (suc zero)) a b c d h = refl
      go (suc (suc (suc zero))) a b c d h = refl
      go (suc (suc (suc (suc k)))) a b c d h = absurd (omega arith)

  module _ (listed : op < rows) where
    room : (k : ℕ) → k < cell_of op most → has_room op k ≡ true
    unfolding has_room
    room k h = simp (lt-ltb op rows listed, lt-ltb k (cell_of op most) h)

    -- The rest of an instruction that takes no pairs, k numbers in all.
    numbers-mean :
        (k : ℕ) (single : takes_pairs op ≡ false) (small : cell_of op most ≤ 4) (room_for : k ≤ cell_of op most) (fits : count_fits op k ≡ true)
        (ns : Numbers) (n : Number) (ls : List Literal)
        → ns.count + length ls ≡ k
        → Means (reader op ns Parameters n) (printed ls) (Ended op (numbers_from ns ls) ∷ []) (reader op (numbers_from ns ls) Idle (last_from n ls))
    numbers-mean k single small fit fits ns n [] e =
        let all : ns.count ≡ k = omega arith in
        loud tt (end ns n (rw all fits)) done
    numbers-mean k single small fit fits ns n (l ∷ []) e =
        let all : (stored_of ns l.value).count ≡ k = omega (arith, stored-count ns l.value (omega arith)) in
        then (numeral ns n l)
        (loud tt (at-semicolon ns l (room ns.count (omega arith)) single (rw all fits)) done)
    numbers-mean k single small fit fits ns n (l ∷ m ∷ ls) e =
        then (numeral ns n l)
        (quiet (at-comma ns l (room ns.count (omega arith)) single)
        (numbers-mean k single small fit fits (stored_of ns l.value) (read_numeral l.numeral) (m ∷ ls) (omega (arith, stored-count ns l.value (omega arith)))))

module _ (op : ℕ) (listed : op < rows) (double : takes_pairs op ≡ true) (fits : count_fits op 0 ≡ true) where
  unlimited : cell_of op most ≡ any
  unfolding takes_pairs
  unlimited = eqb-true (cell_of op most) any (simp (lt-ltb op rows listed) at double)

  space : (k : ℕ) → k < any → has_room op k ≡ true
  unfolding has_room
  space k h = simp (lt-ltb op rows listed, unlimited, lt-ltb k any h)

  module _ (p : Two) where
    abbrev half : Numbers
    half = stored_of none_of p.x.value

    x-kept : closed_of (reader op none_of InNumber (read_numeral p.x.numeral)) ≡ Kept half
    unfolding closed_of judged_of kept_of none_of
    x-kept = rw (numeral-value p.x.numeral p.x.fraction, p.x.good) (simp (space 0 (lit< tt), double))

    y-complete : closed_of (reader op half InNumber (read_numeral p.y.numeral)) ≡ Complete (coordinates p)
    unfolding closed_of judged_of kept_of none_of stored_of pair_of
    y-complete = rw (numeral-value p.y.numeral p.y.fraction, p.y.good) (simp (space 1 (lit< tt), double))

    x-comma : step_of (reader op none_of InNumber (read_numeral p.x.numeral)) (code ",") ≡ reader op half Parameters (read_numeral p.x.numeral) telling Nothing
    unfolding step_of by_mode class_of low_class_of in_number_of close_of close_with ending_of after_number_of inside quiet_of go_on_of with_numbers
    x-comma = rw x-kept refl

    y-comma : step_of (reader op half InNumber (read_numeral p.y.numeral)) (code ",") ≡ reader op none_of Parameters (read_numeral p.y.numeral) telling Pair (coordinates p)
    unfolding step_of by_mode class_of low_class_of in_number_of close_of close_with ending_of complete_of go_on_of with_numbers
    y-comma = rw y-complete refl

    y-semicolon : step_of (reader op half InNumber (read_numeral p.y.numeral)) (code ";") ≡ reader op none_of Idle (read_numeral p.y.numeral) telling Pair (coordinates p)
    unfolding step_of by_mode class_of in_number_of close_of close_with ending_of complete_of go_on_of with_numbers
    y-semicolon = rw y-complete refl

    first-half : {q : Reader} {bs : List ℕ} {es : List Event} (n : Number) → Means (reader op half InNumber (read_numeral p.y.numeral)) bs es q → Means (reader op none_of Parameters n) (text p.x.numeral ++ (code "," ∷ (text p.y.numeral ++ bs))) es q
    first-half n m = then (numeral op none_of n p.x) (quiet x-comma (then (numeral op half (read_numeral p.x.numeral) p.y) m))

  pairs-mean : (n : Number) (ps : List Two) → Means (reader op none_of Parameters n) (printed (flat ps)) (pairs op ps) (reader op none_of Idle (last_from n (flat ps)))
  unfolding none_of
  pairs-mean n [] = loud tt (end op none_of n fits) done
  pairs-mean n (p ∷ []) = first-half p n (loud tt (y-semicolon p) done)
  pairs-mean n (p ∷ q ∷ ps) = first-half p n (loud tt (y-comma p) (pairs-mean (read_numeral p.y.numeral) (q ∷ ps)))

-- What the table says of every instruction: its letters are letters that name it, and it takes at most four numbers or, where
-- it takes pairs, none at all will do.
abbrev is_letter : ℕ → Class → Bool
is_letter l Blank = false
is_letter l Semicolon = false
is_letter l (Letter m) = eqb m l
is_letter l (Digit d) = false
is_letter l (Sign s) = false
is_letter l Point = false
is_letter l Other = false

letter-is : (l : ℕ) (c : Class) → T (is_letter l c) → c ≡ Letter l
letter-is l (Letter m) t = ap Letter (eqb→eq m l t)
letter-is l Blank t = elim t [ ]
letter-is l Semicolon t = elim t [ ]
letter-is l (Digit _) t = elim t [ ]
letter-is l (Sign _) t = elim t [ ]
letter-is l Point t = elim t [ ]
letter-is l Other t = elim t [ ]

abbrev is_at : ℕ → Option ℕ → Bool
is_at op (Some i) = eqb i op
is_at op None = false

at-is : (op : ℕ) (f : Option ℕ) → T (is_at op f) → f ≡ Some op
at-is op (Some i) t = ap Some (eqb→eq i op t)
at-is op None t = elim t [ ]

one-is : (op : ℕ) → op < rows → class_of (one op) ≡ Letter (one op)
unfolding cell_of class_of
one-is op h = letter-is (one op) (class_of (one op)) (every-at (λ i. is_letter (one i) (class_of (one i))) rows tt op h)

two_is : (op : ℕ) → op < rows → class_of (two op) ≡ Letter (two op)
unfolding cell_of class_of
two_is op h = letter-is (two op) (class_of (two op)) (every-at (λ i. is_letter (two i) (class_of (two i))) rows tt op h)

no_label : (op : ℕ) → op < rows → is_label (one op) (two op) ≡ false
unfolding cell_of is_label
no_label op h = not-true (is_label (one op) (two op)) (holds _ (every-at (λ i. not (is_label (one i) (two i))) rows tt op h))

found : (op : ℕ) → op < rows → find_of (one op) (two op) ≡ Some op
unfolding cell_of named_of find_from find_of
found op h = at-is op (find_of (one op) (two op)) (every-at (λ i. is_at i (find_of (one i) (two i))) rows tt op h)

-- Where pairs are taken, none at all will do; elsewhere there are four numbers at most.
limit : ℕ → Bool
limit op = cond (takes_pairs op) (count_fits op 0) (leb (cell_of op most) 4)

limits : (op : ℕ) → op < rows → limit op ≡ true
unfolding limit cell_of takes_pairs count_fits
limits op h = holds (limit op) (every-at limit rows tt op h)

none-fits : (op : ℕ) → op < rows → takes_pairs op ≡ true → count_fits op 0 ≡ true
unfolding limit
none-fits op h e = simp e at (limits op h)

at-most-4 : (op : ℕ) → op < rows → takes_pairs op ≡ false → cell_of op most ≤ 4
unfolding limit
at-most-4 op h e = leb-true (cell_of op most) 4 (simp e at (limits op h))

never : false ≡ true → ⊥
never e = let z : ◌≡◌ {A = ℕ} 0 1 = cc in omega arith

fits-most : (op n : ℕ) → count_fits op n ≡ true → n ≤ cell_of op most
unfolding count_fits
fits-most op n e = go (ltb op rows) (leb (cell_of op least) n) (leb n (cell_of op most)) refl e
  where
    go : (a b c : Bool) → leb n (cell_of op most) ≡ c → cond a (cond b (cond c (eqb ((n - cell_of op least) % cell_of op step) 0) false) false) false ≡ true → n ≤ cell_of op most
    go true true true t e = leb-true n (cell_of op most) t
    go true true false t e = absurd (never e)
    go true false c t e = absurd (never e)
    go false b c t e = absurd (never e)

-- The name.
module _ (o : ℕ) (ns : Numbers) (n : Number) (op : ℕ) (listed : op < rows) where
  at_one : step_of (reader o ns Idle n) (one op) ≡ reader o ns (First (one op)) n telling Nothing
  unfolding step_of by_mode idle_of quiet_of go_on_of
  at_one = rw (one-is op listed) refl

  at-two : step_of (reader o ns (First (one op)) n) (two op) ≡ reader op none_of Parameters n telling Named op
  unfolding step_of by_mode first_of name_of found_of begin_of
  at-two = rw (two_is op listed) (rw (no_label op listed, found op listed) refl)

  named : {bs : List ℕ} {es : List Event} {q : Reader} → Means (reader op none_of Parameters n) bs es q → Means (reader o ns Idle n) (letters op ++ bs) (Named op ∷ es) q
  named m = quiet at_one (loud tt at-two m)

  -- An instruction that takes no pairs, with as many numbers as the table allows: its name, and its end with these numbers.
  pub instruction-of-numbers :
      (ls : List Literal)
      → takes_pairs op ≡ false
      → count_fits op (length ls) ≡ true
      → Means (reader o ns Idle n) (letters op ++ printed ls) (Named op ∷ Ended op (numbers_from none_of ls) ∷ []) (reader op (numbers_from none_of ls) Idle (last_from n ls))
  unfolding none_of
  instruction-of-numbers ls single fits =
      named
      (numbers-mean op listed (length ls) single (at-most-4 op listed single) (fits-most op (length ls) fits) fits none_of n ls (omega arith))

  -- An instruction that takes pairs, with any number of them: its name, and each pair in order.
  pub instruction-of-pairs :
      (ps : List Two)
      → takes_pairs op ≡ true
      → Means (reader o ns Idle n) (letters op ++ printed (flat ps)) (Named op ∷ pairs op ps) (reader op none_of Idle (last_from n (flat ps)))
  instruction-of-pairs ps double = named (pairs-mean op listed double (none-fits op listed double) n ps)
