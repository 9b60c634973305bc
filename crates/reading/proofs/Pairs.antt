-- A number at a place, and a pair: to read them at once comes to the same as their bytes one by one.
use Rattle.std.specs.Prelude.{Option, None, Some}
use mathlib.Core.Path.{◌≡◌, refl, sym, ap, ◌∙◌}
use mathlib.Core.Bool.{Bool, true, false, cond, true≢false}
use mathlib.Core.List.{List, ◌∷◌}
use Prim.Native.Nat.{ℕ, zero, suc, ◌+◌, ◌-◌, ◌≤◌, ◌<◌}
use Prim.Native.Char.{code}
use native.Mathlib.Nat.{add-zero}
use native.Mathlib.Omega.{arith}
use borrow.Author.Tests.{ltb-true, ltb-false, lt-ltb, le-ltb, eqb-true}
use lib.Dec.{ltb, eqb, lit<}
use lib.IntN.{ℤ}
use lib.ListN.{length, drop, get_or}
use lib.Seq.{drop-cons}
use Rattle.numerals.specs.declared.number.Number.{Number}
use Rattle.numerals.specs.declared.number.Scanned.{Scanned}
use Rattle.numerals.specs.Bytes.{is_digit, is_at, low_class_of, class_of}
use Rattle.numerals.specs.Number.{start_of, point_of, counted_of, digit_of, finish_of}
use Rattle.numerals.specs.Run.{run_of, counts_whole, scanned_of, minus_length, whole_from, whole_at, digits_from, fraction_of, number_at}
use Rattle.numerals.specs.RunLaws.{digit-class, run_end, run-stop, at_place, digits-end, digits-stop, digits-on}
use Rattle.mnemonics.specs.Table.{rows, most, any, cell_of, takes_pairs, has_room}
use Rattle.reader.specs.Reader.{none_of, stored_of, pair_of, go_on_of, quiet_of, open_of, with_numbers}
use Rattle.reader.specs.Step.{kept_of, judged_of, closed_of, complete_of, ending_of, after_number_of, close_with, close_of, parameters_of, in_number_of, by_mode, step_of}
use Rattle.reader.specs.Inside.{inside}
use Rattle.reader.specs.Stream.{reader, ◌telling◌}
use Rattle.reader.specs.Next.{more_digits, is_nothing, in_parameters, awaits_pair, paired_of, next_of}
use Rattle.reader.specs.declared.Closed.TheVariants.{Kept, Complete}
use Rattle.reader.specs.declared.Event.TheVariants.{Nothing, Pair}
use Rattle.reader.specs.declared.Mode.{Mode}
use Rattle.reader.specs.declared.Mode.TheVariants.{Idle, First, Parameters, InNumber, PassOver, Label}
use Rattle.reader.specs.declared.Reader.{Reader}
use Rattle.reader.specs.declared.Step.{Step}
use Rattle.reading.proofs.Places.{quiet_at, event-at, digit_at, scanned-at}

-- ---- a number

module _ (r : Reader) where
  -- The reader with a number open.
  abbrev opened : Number → Reader
  opened n = reader r.op r.numbers InNumber n

  -- A digit or point opens a number as it goes on with one of which nothing is read.
  digit-opens : (b : ℕ) → r.mode ≡ Parameters → is_digit b ≡ true → step_of r b ≡ step_of (opened (start_of false)) b
  unfolding step_of by_mode parameters_of in_number_of open_of
  digit-opens b m d = rw (m, (digit-class b d).2) refl

  point-opens : r.mode ≡ Parameters → step_of r (code ".") ≡ step_of (opened (start_of false)) (code ".")
  unfolding step_of by_mode class_of low_class_of parameters_of in_number_of open_of start_of
  point-opens m = rw m refl

  minus-opens : r.mode ≡ Parameters → step_of r (code "-") ≡ opened (start_of true) telling Nothing
  unfolding step_of by_mode class_of low_class_of parameters_of open_of
  minus-opens m = rw m refl

  point-step : (n : Number) → n.pointed ≡ false → step_of (opened n) (code ".") ≡ opened (point_of n) telling Nothing
  unfolding step_of by_mode class_of low_class_of in_number_of open_of
  point-step n p = simp p

same_step : (r q : Reader) (b : ℕ) (bs : List ℕ) (at : ℕ) → step_of r b ≡ step_of q b → next_of r (b ∷ bs) at ≡ next_of q (b ∷ bs) at
unfolding next_of
same_step r q b bs at e = rw e refl

module _ (s : List ℕ) where
  -- From one place on, a reader comes to what another comes to from another place on.
  abbrev Goes : Reader → ℕ → Reader → ℕ → Type 0
  Goes r i q j = next_of r (drop i s) i ≡ next_of q (drop j s) j

  module _ (r : Reader) where
    abbrev To : ℕ → Number → Scanned → Type 0
    To at n q = Goes (opened r n) at (opened r q.number) q.at

    -- the digits before a point
    whole-goes : (negative : Bool) (at : ℕ) → To at (start_of negative) (whole_from negative at (run_of 0 (drop at s) at))
    unfolding start_of scanned_of counts_whole counted_of more_digits
    whole-goes negative at = go (ltb at (length s)) (is_digit (get_or s at 0)) refl refl
      where
        go :
            (x y : Bool)
            → ltb at (length s) ≡ x
            → is_digit (get_or s at 0) ≡ y
            → To at (start_of negative) (whole_from negative at (run_of 0 (drop at s) at))
        go false y a d = rw (run_end 0 s at (ltb-false at (length s) a), le-ltb at at (omega arith)) refl
        go true false a d = rw (run-stop 0 s at (ltb-true at (length s) a) d, le-ltb at at (omega arith)) refl
        go true true a d =
            let k = scanned-at (opened r (start_of negative)) s at (ltb-true at (length s) a) d _ refl in
            rw (lt-ltb at _ k.0) k.1

    -- all digits
    digits-go : (j : ℕ) (n : Number) (at : ℕ) → length s ≤ at + j → To at n (digits_from n (drop at s) at)
    digits-go zero n at h = rw (digits-end n s at (omega (arith, h))) refl
    digits-go (suc j) n at h = go (ltb at (length s)) (is_digit (get_or s at 0)) refl refl (digits-go j (digit_of n (get_or s at 0 - code "0")) (at + 1) (omega (arith, h)))
      where
        next : Number
        next = digit_of n (get_or s at 0 - code "0")

        go :
            (x y : Bool)
            → ltb at (length s) ≡ x
            → is_digit (get_or s at 0) ≡ y
            → To (at + 1) next (digits_from next (drop (at + 1) s) (at + 1))
            → To at n (digits_from n (drop at s) at)
        go false y a d i = rw (digits-end n s at (ltb-false at (length s) a)) refl
        go true false a d i = rw (digits-stop n s at (ltb-true at (length s) a) d) refl
        go true true a d i =
            let l = ltb-true at (length s) a in
            rw (digits-on n s at l d) (digit_at (opened r n) s at l next refl d refl ∙ i)

    -- a point with its decimals
    fraction-goes : (w : Scanned) → w.number.pointed ≡ false → Goes (opened r w.number) w.at (opened r (fraction_of s w).number) (fraction_of s w).at
    unfolding fraction_of is_nothing
    fraction-goes w p = go (is_at s w.at (code ".")) refl
      where
        decimals : Scanned
        decimals = digits_from (point_of w.number) (drop (w.at + 1) s) (w.at + 1)

        go : (x : Bool) → is_at s w.at (code ".") ≡ x → To w.at w.number (cond x decimals w)
        go false e = refl
        go true e =
            let k = at_place s w.at (code ".") e in
            quiet_at (opened r w.number) s w.at k.0 (opened r (point_of w.number) telling Nothing) (rw k.1 (sym (point-step r w.number p))) refl
            ∙ digits-go (length s) (point_of w.number) (w.at + 1) (omega arith)

    -- where the number has a digit, its first byte opens it
    module _ (at : ℕ) (h : at < length s) (m : r.mode ≡ Parameters) where
      abbrev first : ℕ
      first = at + minus_length (get_or s at 0)

      abbrev Opens : Type 0
      Opens = Goes r at (opened r (start_of (eqb (get_or s at 0) (code "-")))) first

      by-step : step_of r (get_or s at 0) ≡ step_of (opened r (start_of false)) (get_or s at 0) → Goes r at (opened r (start_of false)) at
      by-step e = rw (drop-cons s at 0 h) (same_step r (opened r (start_of false)) _ _ at e)

      -- with no sign
      plain : eqb (get_or s at 0) (code "-") ≡ false → whole_at s at ≡ whole_from false at (run_of 0 (drop at s) at)
      unfolding whole_at minus_length
      plain a = rw (a, add-zero at) refl

      bare :
          eqb (get_or s at 0) (code "-") ≡ false
          → is_digit (get_or s at 0) ≡ false
          → eqb (get_or s at 0) (code ".") ≡ false
          → fraction_of s (whole_at s at) ≡ record { number = start_of false; at = at }
      unfolding fraction_of is_at start_of
      bare a d p = rw (plain a, run-stop 0 s at h d, lt-ltb at (length s) h, p, le-ltb at at (omega arith)) refl

      opens : (fraction_of s (whole_at s at)).number.filled ≡ true → Opens
      unfolding minus_length is_nothing start_of
      opens f = go (eqb (get_or s at 0) (code "-")) (is_digit (get_or s at 0)) (eqb (get_or s at 0) (code ".")) refl refl refl f
        where
          go :
              (x y z : Bool)
              → eqb (get_or s at 0) (code "-") ≡ x
              → is_digit (get_or s at 0) ≡ y
              → eqb (get_or s at 0) (code ".") ≡ z
              → (fraction_of s (whole_at s at)).number.filled ≡ true
              → Opens
          go true y z a d p t =
              rw a (quiet_at r s at h (opened r (start_of true) telling Nothing) (rw (eqb-true (get_or s at 0) (code "-") a) (sym (minus-opens r m))) refl)
          go false true z a d p t = rw (a, add-zero at) (by-step (digit-opens r _ m d))
          go false false true a d p t = rw (a, add-zero at) (by-step (rw (eqb-true (get_or s at 0) (code ".") p) (point-opens r m)))
          go false false false a d p t =
              absurd (true≢false (sym t ∙ ap (λ (q : Scanned). q.number.filled) (bare a d p)))

    -- the number at a place
    abbrev From : ℕ → Scanned → Type 0
    From at q = Goes r at (opened r q.number) q.at

    number-goes : (at : ℕ) → r.mode ≡ Parameters → (q : Scanned) → q ≡ number_at s at → q.number.filled ≡ true → From at q
    unfolding number_at whole_at start_of
    number-goes at m q e f = rw e (go (ltb at (length s)) refl (rw e at f))
      where
        whole : Scanned
        whole = whole_at s at

        go :
            (x : Bool)
            → ltb at (length s) ≡ x
            → (cond x (fraction_of s whole) (record { number = start_of false; at = at })).number.filled ≡ true
            → From at (cond x (fraction_of s whole) (record { number = start_of false; at = at }))
        go false a t = absurd (true≢false (sym t))
        go true a t = opens at (ltb-true at (length s) a) m t ∙ whole-goes _ _ ∙ fraction-goes whole refl

-- ---- a pair

is_good : Option ℤ → Bool
is_good (Some v) = true
is_good None = false

good-filled : (n : Number) (v : ℤ) → finish_of n ≡ Some v → n.filled ≡ true
unfolding finish_of is_good
good-filled n v e = go n.filled _ refl e
  where
    go : (x : Bool) (u : Option ℤ) → n.filled ≡ x → cond x u None ≡ Some v → n.filled ≡ true
    go true u p t = p
    go false u p t = absurd (true≢false (sym (ap is_good t)))

parameters-is : (m : Mode) → in_parameters m ≡ true → m ≡ Parameters
unfolding in_parameters
parameters-is Parameters t = refl
parameters-is Idle t = absurd (true≢false (sym t))
parameters-is (First l) t = absurd (true≢false (sym t))
parameters-is InNumber t = absurd (true≢false (sym t))
parameters-is PassOver t = absurd (true≢false (sym t))
parameters-is Label t = absurd (true≢false (sym t))

awaits : (r : Reader) → awaits_pair r ≡ true → (r.mode ≡ Parameters) × (takes_pairs r.op ≡ true) × (r.numbers.count ≡ 0)
unfolding awaits_pair
awaits r e = go (in_parameters r.mode) (takes_pairs r.op) refl refl e
  where
    go :
        (x y : Bool)
        → in_parameters r.mode ≡ x
        → takes_pairs r.op ≡ y
        → cond x (cond y (eqb r.numbers.count 0) false) false ≡ true
        → (r.mode ≡ Parameters) × (takes_pairs r.op ≡ true) × (r.numbers.count ≡ 0)
    go true true a b t = (parameters-is r.mode a, b, eqb-true _ _ t)
    go true false a b t = absurd (true≢false (sym t))
    go false y a b t = absurd (true≢false (sym t))

space : (op k : ℕ) → takes_pairs op ≡ true → k < any → has_room op k ≡ true
unfolding takes_pairs has_room
space op k d h = go (ltb op rows) d
  where
    go : (x : Bool) → cond x (eqb (cell_of op most) any) false ≡ true → cond x (ltb k (cell_of op most)) false ≡ true
    go true t = rw (eqb-true (cell_of op most) any t) (lt-ltb k any h)
    go false t = absurd (true≢false (sym t))

-- The reader between the numbers of a pair, a and n the first one, and after it, b and k the second.
abbrev halfway : Reader → ℤ → Number → Reader
halfway r a n = reader r.op (stored_of r.numbers a) Parameters n

abbrev after : Reader → ℤ → ℤ → Number → Mode → Step
after r a b k m = reader r.op none_of m k telling Pair (record { x = a; y = b })

module _ (r : Reader) (double : takes_pairs r.op ≡ true) (none : r.numbers.count ≡ 0) (a : ℤ) (n : Number) (x : finish_of n ≡ Some a) where
  x-kept : closed_of (opened r n) ≡ Kept (stored_of r.numbers a)
  unfolding closed_of judged_of kept_of
  x-kept = rw x (simp (none, space r.op 0 double (lit< tt), double))

  x-comma : step_of (opened r n) (code ",") ≡ halfway r a n telling Nothing
  unfolding step_of by_mode class_of low_class_of in_number_of close_of close_with ending_of after_number_of inside quiet_of go_on_of with_numbers
  x-comma = rw x-kept refl

  one-stored : stored_of r.numbers a ≡ record { count = 1; first = a; second = r.numbers.second; third = r.numbers.third; fourth = r.numbers.fourth }
  unfolding stored_of
  one-stored = rw none refl

  module _ (b : ℤ) (k : Number) (y : finish_of k ≡ Some b) where
    y-complete : closed_of (opened (halfway r a n) k) ≡ Complete (record { x = a; y = b })
    unfolding closed_of judged_of kept_of pair_of
    y-complete = rw (y, one-stored) (simp (space r.op 1 double (lit< tt), double))

    y-comma : step_of (opened (halfway r a n) k) (code ",") ≡ after r a b k Parameters
    unfolding step_of by_mode class_of low_class_of in_number_of close_of close_with ending_of complete_of go_on_of with_numbers
    y-comma = rw y-complete refl

    y-semicolon : step_of (opened (halfway r a n) k) (code ";") ≡ after r a b k Idle
    unfolding step_of by_mode class_of in_number_of close_of close_with ending_of complete_of go_on_of with_numbers
    y-semicolon = rw y-complete refl

-- Two good numbers, p and q, with a comma between them, are a pair if what ends the second one is a semicolon or comma.
module _
    (r : Reader) (s : List ℕ) (from : ℕ) (w : awaits_pair r ≡ true)
    (p q : Scanned) (e : p ≡ number_at s from) (c : is_at s p.at (code ",") ≡ true) (f : q ≡ number_at s (p.at + 1))
    (a b : ℤ) (x : finish_of p.number ≡ Some a) (y : finish_of q.number ≡ Some b)
  where
    abbrev last : Reader
    last = opened (halfway r a p.number) q.number

    abbrev Pairs : Mode → Type 0
    Pairs m = paired_of r m q.number (record { x = a; y = b }) (q.at + 1) ≡ next_of r (drop from s) from

    to_last : Goes s r from last q.at
    unfolding is_nothing
    to_last =
        let v = awaits r w in
        let t = at_place s p.at (code ",") c in
        number-goes s r from v.0 p e (good-filled p.number a x)
        ∙ quiet_at (opened r p.number) s p.at t.0 (halfway r a p.number telling Nothing) (rw t.1 (sym (x-comma r v.1 v.2 a p.number x))) refl
        ∙ number-goes s (halfway r a p.number) (p.at + 1) refl q f (good-filled q.number b y)

    ends : (m : Mode) (d : ℕ) → is_at s q.at d ≡ true → step_of last d ≡ after r a b q.number m → Pairs m
    unfolding is_nothing paired_of
    ends m d i k =
        let t = at_place s q.at d i in
        sym (to_last ∙ event-at last s q.at t.0 (after r a b q.number m) (rw t.1 (sym k)) refl)

    pub pair-semicolon : is_at s q.at (code ";") ≡ true → Pairs Idle
    pair-semicolon i = let v = awaits r w in ends Idle (code ";") i (y-semicolon r v.1 v.2 a p.number x b q.number y)

    pub pair-comma : is_at s q.at (code ",") ≡ true → Pairs Parameters
    pair-comma i = let v = awaits r w in ends Parameters (code ",") i (y-comma r v.1 v.2 a p.number x b q.number y)
