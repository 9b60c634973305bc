-- A digit by its byte, and a run of digits place by place; a byte at a place, and a number there.
use Rattle.std.proofs.Math.Path.{◌≡◌, refl}
use Rattle.std.proofs.Common.{sym, true≢false, add-one, arith, drop_of_length-le, drop-cons}
use Rattle.std.specs.Prelude.{Bool, cond, List, [], ◌∷◌, ℕ, ◌+◌, ◌-◌, ◌*◌, ◌≤◌, ◌<◌, leb, ltb, eqb, length, drop, get_or}
use Rattle.std.proofs.Math.Bool.{true, false}
use Prim.Native.Char.{code}
use borrow.Author.Tests.{leb-true, ltb-true, ltb-false, lt-ltb, le-ltb, le-leb, lt-leb, eqb-true}
use Rattle.numerals.specs.declared.bytes.Class.TheVariants.{Digit}
use Rattle.numerals.specs.declared.number.Number.{Number}
use Rattle.numerals.specs.declared.number.Run.{Run}
use Rattle.numerals.specs.declared.number.Scanned.{Scanned}
use Rattle.numerals.specs.Bytes.{is_digit, is_at, class_of}
use Rattle.numerals.specs.Number.{places, bottom, past_of, start_of, point_of, so_far_of, counted_of, digit_of}
use Rattle.numerals.specs.Run.{from_zero, ended, run_of, counts_whole, scanned_of, minus_length, whole_at, digits_from, fraction_of, number_at}

pub digit-class : (b : ℕ) → is_digit b ≡ true → (code "0" ≤ b) × (b ≤ code "9") × (class_of b ≡ Digit (b - code "0"))
unfolding is_digit class_of
digit-class b e = go (ltb b (code "0")) (leb b (code "9")) refl refl e
  where
    go : (x y : Bool) → ltb b (code "0") ≡ x → leb b (code "9") ≡ y → cond x false y ≡ true → (code "0" ≤ b) × (b ≤ code "9") × (class_of b ≡ Digit (b - code "0"))
    go false true h k t = (ltb-false b (code "0") h, leb-true b (code "9") k, simp (h, k))
    go false false h k t = absurd (true≢false (sym t))
    go true y h k t = absurd (true≢false (sym t))

-- Up to 9 from the digit 0 it is a digit, and this is its value.
pub zero-digit : (b : ℕ) → from_zero b ≤ 9 → (is_digit b ≡ true) × (from_zero b ≡ b - code "0")
unfolding from_zero is_digit
zero-digit b h = go (ltb b (code "0")) refl h
  where
    go : (x : Bool) → ltb b (code "0") ≡ x → cond x (b + 4294967248) (b - code "0") ≤ 9 → (cond x false (leb b (code "9")) ≡ true) × (cond x (b + 4294967248) (b - code "0") ≡ b - code "0")
    go true e t = absurd (omega (arith, t))
    go false e t = (le-leb b (code "9") (omega (arith, t)), refl)

pub zero-other : (b : ℕ) → 9 < from_zero b → is_digit b ≡ false
unfolding from_zero is_digit
zero-other b h = go (ltb b (code "0")) refl h
  where
    go : (x : Bool) → ltb b (code "0") ≡ x → 9 < cond x (b + 4294967248) (b - code "0") → cond x false (leb b (code "9")) ≡ false
    go true e t = refl
    go false e t = lt-leb b (code "9") (omega (arith, t))

-- ---- a run of digits

run-digit :
    (m b : ℕ) (bs : List ℕ) (at : ℕ)
    → is_digit b ≡ true
    → ltb bottom m ≡ false
    → run_of m (b ∷ bs) at ≡ run_of (m * 10 + (b - code "0")) bs (at + 1)
unfolding run_of
run-digit m b bs at d p = simp (d, p)

module _ (m : ℕ) (s : List ℕ) (at : ℕ) where
  pub run_end : length s ≤ at → run_of m (drop at s) at ≡ ended m at
  unfolding run_of
  run_end h = rw (drop_of_length-le s h) refl

  pub run-stop : at < length s → is_digit (get_or s at 0) ≡ false → run_of m (drop at s) at ≡ ended m at
  unfolding run_of
  run-stop h d = rw (drop-cons s at 0 h) (simp d)

  pub run_past : at < length s → is_digit (get_or s at 0) ≡ true → ltb bottom m ≡ true → run_of m (drop at s) at ≡ ended m at
  unfolding run_of
  run_past h d p = rw (drop-cons s at 0 h) (simp (d, p))

  pub run_on :
      at < length s
      → is_digit (get_or s at 0) ≡ true
      → ltb bottom m ≡ false
      → run_of m (drop at s) at ≡ run_of (m * 10 + (get_or s at 0 - code "0")) (drop (at + 1) s) (at + 1)
  run_on h d p = rw (drop-cons s at 0 h, ← add-one at) (run-digit m (get_or s at 0) (drop (at + 1) s) at d p)

pub run-place : (m : ℕ) (bs : List ℕ) (at : ℕ) → at ≤ (run_of m bs at).at
unfolding run_of
run-place m [] at = omega arith
run-place m (b ∷ bs) at = go (is_digit b) (ltb bottom m) (run-place (m * 10 + (b - code "0")) bs (at + 1))
  where
    rest : Run
    rest = run_of (m * 10 + (b - code "0")) bs (at + 1)

    go : (x y : Bool) → at + 1 ≤ rest.at → at ≤ (cond x (cond y (ended m at) rest) (ended m at)).at
    go false y h = omega arith
    go true true h = omega arith
    go true false h = omega (arith, h)

-- One digit of a number without a point that counts it.
pub counted-digit :
    (n : Number) (d : ℕ)
    → leb places n.decimals ≡ false
    → ltb bottom n.magnitude ≡ false
    → n.pointed ≡ false
    → digit_of n d ≡ counted_of n n.decimals (n.magnitude * 10 + d)
unfolding digit_of
counted-digit n d k b p = simp (k, b, p)

pub counts_whole-parts : (n : Number) → counts_whole n ≡ true → (n.pointed ≡ false) × (leb places n.decimals ≡ false) × (ltb bottom n.magnitude ≡ false)
unfolding counts_whole
counts_whole-parts n c = go n.pointed (leb places n.decimals) refl refl c
  where
    go : (x y : Bool) → n.pointed ≡ x → leb places n.decimals ≡ y → cond x false (cond y false (leb n.magnitude bottom)) ≡ true → (n.pointed ≡ false) × (leb places n.decimals ≡ false) × (ltb bottom n.magnitude ≡ false)
    go false false p k t = (p, k, le-ltb bottom n.magnitude (leb-true n.magnitude bottom t))
    go false true p k t = absurd (true≢false (sym t))
    go true y p k t = absurd (true≢false (sym t))

-- The two ways of `scanned_of`.
module _ (n : Number) (s : List ℕ) (at : ℕ) (k : Number) where
  pub scanned-run :
      (q : Run)
      → counts_whole n ≡ true
      → q ≡ run_of n.magnitude (drop at s) at
      → k ≡ counted_of n n.decimals q.magnitude
      → ◌≡◌ {A = Scanned} (record { number = k; at = q.at }) (scanned_of n s at)
  unfolding scanned_of
  scanned-run q w e f = rw (f, e, w) refl

  pub scanned-one : counts_whole n ≡ false → k ≡ digit_of n (get_or s at 0 - code "0") → ◌≡◌ {A = Scanned} (record { number = k; at = at + 1 }) (scanned_of n s at)
  unfolding scanned_of
  scanned-one w f = rw (f, w) refl

-- ---- a number at a place

pub at_place : (s : List ℕ) (at b : ℕ) → is_at s at b ≡ true → (at < length s) × (get_or s at 0 ≡ b)
unfolding is_at
at_place s at b e = go (ltb at (length s)) refl e
  where
    go : (x : Bool) → ltb at (length s) ≡ x → cond x (eqb (get_or s at 0) b) false ≡ true → (at < length s) × (get_or s at 0 ≡ b)
    go true h t = (ltb-true at (length s) h, eqb-true _ _ t)
    go false h t = absurd (true≢false (sym t))

pub minus-size : (b : ℕ) → minus_length b ≤ 1
unfolding minus_length
minus-size b = go (eqb b (code "-"))
  where
    go : (x : Bool) → cond x 1 0 ≤ 1
    go true = omega arith
    go false = omega arith

-- digits one by one
digits-digit :
    (n : Number) (b : ℕ) (bs : List ℕ) (at : ℕ)
    → is_digit b ≡ true
    → digits_from n (b ∷ bs) at ≡ digits_from (digit_of n (b - code "0")) bs (at + 1)
unfolding digits_from
digits-digit n b bs at d = simp d

module _ (n : Number) (s : List ℕ) (at : ℕ) where
  abbrev here : Scanned
  here = record { number = n; at = at }

  pub digits-end : length s ≤ at → digits_from n (drop at s) at ≡ here
  unfolding digits_from
  digits-end h = rw (drop_of_length-le s h) refl

  pub digits-stop : at < length s → is_digit (get_or s at 0) ≡ false → digits_from n (drop at s) at ≡ here
  unfolding digits_from
  digits-stop h d = rw (drop-cons s at 0 h) (simp d)

  pub digits-on :
      at < length s
      → is_digit (get_or s at 0) ≡ true
      → digits_from n (drop at s) at ≡ digits_from (digit_of n (get_or s at 0 - code "0")) (drop (at + 1) s) (at + 1)
  digits-on h d = rw (drop-cons s at 0 h, ← add-one at) (digits-digit n (get_or s at 0) (drop (at + 1) s) at d)

-- One digit more of a number after its point, by the parts that it changes.
module _ (n : Number) (f : Bool) (k m d : ℕ) (p : n.pointed ≡ true) where
  pub digit-past : places ≤ k → digit_of (so_far_of n f k m) d ≡ so_far_of n true (past_of k d) m
  unfolding digit_of counted_of
  digit-past h = simp (le-leb places k h)

  pub digit-kept : k < places → bottom < m → digit_of (so_far_of n f k m) d ≡ so_far_of n true k m
  unfolding digit_of counted_of
  digit-kept h b = simp (lt-leb places k h, lt-ltb bottom m b)

  pub digit-counts : k < places → m ≤ bottom → digit_of (so_far_of n f k m) d ≡ so_far_of n true (k + 1) (m * 10 + d)
  unfolding digit_of counted_of
  digit-counts h b = simp (lt-leb places k h, le-ltb bottom m b) (go n.pointed p)
    where
      go : (x : Bool) → x ≡ true → ◌≡◌ {A = Number} (cond x (so_far_of n true (k + 1) (m * 10 + d)) (so_far_of n true k (m * 10 + d))) (so_far_of n true (k + 1) (m * 10 + d))
      go true e = refl
      go false e = absurd (true≢false (sym e))

-- The ways of `number_at`.
module _ (s : List ℕ) (at : ℕ) where
  pub number_past : length s ≤ at → number_at s at ≡ record { number = start_of false; at = at }
  unfolding number_at
  number_past h = rw (le-ltb at (length s) h) refl

  module _ (h : at < length s) (w : Scanned) (e : w ≡ whole_at s at) where
    pub number-whole : is_at s w.at (code ".") ≡ false → w ≡ number_at s at
    unfolding number_at fraction_of
    number-whole p = rw (lt-ltb at (length s) h, ← e, p) refl

    pub number-pointed :
        is_at s w.at (code ".") ≡ true
        → digits_from (point_of w.number) (drop (w.at + 1) s) (w.at + 1) ≡ number_at s at
    unfolding number_at fraction_of
    number-pointed p = rw (lt-ltb at (length s) h, ← e, p) refl
