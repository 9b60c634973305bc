-- The reader comes to a number's value: for texts of any length, mark by mark and byte by byte.
use Rattle.std.specs.Prelude.{◌≡◌, refl, Bool, true, false, cond, ◌&&◌, ◌||◌, List, [], ◌∷◌, ◌++◌, ℕ, zero, suc, ◌+◌, ◌*◌, ◌-◌, ◌≤◌, ◌<◌, leb, ltb, eqb, ℤ, pos, length, drop}
use Rattle.std.proofs.Common.{sym, ap, ◌∙◌, subst, arith, le_trans, lt_of_lt_of_le, mul-le-mul, le_refl, lit≤, ltb-true, lt-ltb, le-leb, ne_eqb}
use Rattle.std.proofs.Math.Dec.{leb-suc-suc}
use Rattle.std.proofs.lemmas.Bool.{lt-leb}
use Rattle.exact.specs.Divide.{nearest_div}
use Rattle.numerals.specs.declared.number.Number.{Number}
use Rattle.std.specs.Prelude.{Option, None, Some}
use Rattle.numerals.specs.Number.{places, half, above, bottom, past_of, start_of, point_of, counted_of, digit_of, unit_of, ten_thousandths, signed_of, largest_of, carry_of, nearest_of, finish_of}
use Rattle.numerals.specs.Marks.{negative, read_digits, read_fraction, read_numeral}
use Rattle.numerals.specs.Numeral.{Sign, bare, plus, minus, Fraction, none, point, Numeral, Digits, worth, worth_from, decimals, ten, signed, some, in_range, nearest, value_of}
use Rattle.numerals.proofs.Tail.{exactly, tail_from, text-nearest}

-- A number that is m, with k for its decimals, stands for digits that are worth v, with j for theirs: it is that, or both are
-- out of range.
data Stands (m k v j : ℕ) : Type 0 where
  exact : m ≡ v → k ≡ j → Stands m k v j
  past : bottom < m → bottom < v → Stands m k v j

record Reads (n : Number) (negative filled pointed : Bool) (v j : ℕ) : Type 0 where
  negative-is : n.negative ≡ negative
  filled_is : n.filled ≡ filled
  pointed-is : n.pointed ≡ pointed
  stands : Stands n.magnitude n.decimals v j

-- One digit more, by the four ways of `digit_of`.
module _ (n : Number) (d : ℕ) where
  full : leb places n.decimals ≡ true → digit_of n d ≡ counted_of n (past_of n.decimals d) n.magnitude
  unfolding digit_of
  full e = simp e

  kept : leb places n.decimals ≡ false → ltb bottom n.magnitude ≡ true → digit_of n d ≡ counted_of n n.decimals n.magnitude
  unfolding digit_of
  kept e f = simp (e, f)

  decimal : leb places n.decimals ≡ false → ltb bottom n.magnitude ≡ false → n.pointed ≡ true → digit_of n d ≡ counted_of n (n.decimals + 1) (n.magnitude * 10 + d)
  unfolding digit_of
  decimal e f p = simp (e, f, p)

  leading : leb places n.decimals ≡ false → ltb bottom n.magnitude ≡ false → n.pointed ≡ false → digit_of n d ≡ counted_of n n.decimals (n.magnitude * 10 + d)
  unfolding digit_of
  leading e f p = simp (e, f, p)

-- A number that is out of range stays so.
reads-past : {n : Number} {s f p : Bool} {v j : ℕ} (d w i : ℕ) → Reads n s f p v j → bottom < n.magnitude → bottom < w → Reads (digit_of n d) s true p w i
unfolding counted_of
reads-past {n} {s} {p = p} d w i r h k = go (leb places n.decimals) refl
  where
    still : (k : ℕ) → Reads (counted_of n k n.magnitude) s true p w i
    still j = record { negative-is = r.negative-is; filled_is = refl; pointed-is = r.pointed-is; stands = past h k }

    go : (t : Bool) → leb places n.decimals ≡ t → Reads (digit_of n d) s true p w i
    go true e = rw (full n d e) (still (past_of n.decimals d))
    go false e = rw (kept n d e (lt-ltb _ _ h)) (still n.decimals)

grows : {v : ℕ} (d : ℕ) → bottom < v → bottom < v * 10 + d
grows d h = omega arith

grows_from : {m v : ℕ} (d : ℕ) → m ≡ v → ltb bottom m ≡ true → bottom < v * 10 + d
grows_from {m} d e t = let h = ltb-true bottom m t in omega arith

-- Before the point, and after it while a place is free, a digit is counted; past the fourth decimal the digits stand against a half.
reads_whole : {n : Number} {s f : Bool} {v : ℕ} (d : ℕ) → Reads n s f false v 0 → Reads (digit_of n d) s true false (v * 10 + d) 0
unfolding counted_of
reads_whole {n} {s} {v = v} d r = go r.stands (ltb bottom n.magnitude) refl
  where
    go : Stands n.magnitude n.decimals v 0 → (t : Bool) → ltb bottom n.magnitude ≡ t → Reads (digit_of n d) s true false (v * 10 + d) 0
    go (past a b) t e = reads-past d (v * 10 + d) 0 r a (grows d b)
    go (exact a b) true e = reads-past d (v * 10 + d) 0 r (ltb-true _ _ e) (grows_from d a e)
    go (exact a b) false e =
        rw (leading n d (lt-leb places n.decimals (omega arith)) e r.pointed-is) (record { negative-is = r.negative-is; filled_is = refl; pointed-is = r.pointed-is; stands = exact (omega arith) b })

reads-decimal : {n : Number} {s f : Bool} {v j : ℕ} (d : ℕ) → j < places → Reads n s f true v j → Reads (digit_of n d) s true true (v * 10 + d) (suc j)
unfolding counted_of
reads-decimal {n} {s} {v = v} {j} d l r = go r.stands (ltb bottom n.magnitude) refl
  where
    go : Stands n.magnitude n.decimals v j → (t : Bool) → ltb bottom n.magnitude ≡ t → Reads (digit_of n d) s true true (v * 10 + d) (suc j)
    go (past a b) t e = reads-past d (v * 10 + d) (suc j) r a (grows d b)
    go (exact a b) true e = reads-past d (v * 10 + d) (suc j) r (ltb-true _ _ e) (grows_from d a e)
    go (exact a b) false e =
        rw (decimal n d (lt-leb places n.decimals (omega arith)) e r.pointed-is) (record { negative-is = r.negative-is; filled_is = refl; pointed-is = r.pointed-is; stands = exact (omega arith) (omega arith) })

reads-past-fourth : {n : Number} {s f : Bool} {v j : ℕ} (d : ℕ) → places ≤ j → Reads n s f true v j → Reads (digit_of n d) s true true v (past_of j d)
unfolding counted_of
reads-past-fourth {n} {s} {v = v} {j} d l r = go r.stands
  where
    go : Stands n.magnitude n.decimals v j → Reads (digit_of n d) s true true v (past_of j d)
    go (past a b) = reads-past d v (past_of j d) r a b
    go (exact a b) =
        rw (full n d (le-leb places n.decimals (omega arith)))
        (record { negative-is = r.negative-is; filled_is = refl; pointed-is = r.pointed-is; stands = exact a (ap (λ (k : ℕ). past_of k d) b) })

-- A number that has ended, of which v is the magnitude in ten-thousandths, rounded.
data Worth (m v : ℕ) : Type 0 where
  exact : m ≡ v → Worth m v
  past : bottom < m → bottom < v → Worth m v

record Ends (n : Number) (s f : Bool) (v : ℕ) : Type 0 where
  negative-is : n.negative ≡ s
  filled_is : n.filled ≡ f
  worth-is : Worth (nearest_of n) v

pub unit_size : (k : ℕ) → (1 ≤ unit_of k) × (unit_of k ≤ 10000)
unfolding unit_of
unit_size k = go (eqb k 0) (eqb k 1) (eqb k 2) (eqb k 3)
  where
    go : (a b c d : Bool) → (1 ≤ cond a 10000 (cond b 1000 (cond c 100 (cond d 10 1)))) × (cond a 10000 (cond b 1000 (cond c 100 (cond d 10 1))) ≤ 10000)
    go true b c d = (lit≤ tt, lit≤ tt)
    go false true c d = (lit≤ tt, lit≤ tt)
    go false false true d = (lit≤ tt, lit≤ tt)
    go false false false true = (lit≤ tt, lit≤ tt)
    go false false false false = (lit≤ tt, lit≤ tt)

unit-grows : (m k : ℕ) → m ≤ m * unit_of k
unit-grows m k = omega (arith, mul-le-mul (le_refl m) (unit_size k).0)

-- Places that are not written hold zeros.
unit-is : (v i : ℕ) → i ≤ places → v * unit_of (places - i) ≡ worth_from v (exactly i [])
unfolding unit_of
unit-is v zero h = omega arith
unit-is v (suc zero) h = omega arith
unit-is v (suc (suc zero)) h = omega arith
unit-is v (suc (suc (suc zero))) h = omega arith
unit-is v (suc (suc (suc (suc zero)))) h = omega arith
unit-is v (suc (suc (suc (suc (suc i))))) h = absurd (omega arith)

worth-grows : (v : ℕ) (ds : List ℕ) → v ≤ worth_from v ds
worth-grows v [] = le_refl v
worth-grows v (d ∷ ds) = le_trans (omega arith) (worth-grows (v * 10 + d) ds)

-- With a place free, or none, nothing is carried; past the fourth decimal the last one kept counts for one.
pub no-carry : (s : Bool) (k : ℕ) → k < half → carry_of s k ≡ 0
unfolding carry_of
no-carry s k h = simp (ne_eqb k 7 (λ e. omega arith), ne_eqb k 6 (λ e. omega arith))

-- nor below zero, but for what is above a half
pub no-carry-below : (k : ℕ) → eqb k above ≡ false → carry_of true k ≡ 0
unfolding carry_of
no-carry-below k h = go (eqb k half)
  where
    go : (b : Bool) → ◌≡◌ {A = ℕ} (cond (eqb k above) 1 (cond b (cond true 0 1) 0)) 0
    go true = simp h
    go false = simp h

pub carry-small : (s : Bool) (k : ℕ) → carry_of s k ≤ 1
unfolding carry_of
carry-small s k = go (eqb k 7) (eqb k 6) s
  where
    go : (a b s : Bool) → cond a 1 (cond b (cond s 0 1) 0) ≤ 1
    go true b s = lit≤ tt
    go false true true = lit≤ tt
    go false true false = lit≤ tt
    go false false s = lit≤ tt

unit-past : (k : ℕ) → places ≤ k → unit_of k ≡ 1
unfolding unit_of
unit-past k h = simp (ne_eqb k 0 (λ e. omega arith), ne_eqb k 1 (λ e. omega arith), ne_eqb k 2 (λ e. omega arith), ne_eqb k 3 (λ e. omega arith))

past-stays : (k d : ℕ) → places ≤ k → places ≤ past_of k d
unfolding past_of
past-stays k d h = go (eqb k 4) (ltb d 5) (eqb d 5) (eqb k 6) (eqb d 0)
  where
    go : (a b c e f : Bool) → 4 ≤ cond a (cond b 5 (cond c 6 7)) (cond e (cond f 6 7) k)
    go true true c e f = lit≤ tt
    go true false true e f = lit≤ tt
    go true false false e f = lit≤ tt
    go false b c true true = lit≤ tt
    go false b c true false = lit≤ tt
    go false b c false f = h

or-true : (f : Bool) → f || true ≡ true
or-true true = refl
or-true false = refl

pub past-most : (k d : ℕ) → k ≤ above → past_of k d ≤ above
unfolding past_of
past-most k d h = go (eqb k 4) (ltb d 5) (eqb d 5) (eqb k 6) (eqb d 0)
  where
    go : (a b c e f : Bool) → cond a (cond b 5 (cond c 6 7)) (cond e (cond f 6 7) k) ≤ 7
    go true true c e f = lit≤ tt
    go true false true e f = lit≤ tt
    go true false false e f = lit≤ tt
    go false b c true true = lit≤ tt
    go false b c true false = lit≤ tt
    go false b c false f = h

-- where it stands for v, with the decimals k, its magnitude is v of these units and what is carried
at-end : {n : Number} {s f p : Bool} {v k : ℕ} (w : ℕ) → v * unit_of k ≡ w → v ≤ w → Reads n s f p v k → Ends n s f (w + carry_of s k)
unfolding nearest_of ten_thousandths
at-end {n} {s} {v = v} {k} w e l r = record { negative-is = r.negative-is; filled_is = r.filled_is; worth-is = go r.stands }
  where
    go : Stands n.magnitude n.decimals v k → Worth (n.magnitude * unit_of n.decimals + carry_of n.negative n.decimals) (w + carry_of s k)
    go (past a b) = past (omega (arith, lt_of_lt_of_le a (unit-grows n.magnitude n.decimals))) (omega (arith, lt_of_lt_of_le b l))
    go (exact a b) = exact (rw (a, b, r.negative-is, e) refl)

-- With i places free, a number ends worth what it stands for with those places filled.
ends : {n : Number} {s f p : Bool} {v j : ℕ} (i : ℕ) → j + i ≡ places → Reads n s f p v j → Ends n s f (worth_from v (exactly i []) + carry_of s places)
ends {n} {s} {f} {v = v} {j} i e r =
    let k : j ≡ places - i = omega arith in
    let none : carry_of s j ≡ carry_of s places = no-carry s j (omega arith) ∙ sym (no-carry s places (lit≤ tt)) in
    rw (← none) (at-end (worth_from v (exactly i [])) (rw k (unit-is v i (omega arith))) (worth-grows v (exactly i [])) r)

-- With no place free, the digits that follow are against a half.
ends-past : {n : Number} {s f : Bool} {v k : ℕ} (ds : List ℕ) → places ≤ k → Reads n s f true v k → Ends (read_digits n ds) s (f || some ds) (v + carry_of s (tail_from k ds))
unfolding tail_from
ends-past {f = true} {v} {k} [] h r = at-end v (rw (unit-past k h) (omega arith)) (le_refl v) r
ends-past {f = false} {v} {k} [] h r = at-end v (rw (unit-past k h) (omega arith)) (le_refl v) r
ends-past {n = n} {s = s} {f = f} {v = v} {k = k} (d ∷ ds) h r = rw (or-true f) (ends-past {n = digit_of n d} ds (past-stays k d h) (reads-past-fourth d h r))

-- The digits of the whole part.
reads-digits : {n : Number} {s f : Bool} {v : ℕ} (ds : List ℕ) → Reads n s f false v 0 → Reads (read_digits n ds) s (f || some ds) false (worth_from v ds) 0
reads-digits {f = true} [] r = r
reads-digits {f = false} [] r = r
reads-digits {n = n} {s = s} {f = true} {v = v} (d ∷ ds) r = reads-digits {n = digit_of n d} ds (reads_whole d r)
reads-digits {n = n} {s = s} {f = false} {v = v} (d ∷ ds) r = reads-digits {n = digit_of n d} ds (reads_whole d r)

-- The decimals, with i places free.
ends-decimals : {n : Number} {s f : Bool} {v j : ℕ} (i : ℕ) (ds : List ℕ) → j + i ≡ places → Reads n s f true v j →
    Ends (read_digits n ds) s (f || some ds) (worth_from v (exactly i ds) + carry_of s (tail_from places (drop i ds)))
unfolding tail_from
ends-decimals {f = true} zero [] e r = ends zero e r
ends-decimals {f = false} zero [] e r = ends zero e r
ends-decimals {f = true} (suc i) [] e r = ends (suc i) e r
ends-decimals {f = false} (suc i) [] e r = ends (suc i) e r
ends-decimals {n} {s} {f} {v} {j} zero (d ∷ ds) e r =
    let k : j ≡ places = omega arith in
    subst (λ (k : ℕ). Ends (read_digits n (d ∷ ds)) s (f || true) (v + carry_of s (tail_from k (d ∷ ds)))) k (ends-past (d ∷ ds) (omega arith) r)
ends-decimals {n = n} {s = s} {f = f} {v = v} {j = j} (suc i) (d ∷ ds) e r = rw (or-true f) (ends-decimals {n = digit_of n d} i ds (omega arith) (reads-decimal d (omega arith) r))

-- The start, and the point.
reads-start : (s : Bool) → Reads (start_of s) s false false 0 0
unfolding start_of
reads-start s = record { negative-is = refl; filled_is = refl; pointed-is = refl; stands = exact refl refl }

reads-point : {n : Number} {s f : Bool} {v j : ℕ} → Reads n s f false v j → Reads (point_of n) s f true v j
unfolding point_of
reads-point r = record { negative-is = r.negative-is; filled_is = r.filled_is; pointed-is = refl; stands = r.stands }

-- Four decimals are worth less than one ten-thousandth each of the whole part's place.
joined : (v : ℕ) (ds : List ℕ) → worth_from v (exactly places ds) ≡ v * 10000 + worth (exactly places ds)
joined v [] = omega arith
joined v (a ∷ []) = omega arith
joined v (a ∷ b ∷ []) = omega arith
joined v (a ∷ b ∷ c ∷ []) = omega arith
joined v (a ∷ b ∷ c ∷ d ∷ ds) = omega arith

some-append : (xs ys : List ℕ) → some (xs ++ ys) ≡ some xs || some ys
some-append [] ys = refl
some-append (x ∷ xs) ys = refl

-- A whole text: its magnitude in ten-thousandths, with what the decimals past the fourth carry.
abbrev rounded_of : Sign → ℕ → List ℕ → ℕ
rounded_of s w ds = w * 10000 + worth (exactly places ds) + carry_of (negative s) (tail_from places (drop places ds))

ends-numeral : (t : Numeral) →
    Ends (read_numeral t) (negative t.sign) (some (t.whole ++ decimals t.fraction)) (rounded_of t.sign (worth t.whole) (decimals t.fraction))
unfolding tail_from
ends-numeral t = rw (some-append t.whole (decimals t.fraction), ← joined (worth t.whole) (decimals t.fraction)) (go t.fraction)
  where
    s : Bool
    s = negative t.sign

    whole : Reads (read_digits (start_of s) t.whole) s (some t.whole) false (worth t.whole) 0
    whole = reads-digits t.whole (reads-start s)

    or-false : (f : Bool) → f || false ≡ f
    or-false true = refl
    or-false false = refl

    go : (x : Fraction) →
        Ends (read_fraction (read_digits (start_of s) t.whole) x) s (some t.whole || some (decimals x))
        (worth_from (worth t.whole) (exactly places (decimals x)) + carry_of s (tail_from places (drop places (decimals x))))
    go none = rw (or-false (some t.whole)) (ends places refl whole)
    go (point ds) = ends-decimals places ds refl (reads-point whole)

-- A magnitude at most the largest of its side is a signed number in the range.
in-range : (s : Sign) (m : ℕ) → leb m (largest_of (negative s)) ≡ in_range (signed s m)
unfolding largest_of
in-range bare m = refl
in-range plus m = refl
in-range minus zero = refl
in-range minus (suc m) = leb-suc-suc m 327679999 ∙ sym (and-true (leb m 327679999))
  where
    and-true : (x : Bool) → x && true ≡ x
    and-true true = refl
    and-true false = refl

signs : (s : Sign) (m : ℕ) → signed_of (negative s) m ≡ signed s m
unfolding signed_of
signs bare m = refl
signs plus m = refl
signs minus m = refl

pub largest-le : (s : Bool) → largest_of s ≤ bottom
unfolding largest_of
largest-le true = lit≤ tt
largest-le false = lit≤ tt

out : (s : Sign) (m : ℕ) → bottom < m → leb m (largest_of (negative s)) ≡ false
out s m h = lt-leb m (largest_of (negative s)) (omega (arith, largest-le (negative s)))

finishes : {n : Number} (t : Numeral) {f : Bool} {v : ℕ} → Ends n (negative t.sign) f v → finish_of n ≡ cond f (cond (in_range (signed t.sign v)) (Some (signed t.sign v)) None) None
unfolding finish_of
finishes {n} t {f} {v} e =
    (λ i. cond (e.filled_is i) (cond (leb (nearest_of n) (largest_of (e.negative-is i))) (Some (signed_of (e.negative-is i) (nearest_of n))) None) None) ∙ go e.worth-is
  where
    go : Worth (nearest_of n) v → cond f (cond (leb (nearest_of n) (largest_of (negative t.sign))) (Some (signed_of (negative t.sign) (nearest_of n))) None) None ≡ cond f (cond (in_range (signed t.sign v)) (Some (signed t.sign v)) None) None
    go (exact a) = rw (a, in-range t.sign v, signs t.sign v) refl
    go (past a b) = rw (out t.sign (nearest_of n) a, ← in-range t.sign v, out t.sign v b) refl

-- What it is rounded to is the nearest ten-thousandth of the whole text.
worth-append : (v : ℕ) (ds es : List ℕ) → worth_from v (ds ++ es) ≡ worth_from (worth_from v ds) es
worth-append v [] es = refl
worth-append v (d ∷ ds) es = worth-append (v * 10 + d) ds es

is-nearest : (t : Numeral) → Digits (decimals t.fraction) → signed t.sign (rounded_of t.sign (worth t.whole) (decimals t.fraction)) ≡ nearest t
is-nearest t h =
    let ds = decimals t.fraction in
    let all : worth_from (worth t.whole) ds ≡ worth (t.whole ++ ds) = sym (worth-append 0 t.whole ds) in
    sym (signs t.sign _) ∙ text-nearest (negative t.sign) (worth t.whole) ds h
    ∙ (λ i. nearest_div (signs t.sign (all i * 10000) i) (pos (ten (length ds))))

-- Feeding a text's marks one by one and finishing gives the text's value, whatever its length.
pub numeral-value : (t : Numeral) → Digits (decimals t.fraction) → finish_of (read_numeral t) ≡ value_of t
unfolding value_of
numeral-value t h =
    finishes t (ends-numeral t) ∙ ap (λ (v : ℤ). cond (some (t.whole ++ decimals t.fraction)) (cond (in_range v) (Some v) None) None) (is-nearest t h)
