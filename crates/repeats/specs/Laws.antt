-- Slot by slot.
use Rattle.std.specs.Prelude.{Bool, true, false, cond, List, [], ◌∷◌, ◌++◌, ◌≡◌, ℕ, suc, ◌+◌, ◌-◌, ◌*◌, ◌%◌, ◌≤◌, ◌<◌, ltb, ℤ, pos, nat_abs}
use Rattle.std.proofs.Math.Path.{refl}
use Rattle.std.proofs.Common.{ap, ◌∙◌, arith}
use borrow.Author.Tests.{ltb-true, lt-ltb, le-ltb, eq-eqb, ne_eqb}
use Rattle.exact.specs.Whole.{◌<?◌, ◌≡?◌, ≡?-true}
use Rattle.console.specs.Sums.{added}
use Rattle.rows.specs.declared.Row.{Row}
use Rattle.rows.specs.Rows.{row_at}
use Rattle.repeats.specs.Repeats.{most, count_at, marked_at, marks, size_at, same_way, other_way, same, low_of, mark_of, kept_of, among, sought_of, sought_in, painted_of, painted_all}

pub among_none : (lines : List ℤ) (l : Row) → among lines 0 l ≡ false
unfolding among
among_none lines l = refl

module _ (lines : List ℤ) (i : ℕ) (l : Row) (some : 0 < i) {k : Row} (is : k ≡ row_at lines ((i - 1) * 5)) where
  one_more : i ≡ suc (i - 1)
  one_more = omega (arith, some)

  here : (n : ℕ) {t : Row} → t ≡ row_at lines (n * 5) → same l t ≡ true → among lines (suc n) l ≡ true
  unfolding among
  here n e h = rw (← e, h) refl

  later : (n : ℕ) {t : Row} → t ≡ row_at lines (n * 5) → same l t ≡ false → among lines (suc n) l ≡ among lines n l
  unfolding among
  later n e h = rw (← e, h) refl

  pub among-here : same l k ≡ true → among lines i l ≡ true
  among-here h = ap (λ (n : ℕ). among lines n l) one_more ∙ here (i - 1) is h

  pub among_later : same l k ≡ false → among lines i l ≡ among lines (i - 1) l
  among_later h = ap (λ (n : ℕ). among lines n l) one_more ∙ later (i - 1) is h

-- no more than the slots
pub kept-few : (count : ℕ) → kept_of count ≤ most
unfolding kept_of
kept-few count = go (ltb count most) refl
  where
    go : (t : Bool) → ltb count most ≡ t → cond t count most ≤ most
    go true e = let h : count < most = ltb-true count most e in omega (arith, h)
    go false e = omega arith

-- ---- marks

pub low-most : (z : ℤ) → low_of z ≤ 65536
unfolding low_of
low-most z = go (z <? pos 0)
  where
    go : (t : Bool) → cond t (65536 - nat_abs z % 65536) (nat_abs z % 65536) ≤ 65536
    go true = omega arith
    go false = omega arith

pub mark-below : (l : Row) → mark_of l < marks
unfolding mark_of
mark-below l = omega arith

-- ---- lines with the same two ends have the same mark

both : (s t : Bool) → cond s t false ≡ true → (s ≡ true) × (t ≡ true)
both true true e = (refl, refl)
both true false e = (refl, e)
both false true e = (e, refl)
both false false e = (e, e)

four : (p q r s : Bool) → cond p (cond q (cond r (cond s true false) false) false) false ≡ true → (p ≡ true) × (q ≡ true) × (r ≡ true) × (s ≡ true)
four p q r s e =
    let a = both p (cond q (cond r (cond s true false) false) false) e in
    let b = both q (cond r (cond s true false) false) a.1 in
    let c = both r (cond s true false) b.1 in
    (a.0, b.0, c.0, (both s true c.1).0)

turned : (a b c d : ℕ) → ((a + b) * 31 + (c + d) * 1237) % marks ≡ ((b + a) * 31 + (d + c) * 1237) % marks
turned a b c d = omega arith

pub mark-same : (l m : Row) → same l m ≡ true → mark_of l ≡ mark_of m
unfolding same same_way other_way mark_of
mark-same l m e = go (same_way l m) refl e
  where
    go : (t : Bool) → same_way l m ≡ t → cond t true (other_way l m) ≡ true → mark_of l ≡ mark_of m
    go true w e =
        let f = four (l.b ≡? m.b) (l.c ≡? m.c) (l.d ≡? m.d) (l.e ≡? m.e) w in
        let b = ≡?-true l.b m.b f.0 in
        let c = ≡?-true l.c m.c f.1 in
        let d = ≡?-true l.d m.d f.2 in
        let q = ≡?-true l.e m.e f.3 in
        λ i. ((low_of (b i) + low_of (d i)) * 31 + (low_of (c i) + low_of (q i)) * 1237) % marks
    go false w e =
        let f = four (l.b ≡? m.d) (l.c ≡? m.e) (l.d ≡? m.b) (l.e ≡? m.c) e in
        let b = ≡?-true l.b m.d f.0 in
        let c = ≡?-true l.c m.e f.1 in
        let d = ≡?-true l.d m.b f.2 in
        let q = ≡?-true l.e m.c f.3 in
        (λ i. ((low_of (b i) + low_of (d i)) * 31 + (low_of (c i) + low_of (q i)) * 1237) % marks) ∙ turned (low_of m.d) (low_of m.b) (low_of m.e) (low_of m.c)

-- ---- a line that is looked for

module _ (kept : List ℤ) (l : Row) {count last : ℕ} (c : count ≡ size_at kept count_at) (m : last ≡ size_at kept (marked_at + mark_of l)) where
  pub sought-never : last ≡ 0 → sought_in kept l ≡ false
  unfolding sought_in sought_of
  sought-never z = rw (← c, ← m, eq-eqb last 0 z) refl

  module _ (some : last ≡ 0 → ⊥) where
    pub sought-kept : count < added last most → sought_in kept l ≡ among kept (kept_of count) l
    unfolding sought_in sought_of
    sought-kept h = rw (← c, ← m, ne_eqb last 0 some, lt-ltb count (added last most) h) refl

    pub sought-gone : added last most ≤ count → sought_in kept l ≡ false
    unfolding sought_in sought_of
    sought-gone h = rw (← c, ← m, ne_eqb last 0 some, le-ltb count (added last most) h) refl

-- strokes after strokes
pub painted-append : (kept : List ℤ) (xs ys : List Row) → painted_all kept (xs ++ ys) ≡ painted_all (painted_all kept xs) ys
unfolding painted_all
painted-append kept [] ys = refl
painted-append kept (x ∷ xs) ys = painted-append (painted_of kept x) xs ys

pub painted-none : (kept : List ℤ) → painted_all kept [] ≡ kept
unfolding painted_all
painted-none kept = refl
