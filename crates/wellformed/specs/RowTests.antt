-- What the tests of a row say, both ways; and a number that passed its test is written as it was read.
use Rattle.std.specs.Prelude.{◌≡◌, refl, Bool, true, false, ◌&&◌, ℕ, zero, suc, ◌≤◌, ℤ, pos, negsuc, neg_ℤ, nat_abs}
use Rattle.std.proofs.Common.{ap, ◌∙◌, arith, le-leb}
use Rattle.exact.specs.Whole.{◌<?◌, ◌≤?◌, ◌≤ᶻ◌, ord, up_neg, dn-neg, ≤?-true, le-≤?, le-<?}
use Rattle.exact.specs.Fit.{Bd, abs}
use Rattle.rows.specs.declared.Row.{Row}
use Rattle.rows.specs.Rows.{row, flag_number, flag_of, place_number, small_of, most_byte}
use Rattle.hpgl.proofs.ValidFacts.{and_both}
use Rattle.wellformed.specs.Sound.{first_below, last_below, below_of, between_of, four_low, four_high, five_of, blank_sound}

pub both : {x y : Bool} → x ≡ true → y ≡ true → x && y ≡ true
both {x} {y} e f = ap (λ (t : Bool). t && y) e ∙ f

-- by cases of a test
pub split : {P : Type 0} (t : Bool) → (t ≡ true → P) → (t ≡ false → P) → P
split true f g = f refl
split false f g = g refl

-- ---- rows

pub record Below (p q : Row) : Type 0 where
  pub a : p.a ≤ᶻ q.a
  pub b : p.b ≤ᶻ q.b
  pub c : p.c ≤ᶻ q.c
  pub d : p.d ≤ᶻ q.d
  pub e : p.e ≤ᶻ q.e

below_true : (p q : Row) → below_of p q ≡ true → Below p q
unfolding below_of first_below last_below
below_true p q t =
    let t0 = and_both ((p.a ≤? q.a) && (p.b ≤? q.b)) ((p.c ≤? q.c) && ((p.d ≤? q.d) && (p.e ≤? q.e))) t in
    let t1 = and_both (p.a ≤? q.a) (p.b ≤? q.b) t0.0 in
    let t3 = and_both (p.c ≤? q.c) ((p.d ≤? q.d) && (p.e ≤? q.e)) t0.1 in
    let t4 = and_both (p.d ≤? q.d) (p.e ≤? q.e) t3.1 in
    record {
      a = ≤?-true p.a q.a t1.0;
      b = ≤?-true p.b q.b t1.1;
      c = ≤?-true p.c q.c t3.0;
      d = ≤?-true p.d q.d t4.0;
      e = ≤?-true p.e q.e t4.1;
    }

below_of-true : (p q : Row) → Below p q → below_of p q ≡ true
unfolding below_of first_below last_below
below_of-true p q h = both (both (le-≤? h.a) (le-≤? h.b)) (both (le-≤? h.c) (both (le-≤? h.d) (le-≤? h.e)))

pub record Between (l r h : Row) : Type 0 where
  pub low : Below l r
  pub high : Below r h

pub between-true : (l r h : Row) → between_of l r h ≡ true → Between l r h
unfolding between_of
between-true l r h t = let b = and_both (below_of l r) (below_of r h) t in record { low = below_true l r b.0; high = below_true r h b.1 }

pub between-of : (l r h : Row) → Between l r h → between_of l r h ≡ true
unfolding between_of
between-of l r h b = both (below_of-true l r b.low) (below_of-true r h b.high)

-- ---- sizes

pub bd-of : {z : ℤ} {n : ℕ} → neg_ℤ (pos n) ≤ᶻ z → z ≤ᶻ pos n → Bd z n
bd-of {z} {n} l u = record { bd = omega (arith, ord, abs z, up_neg (pos n), dn-neg (pos n)) }

pub bd-low : {z : ℤ} {n : ℕ} → Bd z n → neg_ℤ (pos n) ≤ᶻ z
bd-low {z} {n} h = omega (arith, ord, abs z, h.bd, up_neg (pos n), dn-neg (pos n))

pub bd-high : {z : ℤ} {n : ℕ} → Bd z n → z ≤ᶻ pos n
bd-high {z} {n} h = omega (arith, ord, abs z, h.bd)

pub bd-nat : (z : ℤ) {n k : ℕ} → pos 0 ≤ᶻ z → z ≤ᶻ pos n → n ≤ k → Bd z k
bd-nat z {n} {k} l u h = record { bd = omega (arith, ord, abs z, l, u, h) }

-- four numbers within ±n, and the last from l to h
pub record Four (n l h : ℕ) (r : Row) : Type 0 where
  pub a : Bd r.a n
  pub b : Bd r.b n
  pub c : Bd r.c n
  pub d : Bd r.d n
  pub low : pos l ≤ᶻ r.e
  pub high : r.e ≤ᶻ pos h

pub four-true : (n l h : ℕ) (r : Row) → between_of (four_low n l) r (four_high n h) ≡ true → Four n l h r
four-true n l h r t =
    let b = between-true (four_low n l) r (four_high n h) t in
    record {
      a = bd-of b.low.a b.high.a;
      b = bd-of b.low.b b.high.b;
      c = bd-of b.low.c b.high.c;
      d = bd-of b.low.d b.high.d;
      low = b.low.e;
      high = b.high.e;
    }

pub four-of : (n l h : ℕ) (r : Row) → Four n l h r → between_of (four_low n l) r (four_high n h) ≡ true
four-of n l h r f =
    between-of (four_low n l) r (four_high n h)
    (record {
      low = record { a = bd-low f.a; b = bd-low f.b; c = bd-low f.c; d = bd-low f.d; e = f.low };
      high = record { a = bd-high f.a; b = bd-high f.b; c = bd-high f.c; d = bd-high f.d; e = f.high };
    })

-- natural numbers up to given ones
pub five-of : {a b c d e : ℕ} {la lb lc ld le ha hb hc hd he : ℕ} → (la ≤ a) × (a ≤ ha) → (lb ≤ b) × (b ≤ hb) → (lc ≤ c) × (c ≤ hc) → (ld ≤ d) × (d ≤ hd) → (le ≤ e) × (e ≤ he) →
    between_of (five_of la lb lc ld le) (five_of a b c d e) (five_of ha hb hc hd he) ≡ true
five-of {a} {b} {c} {d} {e} p q r s t =
    between-of _ (five_of a b c d e) _
    (record {
      low = record { a = up p.0; b = up q.0; c = up r.0; d = up s.0; e = up t.0 };
      high = record { a = up p.1; b = up q.1; c = up r.1; d = up s.1; e = up t.1 };
    })
  where
    up : {m n : ℕ} → m ≤ n → pos m ≤ᶻ pos n
    up h = omega (arith, ord)

-- ---- a number that passed its test is written as it was read

pub zero_same : {z : ℤ} → pos 0 ≤ᶻ z → z ≤ᶻ pos 0 → pos 0 ≡ z
zero_same l u = omega (arith, ord)

pub flag_same : (z : ℤ) → pos 0 ≤ᶻ z → z ≤ᶻ pos 1 → flag_number (flag_of z) ≡ z
unfolding flag_number flag_of ◌<?◌
flag_same (pos zero) l u = refl
flag_same (pos (suc zero)) l u = refl
flag_same (pos (suc (suc n))) l u = absurd (omega (arith, ord, u))
flag_same (negsuc n) l u = absurd (omega (arith, ord, l))

pub small_is : (z : ℤ) {n : ℕ} (most : ℕ) → pos 0 ≤ᶻ z → z ≤ᶻ pos n → n ≤ most → (pos (small_of most z) ≡ z) × (small_of most z ≡ nat_abs z) × (nat_abs z ≤ n)
unfolding small_of
small_is (pos k) {n} most l u h =
    let w : pos k ≤ᶻ pos most = omega (arith, ord, u) in
    let e : small_of most (pos k) ≡ k = rw (le-≤? l, le-≤? w) refl in
    (ap pos e, e, omega (arith, ord, u))
small_is (negsuc k) most l u h = absurd (omega (arith, ord, l))

pub small_same : (z : ℤ) {n : ℕ} (most : ℕ) → pos 0 ≤ᶻ z → z ≤ᶻ pos n → n ≤ most → pos (small_of most z) ≡ z
small_same z most l u h = (small_is z most l u h).0

pub small-most : (z : ℤ) {n : ℕ} (most : ℕ) → pos 0 ≤ᶻ z → z ≤ᶻ pos n → n ≤ most → small_of most z ≤ n
small-most z most l u h = let s = small_is z most l u h in omega (arith, s.1, s.2)

pub place_is : (n : ℕ) → n ≤ most_byte → place_number n ≡ pos n
unfolding place_number
place_is n h = rw (le-leb n most_byte h) refl

pub place_same : (z : ℤ) {n : ℕ} → pos 0 ≤ᶻ z → z ≤ᶻ pos n → n ≤ most_byte → place_number (small_of most_byte z) ≡ z
place_same z l u h = let s = small_is z most_byte l u h in place_is (small_of most_byte z) (omega (arith, s.1, s.2, h)) ∙ s.0

pub flag-bounds : (t : Bool) → (pos 0 ≤ᶻ flag_number t) × (flag_number t ≤ᶻ pos 1)
unfolding flag_number
flag-bounds true = (omega (arith, ord), omega (arith, ord))
flag-bounds false = (omega (arith, ord), omega (arith, ord))

-- a flag as a number
pub flag-zero : {z : ℤ} → z ≡ pos 0 → flag_of z ≡ false
unfolding flag_of
flag-zero {z} e = le-<? (omega (arith, ord, e))

-- a blank row
pub blank-same : (r : Row) → blank_sound r ≡ true → row (pos 0) (pos 0) (pos 0) (pos 0) (pos 0) ≡ r
unfolding blank_sound
blank-same r t =
    let b = between-true (five_of 0 0 0 0 0) r (five_of 0 0 0 0 0) t in
    λ i. row (zero_same b.low.a b.high.a i) (zero_same b.low.b b.high.b i) (zero_same b.low.c b.high.c i) (zero_same b.low.d b.high.d i) (zero_same b.low.e b.high.e i)
