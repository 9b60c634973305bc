-- ℤ by differences of naturals. `up z` and `dn z` are the positive and the negative part of z, of which one is 0.
-- `diff p n` is p − n, and is shut: `simp Z` takes an expression over ℤ to one `diff`, and an order or an equation over ℤ to one over ℕ, which `omega` reads.
-- Assumes nothing.
use Rattle.std.specs.Prelude.{◌≡◌, refl, ◌↔◌, Bool, true, false, not, cond, ℕ, zero, suc, ◌+◌, ◌*◌, ◌-◌, ◌≤◌, ◌<◌, T, ltb, eqb, ℤ, pos, negsuc, neg_ℤ, ◌+ℤ◌, ◌*ℤ◌, ◌≤ℤ◌, ◌<ℤ◌}
use Rattle.std.proofs.Common.{sym, ap, ◌∙◌, subst, arith, eq-eqb, eqb-true, leb-false, ltb→lt, nltb→le, leb→le, le→leb, lt→ltb}
use Rattle.std.proofs.Math.IntN.{sub_ℕ}
use Rattle.std.specs.Int.Signed.{le_z, lt_z, lt_z_no}

-- the order, at the precedence of `≡`: `◌≤ℤ◌` binds tighter than `+ℤ`
infix 4 ◌≤ᶻ◌ ◌<ᶻ◌
abbrev pub ◌≤ᶻ◌ : ℤ → ℤ → Type 0
a ≤ᶻ b = a ≤ℤ b

abbrev pub ◌<ᶻ◌ : ℤ → ℤ → Type 0
a <ᶻ b = a <ℤ b

abbrev pub up : ℤ → ℕ
up (pos n) = n
up (negsuc n) = 0

abbrev pub dn : ℤ → ℕ
dn (pos n) = 0
dn (negsuc n) = suc n

pub ext : (a b : ℤ) → up a + dn b ≡ up b + dn a → a ≡ b
ext (pos a) (pos b) e = ap pos (omega arith)
ext (pos a) (negsuc b) e = absurd (omega arith)
ext (negsuc a) (pos b) e = absurd (omega arith)
ext (negsuc a) (negsuc b) e = ap negsuc (omega arith)

-- ---- the parts of a difference, a sum, a negation, a product

sub_cases : (c : Bool) (a b : ℕ) → (T c → a < b) → (T (not c) → b ≤ a) → up (cond c (negsuc (b - suc a)) (pos (a - b))) + b ≡ dn (cond c (negsuc (b - suc a)) (pos (a - b))) + a
sub_cases true a b f g = let h = f tt in omega arith
sub_cases false a b f g = let h = g tt in omega arith

pub sub_parts : (a b : ℕ) → up (sub_ℕ a b) + b ≡ dn (sub_ℕ a b) + a
sub_parts a b = sub_cases (ltb a b) a b (ltb→lt a b) (nltb→le a b)

pub up_neg : (a : ℤ) → up (neg_ℤ a) ≡ dn a
up_neg (pos zero) = refl
up_neg (pos (suc n)) = refl
up_neg (negsuc n) = refl

pub dn-neg : (a : ℤ) → dn (neg_ℤ a) ≡ up a
dn-neg (pos zero) = refl
dn-neg (pos (suc n)) = refl
dn-neg (negsuc n) = refl

pub add_parts : (a b : ℤ) → up (a +ℤ b) + (dn a + dn b) ≡ dn (a +ℤ b) + (up a + up b)
add_parts (pos a) (pos b) = omega arith
add_parts (pos a) (negsuc b) = omega (arith, sub_parts a (suc b))
add_parts (negsuc a) (pos b) = omega (arith, sub_parts b (suc a))
add_parts (negsuc a) (negsuc b) = omega arith

pub up-mul : (a b : ℤ) → up (a *ℤ b) ≡ up a * up b + dn a * dn b
up-mul (pos a) (pos b) = omega arith
up-mul (pos a) (negsuc b) = omega (arith, up_neg (pos (a * suc b)))
up-mul (negsuc a) (pos b) = omega (arith, up_neg (pos (suc a * b)))
up-mul (negsuc a) (negsuc b) = omega arith

pub dn-mul : (a b : ℤ) → dn (a *ℤ b) ≡ up a * dn b + dn a * up b
dn-mul (pos a) (pos b) = omega arith
dn-mul (pos a) (negsuc b) = omega (arith, dn-neg (pos (a * suc b)))
dn-mul (negsuc a) (pos b) = omega (arith, dn-neg (pos (suc a * b)))
dn-mul (negsuc a) (negsuc b) = omega arith

-- ---- the order by the parts

pub le-to : (a b : ℤ) → T (le_z a b) → up a + dn b ≤ up b + dn a
le-to (pos a) (pos b) t = omega (arith, leb→le a b t)
le-to (pos a) (negsuc b) t = absurd t
le-to (negsuc a) (pos b) t = omega arith
le-to (negsuc a) (negsuc b) t = omega (arith, leb→le b a t)

pub le_of : (a b : ℤ) → up a + dn b ≤ up b + dn a → T (le_z a b)
le_of (pos a) (pos b) h = le→leb a b (omega arith)
le_of (pos a) (negsuc b) h = absurd (omega arith)
le_of (negsuc a) (pos b) h = tt
le_of (negsuc a) (negsuc b) h = le→leb b a (omega arith)

pub lt-to : (a b : ℤ) → T (lt_z a b) → up a + dn b < up b + dn a
lt-to (pos a) (pos b) t = omega (arith, ltb→lt a b t)
lt-to (pos a) (negsuc b) t = absurd t
lt-to (negsuc a) (pos b) t = omega arith
lt-to (negsuc a) (negsuc b) t = omega (arith, ltb→lt b a t)

pub lt_of : (a b : ℤ) → up a + dn b < up b + dn a → T (lt_z a b)
lt_of (pos a) (pos b) h = lt→ltb a b (omega arith)
lt_of (pos a) (negsuc b) h = absurd (omega arith)
lt_of (negsuc a) (pos b) h = tt
lt_of (negsuc a) (negsuc b) h = lt→ltb b a (omega arith)

-- rules for omega: an order among the hypotheses is read, and a goal is turned
pub ≤-parts : {a b : ℤ} → a ≤ℤ b → up a + dn b ≤ up b + dn a
≤-parts {a} {b} h = le-to a b h.le

pub parts-≤ : {a b : ℤ} → up a + dn b ≤ up b + dn a → a ≤ℤ b
parts-≤ {a} {b} h = record { le = le_of a b h }

pub <-parts : {a b : ℤ} → a <ℤ b → up a + dn b < up b + dn a
<-parts {a} {b} h = lt-to a b h.lt

pub parts-< : {a b : ℤ} → up a + dn b < up b + dn a → a <ℤ b
parts-< {a} {b} h = record { lt = lt_of a b h }

pub ≡-parts : {a b : ℤ} → a ≡ b → up a + dn b ≡ up b + dn a
≡-parts {a} {b} e = subst (λ (x : ℤ). up a + dn x ≡ up x + dn a) e refl

pub parts-≡ : {a b : ℤ} → up a + dn b ≡ up b + dn a → a ≡ b
parts-≡ {a} {b} h = ext a b h

-- ---- the difference, shut

pub diff : ℕ → ℕ → ℤ
diff p n = sub_ℕ p n

pub diff-parts : (p n : ℕ) → up (diff p n) + n ≡ dn (diff p n) + p
unfolding diff
diff-parts p n = sub_parts p n

pub is : (x : ℤ) → x ≡ diff (up x) (dn x)
is x = ext x (diff (up x) (dn x)) (omega (arith, diff-parts (up x) (dn x)))

pub pos-diff : (n : ℕ) → pos n ≡ diff n 0
pos-diff n = is (pos n)

pub negsuc-diff : (n : ℕ) → negsuc n ≡ diff 0 (suc n)
negsuc-diff n = is (negsuc n)

pub neg-diff : (p n : ℕ) → neg_ℤ (diff p n) ≡ diff n p
neg-diff p n = ext (neg_ℤ (diff p n)) (diff n p) (omega (arith, diff-parts p n, diff-parts n p, up_neg (diff p n), dn-neg (diff p n)))

pub add-diff : (p n q m : ℕ) → diff p n +ℤ diff q m ≡ diff (p + q) (n + m)
add-diff p n q m = ext (diff p n +ℤ diff q m) (diff (p + q) (n + m)) (omega (arith, diff-parts p n, diff-parts q m, diff-parts (p + q) (n + m), add_parts (diff p n) (diff q m)))

pub mul-cross : (u d v w p n q m : ℕ) → u + n ≡ d + p → v + m ≡ w + q → u * v + d * w + (p * m + n * q) ≡ u * w + d * v + (p * q + n * m)
mul-cross u d v w p n q m e f =
    omega (arith, ap (λ (k : ℕ). k * v) e, ap (λ (k : ℕ). k * w) e, ap (λ (k : ℕ). p * k) f, ap (λ (k : ℕ). n * k) f)

pub mul-diff : (p n q m : ℕ) → diff p n *ℤ diff q m ≡ diff (p * q + n * m) (p * m + n * q)
mul-diff p n q m =
    ext (diff p n *ℤ diff q m) (diff (p * q + n * m) (p * m + n * q))
    (omega (
      arith,
      up-mul (diff p n) (diff q m),
      dn-mul (diff p n) (diff q m),
      diff-parts (p * q + n * m) (p * m + n * q),
      mul-cross (up (diff p n)) (dn (diff p n)) (up (diff q m)) (dn (diff q m)) p n q m (diff-parts p n) (diff-parts q m),
    ))

pub ≤-diff : (p n q m : ℕ) → (diff p n ≤ℤ diff q m) ↔ (p + m ≤ q + n)
≤-diff p n q m = (
  (λ h. omega (arith, ≤-parts h, diff-parts p n, diff-parts q m)),
  (λ h. parts-≤ (omega (arith, diff-parts p n, diff-parts q m))),
)

pub <-diff : (p n q m : ℕ) → (diff p n <ℤ diff q m) ↔ (p + m < q + n)
<-diff p n q m = (
  (λ h. omega (arith, <-parts h, diff-parts p n, diff-parts q m)),
  (λ h. parts-< (omega (arith, diff-parts p n, diff-parts q m))),
)

pub ≡-diff : (p n q m : ℕ) → (diff p n ≡ diff q m) ↔ (p + m ≡ q + n)
≡-diff p n q m = (
  (λ h. omega (arith, ≡-parts h, diff-parts p n, diff-parts q m)),
  (λ h. ext (diff p n) (diff q m) (omega (arith, diff-parts p n, diff-parts q m))),
)

pub ruleset Z = (pos-diff, negsuc-diff, neg-diff, add-diff, mul-diff, ≤-diff, <-diff, ≡-diff)

-- what omega reads an order over ℤ by, among the hypotheses and in the goal
pub ruleset ord = (≤-parts, parts-≤, <-parts, parts-<, ≡-parts, parts-≡)

-- ---- a test of equality that computes, by the parts

abbrev pub eq_z : ℤ → ℤ → Bool
eq_z (pos a) (pos b) = eqb a b
eq_z (pos a) (negsuc b) = false
eq_z (negsuc a) (pos b) = false
eq_z (negsuc a) (negsuc b) = eqb a b

pub eq_z-refl : (a : ℤ) → eq_z a a ≡ true
eq_z-refl (pos a) = eq-eqb a a refl
eq_z-refl (negsuc a) = eq-eqb a a refl

pub eq-eq_z : {a b : ℤ} → a ≡ b → eq_z a b ≡ true
eq-eq_z {a} {b} e = subst (λ (x : ℤ). eq_z a x ≡ true) e (eq_z-refl a)

pub eq_z-true : (a b : ℤ) → eq_z a b ≡ true → a ≡ b
eq_z-true (pos a) (pos b) e = ap pos (eqb-true a b e)
eq_z-true (pos a) (negsuc b) e = absurd (omega (arith, T≢F e))
  where
    T≢F : false ≡ true → ◌≡◌ {A = ℕ} 0 1
    T≢F e = cc
eq_z-true (negsuc a) (pos b) e = absurd (omega (arith, T≢F e))
  where
    T≢F : false ≡ true → ◌≡◌ {A = ℕ} 0 1
    T≢F e = cc
eq_z-true (negsuc a) (negsuc b) e = ap negsuc (eqb-true a b e)

bool_false : (t : Bool) → (t ≡ true → ⊥) → t ≡ false
bool_false true f = absurd (f refl)
bool_false false f = refl

pub ne-eq_z : {a b : ℤ} → (a ≡ b → ⊥) → eq_z a b ≡ false
ne-eq_z {a} {b} f = bool_false (eq_z a b) (λ e. f (eq_z-true a b e))

-- ---- the tests of order, as facts and back

pub lt_z-true : (a b : ℤ) → lt_z a b ≡ true → a <ᶻ b
lt_z-true a b e = record { lt = subst T (sym e) tt }

pub le_z-true : (a b : ℤ) → le_z a b ≡ true → a ≤ᶻ b
le_z-true a b e = record { le = subst T (sym e) tt }

pub lt_z-false : (a b : ℤ) → lt_z a b ≡ false → b ≤ᶻ a
lt_z-false a b e = lt_z_no (subst (λ (t : Bool). T (not t)) (sym e) tt)

T_true : (t : Bool) → T t → t ≡ true
T_true true h = refl
T_true false h = absurd h

pub lt-lt_z : {a b : ℤ} → a <ᶻ b → lt_z a b ≡ true
lt-lt_z {a} {b} h = T_true (lt_z a b) h.lt

pub le-le_z : {a b : ℤ} → a ≤ᶻ b → le_z a b ≡ true
le-le_z {a} {b} h = T_true (le_z a b) h.le

pub le-lt_z : {a b : ℤ} → b ≤ᶻ a → lt_z a b ≡ false
le-lt_z {a} {b} h = bool_false (lt_z a b) (λ e. clash (lt_z-true a b e) h)
  where
    clash : {a b : ℤ} → a <ᶻ b → b ≤ᶻ a → ⊥
    clash h k = omega (arith, ord)

pub lt-le_z : {a b : ℤ} → b <ᶻ a → le_z a b ≡ false
lt-le_z {a} {b} h = bool_false (le_z a b) (λ e. clash (le_z-true a b e) h)
  where
    clash : {a b : ℤ} → a ≤ᶻ b → b <ᶻ a → ⊥
    clash h k = omega (arith, ord)

pub le_z-false : (a b : ℤ) → le_z a b ≡ false → b <ᶻ a
le_z-false (pos a) (pos b) e = parts-< (omega (arith, leb-false a b e))
le_z-false (pos a) (negsuc b) e = parts-< (omega arith)
le_z-false (negsuc a) (pos b) e = absurd (omega (arith, T≢F e))
  where
    T≢F : true ≡ false → ◌≡◌ {A = ℕ} 0 1
    T≢F e = cc
le_z-false (negsuc a) (negsuc b) e = parts-< (omega (arith, leb-false b a e))

-- ---- the tests, shut: a definition that a contract cites goes by these, so that `search` and `simp` can rewrite them (`lt_z` computes, and they do not see a call of it)
infix 4 ◌<?◌ ◌≤?◌ ◌≡?◌
unfoldable pub ◌<?◌ : ℤ → ℤ → Bool
a <? b = lt_z a b

unfoldable pub ◌≤?◌ : ℤ → ℤ → Bool
a ≤? b = le_z a b

unfoldable pub ◌≡?◌ : ℤ → ℤ → Bool
a ≡? b = eq_z a b

-- a fact from a test, and the test from a fact
pub <?-true : (a b : ℤ) → (a <? b) ≡ true → a <ᶻ b
unfolding ◌<?◌
<?-true a b e = lt_z-true a b e

pub <?-false : (a b : ℤ) → (a <? b) ≡ false → b ≤ᶻ a
unfolding ◌<?◌
<?-false a b e = lt_z-false a b e

pub ≤?-true : (a b : ℤ) → (a ≤? b) ≡ true → a ≤ᶻ b
unfolding ◌≤?◌
≤?-true a b e = le_z-true a b e

pub ≤?-false : (a b : ℤ) → (a ≤? b) ≡ false → b <ᶻ a
unfolding ◌≤?◌
≤?-false a b e = le_z-false a b e

pub ≡?-true : (a b : ℤ) → (a ≡? b) ≡ true → a ≡ b
unfolding ◌≡?◌
≡?-true a b e = eq_z-true a b e

pub ≡?-false : (a b : ℤ) → (a ≡? b) ≡ false → a ≡ b → ⊥
unfolding ◌≡?◌
≡?-false a b e q = clash (sym e ∙ eq-eq_z q)
  where
    clash : false ≡ true → ⊥
    clash e = subst (λ (t : Bool). T (not t)) e tt

pub lt-<? : {a b : ℤ} → a <ᶻ b → (a <? b) ≡ true
unfolding ◌<?◌
lt-<? h = lt-lt_z h

pub le-<? : {a b : ℤ} → b ≤ᶻ a → (a <? b) ≡ false
unfolding ◌<?◌
le-<? h = le-lt_z h

pub le-≤? : {a b : ℤ} → a ≤ᶻ b → (a ≤? b) ≡ true
unfolding ◌≤?◌
le-≤? h = le-le_z h

pub lt-≤? : {a b : ℤ} → b <ᶻ a → (a ≤? b) ≡ false
unfolding ◌≤?◌
lt-≤? h = lt-le_z h

pub eq-≡? : {a b : ℤ} → a ≡ b → (a ≡? b) ≡ true
unfolding ◌≡?◌
eq-≡? {a} {b} e = eq-eq_z {a = a} {b = b} e

pub ne-≡? : {a b : ℤ} → (a ≡ b → ⊥) → (a ≡? b) ≡ false
unfolding ◌≡?◌
ne-≡? {a} {b} h = ne-eq_z {a = a} {b = b} h
