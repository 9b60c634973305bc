-- That a signed result fits its width. `Bd z n` says that z is at most n in size, and is kept by each operation, also by the way through a local's bits (`rd`).
-- Assumes nothing.
use Rattle.std.specs.Prelude.{◌≡◌, refl, Bool, true, false, not, ℕ, zero, suc, ◌+◌, ◌*◌, ◌-◌, ◌/◌, ◌^◌, max, ◌≤◌, ◌<◌, T, eqb, ltb, leb, ℤ, pos, negsuc, neg_ℤ, ◌+ℤ◌, ◌-ℤ◌, ◌*ℤ◌, nat_abs, ◌≤ℤ◌}
use Rattle.std.proofs.Common.{sym, ap, ap₂, ◌∙◌, subst, mul-le-mul, div-le_self, pow_pos, arith, eqb-true, T_not, ltb→lt, nltb→le, leb→le}
use mir.ValLaws.{pow-bits, to_z-of_z, to_z_pos}
use Rattle.std.proofs.lemmas.Bool.{eqb-false}
use Rattle.std.proofs.Math.IntN.{+ℤ_idl}
use Rattle.std.specs.Int.Signed.{mag, nat_abs-le, lt_z, le_z, quot_z, non_neg, yes_non_neg}
use Rattle.std.specs.Int.{Width, w64}
use mir.Val.{Fits, SFits, to_z, of_z, sel, bits, hbits}
use Rattle.exact.specs.Whole.{up, dn, add_parts, up_neg, dn-neg, up-mul, dn-mul, ord, eq_z, eq-eq_z, ne-eq_z, ◌<?◌, ◌≤?◌, ◌≡?◌}

pub abs-parts : (z : ℤ) → nat_abs z ≡ up z + dn z
abs-parts (pos n) = omega arith
abs-parts (negsuc n) = omega arith

-- the size of z, which is one of its parts, and the other is 0
pub abs : (z : ℤ) → (nat_abs z ≡ up z + dn z) × (nat_abs z ≡ max (up z) (dn z))
abs (pos n) = omega arith
abs (negsuc n) = omega arith

pub abs-add : (a b : ℤ) → nat_abs (a +ℤ b) ≤ nat_abs a + nat_abs b
abs-add a b = omega (arith, add_parts a b, abs-parts a, abs-parts b, abs (a +ℤ b))

pub abs_neg : (a : ℤ) → nat_abs (neg_ℤ a) ≡ nat_abs a
abs_neg a = omega (arith, up_neg a, dn-neg a, abs-parts a, abs-parts (neg_ℤ a))

pub abs-sub : (a b : ℤ) → nat_abs (a -ℤ b) ≤ nat_abs a + nat_abs b
abs-sub a b = omega (arith, abs-add a (neg_ℤ b), abs_neg b)

pub abs-mul : (a b : ℤ) → nat_abs (a *ℤ b) ≡ nat_abs a * nat_abs b
abs-mul a b = omega (arith, up-mul a b, dn-mul a b, abs-parts (a *ℤ b), ap (λ (k : ℕ). k * nat_abs b) (abs-parts a), ap (λ (k : ℕ). up a * k) (abs-parts b), ap (λ (k : ℕ). dn a * k) (abs-parts b))

-- z is at most n in size
pub record Bd (z : ℤ) (n : ℕ) : Type 0 where
  pub bd : nat_abs z ≤ n

infixl 6 ◌⊞◌ ◌⊟◌
infixl 7 ◌⊠◌
pub ◌⊞◌ : {a b : ℤ} {m n : ℕ} → Bd a m → Bd b n → Bd (a +ℤ b) (m + n)
◌⊞◌ {a} {b} h k = record { bd = omega (arith, abs-add a b) }

pub ◌⊟◌ : {a b : ℤ} {m n : ℕ} → Bd a m → Bd b n → Bd (a -ℤ b) (m + n)
◌⊟◌ {a} {b} h k = record { bd = omega (arith, abs-sub a b) }

pub ◌⊠◌ : {a b : ℤ} {m n : ℕ} → Bd a m → Bd b n → Bd (a *ℤ b) (m * n)
◌⊠◌ {a} {b} h k = record { bd = omega (arith, abs-mul a b, mul-le-mul h.bd k.bd) }

pub bd-neg : {a : ℤ} {m : ℕ} → Bd a m → Bd (neg_ℤ a) m
bd-neg {a} h = record { bd = omega (arith, abs_neg a) }

-- a literal
pub lit : (z : ℤ) → Bd z (nat_abs z)
lit z = record { bd = omega arith }

pub bd-le : {a : ℤ} {m n : ℕ} → Bd a m → T (leb m n) → Bd a n
bd-le {a} {m} {n} h t = record { bd = omega (arith, leb→le m n t) }

-- between two literals
pub bd-range : {a lo hi : ℤ} → lo ≤ℤ a → a ≤ℤ hi → Bd a (nat_abs lo + nat_abs hi)
bd-range {a} {lo} {hi} h k = record { bd = omega (arith, ord, abs a, abs-parts lo, abs-parts hi) }

-- the way through a local's bits does not make a number larger
module _ (B H : ℕ) (e : B ≡ H * 2) (p : 0 < H) where
  read_pos : (c : Bool) (n : ℕ) → (T c → n < H) → (T (not c) → H ≤ n) → nat_abs (sel c (pos n) (negsuc (B - suc n))) ≤ n
  read_pos true n f g = omega arith
  read_pos false n f g = let h = g tt in omega arith

  read-neg : (c : Bool) (n : ℕ) → (T c → B - suc n < H) → (T (not c) → H ≤ B - suc n) → nat_abs (sel c (pos (B - suc n)) (negsuc (B - suc (B - suc n)))) ≤ suc n
  read-neg true n f g = let h = f tt in omega arith
  read-neg false n f g = let h = g tt in omega arith

pub abs-rd : (w : Width) (z : ℤ) → nat_abs (to_z w (of_z w z)) ≤ nat_abs z
abs-rd w (pos n) = read_pos (2 ^ bits w) (2 ^ hbits w) (pow-bits w) (pow_pos (hbits w)) (ltb n (2 ^ hbits w)) n (ltb→lt n (2 ^ hbits w)) (nltb→le n (2 ^ hbits w))
abs-rd w (negsuc n) =
    let k = 2 ^ bits w - suc n in
    read-neg (2 ^ bits w) (2 ^ hbits w) (pow-bits w) (pow_pos (hbits w)) (ltb k (2 ^ hbits w)) n (ltb→lt k (2 ^ hbits w)) (nltb→le k (2 ^ hbits w))

pub rd : (w : Width) {z : ℤ} {n : ℕ} → Bd z n → Bd (to_z w (of_z w z)) n
rd w {z} h = record { bd = omega (arith, abs-rd w z) }

-- what a need of signed arithmetic asks
mag-le : (z : ℤ) → mag z ≤ nat_abs z
mag-le (pos n) = omega arith
mag-le (negsuc n) = omega arith

pub sfits : {w : Width} {z : ℤ} → nat_abs z < 2 ^ hbits w → SFits w z
sfits {w} {z} h = record { sfits = omega (arith, mag-le z) }

pub fits : {w : Width} {z : ℤ} {n : ℕ} → Bd z n → T (ltb n (2 ^ hbits w)) → SFits w z
fits {w} {z} {n} h t = sfits (omega (arith, h.bd, ltb→lt n (2 ^ hbits w) t))

-- ---- a machine's number: what is read back from a local's bits, z', is the number z, whose size is at most n
pub record Num (z' z : ℤ) (n : ℕ) : Type 0 where
  pub is : z' ≡ z
  pub size : Bd z n

-- a signed parameter, from `c.fits.x`
pub arg : (w : Width) {z : ℤ} → SFits w z → Num (to_z w (of_z w z)) z (2 ^ hbits w)
arg w {z} f = record { is = to_z-of_z w z f; size = record { bd = nat_abs-le z f.sfits } }

-- a literal
pub num : (z : ℤ) → Num z z (nat_abs z)
num z = record { is = refl; size = lit z }

-- a result that is stored or returned
pub put : (w : Width) {z' z : ℤ} {n : ℕ} → Num z' z n → T (ltb n (2 ^ hbits w)) → Num (to_z w (of_z w z')) z n
put w {z'} {z} {n} h t = record { is = ap (λ (x : ℤ). to_z w (of_z w x)) h.is ∙ to_z-of_z w z (fits h.size t); size = h.size }

infixl 6 ◌⊕◌ ◌⊖◌
infixl 7 ◌⊗◌
pub ◌⊕◌ : {a' a b' b : ℤ} {m n : ℕ} → Num a' a m → Num b' b n → Num (a' +ℤ b') (a +ℤ b) (m + n)
h ⊕ k = record { is = λ i. h.is i +ℤ k.is i; size = h.size ⊞ k.size }

pub ◌⊖◌ : {a' a b' b : ℤ} {m n : ℕ} → Num a' a m → Num b' b n → Num (a' -ℤ b') (a -ℤ b) (m + n)
h ⊖ k = record { is = λ i. h.is i -ℤ k.is i; size = h.size ⊟ k.size }

pub ◌⊗◌ : {a' a b' b : ℤ} {m n : ℕ} → Num a' a m → Num b' b n → Num (a' *ℤ b') (a *ℤ b) (m * n)
h ⊗ k = record { is = λ i. h.is i *ℤ k.is i; size = h.size ⊠ k.size }

-- with a better bound, or at an equal number
pub within : {z' z : ℤ} {m n : ℕ} → Num z' z m → Bd z n → Num z' z n
within h b = record { is = h.is; size = b }

-- the need of an operation
pub fit : (w : Width) {z' z : ℤ} {n : ℕ} → Num z' z n → T (ltb n (2 ^ hbits w)) → SFits w z'
fit w {z'} {z} {n} h t = subst (SFits w) (sym h.is) (fits h.size t)

-- a test of the machine's numbers is one of the numbers
pub lt-is : {a' a b' b : ℤ} {m n : ℕ} {t : Bool} → Num a' a m → Num b' b n → lt_z a' b' ≡ t → lt_z a b ≡ t
lt-is h k e = ap₂ lt_z (sym h.is) (sym k.is) ∙ e

pub le_is : {a' a b' b : ℤ} {m n : ℕ} {t : Bool} → Num a' a m → Num b' b n → le_z a' b' ≡ t → le_z a b ≡ t
le_is h k e = ap₂ le_z (sym h.is) (sym k.is) ∙ e

-- a parameter or a field that has a bound: its `c.fits` is not asked
pub val : (w : Width) {z : ℤ} {n : ℕ} → Bd z n → T (ltb n (2 ^ hbits w)) → Num (to_z w (of_z w z)) z n
val w {z} h t = record { is = to_z-of_z w z (fits h t); size = h }

-- `==` of two signed numbers is a fact of their bits
pub eq_yes : {w : Width} {a b : ℤ} → SFits w a → SFits w b → of_z w a ≡ of_z w b → eq_z a b ≡ true
eq_yes {w} {a} {b} f g e = eq-eq_z (sym (to_z-of_z w a f) ∙ ap (to_z w) e ∙ to_z-of_z w b g)

pub eq_no : {w : Width} {a b : ℤ} → SFits w a → SFits w b → (of_z w a ≡ of_z w b → ⊥) → eq_z a b ≡ false
eq_no {w} {a} {b} f g h = ne-eq_z {a = a} {b = b} (λ e. h (ap (of_z w) e))

pub eq_is : {a' a b' b : ℤ} {m n : ℕ} {t : Bool} → Num a' a m → Num b' b n → eq_z a' b' ≡ t → eq_z a b ≡ t
eq_is h k e = ap₂ eq_z (sym h.is) (sym k.is) ∙ e

-- `-x`, which is `0 - x`
pub neg : {z' z : ℤ} {n : ℕ} → Num z' z n → Num (pos 0 -ℤ z') (neg_ℤ z) n
neg {z} h = record { is = +ℤ_idl _ ∙ ap neg_ℤ h.is; size = bd-neg h.size }

-- the same number, said in another way
pub same : {z' z y : ℤ} {n : ℕ} → Num z' z n → z ≡ y → Num z' y n
same {n = n} h e = record { is = h.is ∙ e; size = subst (λ (x : ℤ). Bd x n) e h.size }

-- a number of which only `SFits` is known, as one at the very end of its width's range
pub fit-by : (w : Width) {z' z : ℤ} {n : ℕ} → Num z' z n → SFits w z → SFits w z'
fit-by w h f = subst (SFits w) (sym h.is) f

pub put-by : (w : Width) {z' z : ℤ} {n : ℕ} → Num z' z n → SFits w z → Num (to_z w (of_z w z')) z n
put-by w {z'} {z} h f = record { is = ap (λ (x : ℤ). to_z w (of_z w x)) h.is ∙ to_z-of_z w z f; size = h.size }

-- ---- the quotient, toward zero
abs-quot : (a b : ℤ) → nat_abs (quot_z a b) ≤ nat_abs a
abs-quot (pos a) (pos b) = div-le_self a b
abs-quot (pos a) (negsuc b) = omega (arith, abs_neg (pos (a / suc b)), div-le_self a (suc b))
abs-quot (negsuc a) (pos b) = omega (arith, abs_neg (pos (suc a / b)), div-le_self (suc a) b)
abs-quot (negsuc a) (negsuc b) = div-le_self (suc a) (suc b)

infixl 7 ◌⊘◌
pub ◌⊘◌ : {a' a b' b : ℤ} {m n : ℕ} → Num a' a m → Num b' b n → Num (quot_z a' b') (quot_z a b) m
◌⊘◌ {a = a} {b = b} h k = record { is = λ i. quot_z (h.is i) (k.is i); size = record { bd = omega (arith, abs-quot a b, h.size.bd) } }

-- a divisor that is not 0 has bits that are not 0
pub bits_pos : {w : Width} {z : ℤ} → SFits w z → (z ≡ pos 0 → ⊥) → 0 < of_z w z
bits_pos {w} {z = pos zero} f h = absurd (h refl)
bits_pos {w} {z = pos (suc n)} f h = omega arith
bits_pos {w} {z = negsuc n} f h = omega (arith, f.sfits, pow-bits w, pow_pos (hbits w))

-- what a call returned, from `c.callee.ok` and `c.callee.ensures`
pub got : (w : Width) {z : ℤ} → mag z < 2 ^ hbits w → to_z w (of_z w z) ≡ z
got w {z} h = to_z-of_z w z (record { sfits = h })

-- ---- at literals: `search (needs, lits)` shows a caller's bounds
pub bd-lit : {z : ℤ} {n : ℕ} → T (leb (nat_abs z) n) → Bd z n
bd-lit {z} {n} t = record { bd = leb→le (nat_abs z) n t }

pub ne-lit : {a b : ℤ} → T (not (eq_z a b)) → a ≡ b → ⊥
ne-lit {a} {b} t e = T_not (eq_z a b) t (subst T (sym (eq-eq_z e)) tt)

pub ruleset lits = (bd-lit, ne-lit)

-- ---- other forms: `==` as a bool, `>>`, casts to and from an unsigned type
bool_iff : (s t : Bool) → (s ≡ true → t ≡ true) → (s ≡ false → t ≡ false) → s ≡ t
bool_iff true t f g = sym (f refl)
bool_iff false t f g = sym (g refl)

pub eq-bits : {w : Width} {a b : ℤ} → SFits w a → SFits w b → eqb (of_z w a) (of_z w b) ≡ eq_z a b
eq-bits {w} {a} {b} f g =
    bool_iff (eqb (of_z w a) (of_z w b)) (eq_z a b) (λ e. eq_yes f g (eqb-true (of_z w a) (of_z w b) e))
    (λ e. eq_no f g (eqb-false (of_z w a) (of_z w b) e))

-- `x as usize`, of a number that is not negative: what the cast asks, and what it gives
pub to-nat : (w w' : Width) {z' z : ℤ} {n : ℕ} → Num z' z n → pos 0 ≤ℤ z → T (ltb n (2 ^ bits w')) → T (non_neg z') × Fits w' (nat_abs z')
to-nat w w' {z'} {z} {n} h p t = subst (λ (x : ℤ). T (non_neg x) × Fits w' (nat_abs x)) (sym h.is) (yes_non_neg p, record { fits = omega (arith, h.size.bd, ltb→lt n (2 ^ bits w') t) })

-- `n as i64`, of a number that fits
pub of-nat : (w : Width) {n : ℕ} → n < 2 ^ hbits w → to_z w n ≡ pos n
of-nat w {n} h = to_z_pos w n h

-- ---- where a bound is no numeral, as in a loop's invariant: the same with an order that omega proves
pub at_most : {z' z : ℤ} {m n : ℕ} → Num z' z m → m ≤ n → Num z' z n
at_most h l = record { is = h.is; size = record { bd = omega (arith, h.size.bd) } }

-- ---- for a callee's `requires`: a bound on the machine's number; and a bound from two others
pub sized : {z' z : ℤ} {m n : ℕ} → Num z' z m → T (leb m n) → Bd z' n
sized {n = n} h t = subst (λ (x : ℤ). Bd x n) (sym h.is) (bd-le h.size t)

-- what the machine reads back of an i64: to state a `Num` of an expression of the code
abbrev pub m64 : ℤ → ℤ
m64 z = to_z w64 (of_z w64 z)

-- ---- for `search`: with `signed64` in its list, and a `Bd` of each value that the code makes in reach, `search (needs, signed64)` closes the needs `SFits`, and each `returns` whose definition goes by the shut tests `<?`, `≤?`, `≡?` of parameters, fields and literals

pub fits64 : (z : ℤ) {n : ℕ} → Bd z n → T (ltb n (2 ^ hbits w64)) → SFits w64 z
fits64 z h t = fits h t

pub lt64-t : (a b : ℤ) → SFits w64 a → SFits w64 b → lt_z (to_z w64 (of_z w64 a)) (to_z w64 (of_z w64 b)) ≡ true → (a <? b) ≡ true
unfolding ◌<?◌
lt64-t a b f g e = lt-is (arg w64 f) (arg w64 g) e

pub lt64-f : (a b : ℤ) → SFits w64 a → SFits w64 b → lt_z (to_z w64 (of_z w64 a)) (to_z w64 (of_z w64 b)) ≡ false → (a <? b) ≡ false
unfolding ◌<?◌
lt64-f a b f g e = lt-is (arg w64 f) (arg w64 g) e

pub le64-t : (a b : ℤ) → SFits w64 a → SFits w64 b → le_z (to_z w64 (of_z w64 a)) (to_z w64 (of_z w64 b)) ≡ true → (a ≤? b) ≡ true
unfolding ◌≤?◌
le64-t a b f g e = le_is (arg w64 f) (arg w64 g) e

pub le64-f : (a b : ℤ) → SFits w64 a → SFits w64 b → le_z (to_z w64 (of_z w64 a)) (to_z w64 (of_z w64 b)) ≡ false → (a ≤? b) ≡ false
unfolding ◌≤?◌
le64-f a b f g e = le_is (arg w64 f) (arg w64 g) e

pub eq64-t : (a b : ℤ) → SFits w64 a → SFits w64 b → of_z w64 a ≡ of_z w64 b → (a ≡? b) ≡ true
unfolding ◌≡?◌
eq64-t a b f g e = eq_yes f g e

pub eq64-f : (a b : ℤ) → SFits w64 a → SFits w64 b → (of_z w64 a ≡ of_z w64 b → ⊥) → (a ≡? b) ≡ false
unfolding ◌≡?◌
eq64-f a b f g e = eq_no f g e

pub ruleset signed64 = (fits64, lt64-t, lt64-f, le64-t, le64-f, eq64-t, eq64-f)

-- a test of computed values, for a definition that goes by the shut tests
pub lt?-is : {a' a b' b : ℤ} {m n : ℕ} {t : Bool} → Num a' a m → Num b' b n → lt_z a' b' ≡ t → (a <? b) ≡ t
unfolding ◌<?◌
lt?-is h k e = lt-is h k e

pub le?-is : {a' a b' b : ℤ} {m n : ℕ} {t : Bool} → Num a' a m → Num b' b n → le_z a' b' ≡ t → (a ≤? b) ≡ t
unfolding ◌≤?◌
le?-is h k e = le_is h k e

pub eq?-is : {a' a b' b : ℤ} {m n : ℕ} {t : Bool} → Num a' a m → Num b' b n → eq_z a' b' ≡ t → (a ≡? b) ≡ t
unfolding ◌≡?◌
eq?-is h k e = eq_is h k e

-- what a call returned, read back from its local: `ret w64 c.f.ok c.f.ensures SIZE`, and with a path where the callee was handed machine numbers
pub ret : (w : Width) {z y : ℤ} {n : ℕ} → mag z < 2 ^ hbits w → z ≡ y → Bd y n → Num (to_z w (of_z w z)) y n
ret w {z} {y} h e b = record { is = got w h ∙ e; size = b }
