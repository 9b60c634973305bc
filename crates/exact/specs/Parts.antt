-- A whole number's expression as a difference of two naturals, built as it is written: `Is z p n` says that z is p − n, and what is to be proved is then
-- a fact over ℕ, which `omega` proves, products included. Whole.antt does the same by rewriting; this way names the two naturals.
use Rattle.std.specs.Prelude.{◌≡◌, ℕ, ◌+◌, ◌*◌, ◌≤◌, ℤ, pos, neg_ℤ, ◌+ℤ◌, ◌-ℤ◌, ◌*ℤ◌, ◌≤ℤ◌}
use Rattle.std.proofs.Common.{arith}
use Rattle.exact.specs.Whole.{up, dn, add_parts, up_neg, dn-neg, up-mul, dn-mul, mul-cross, ≤-parts, parts-≤}

pub record Is (z : ℤ) (p n : ℕ) : Type 0 where
  pub eq : up z + n ≡ dn z + p

-- any number, and a natural one
pub v : (z : ℤ) → Is z (up z) (dn z)
v z = record { eq = omega arith }

pub # : (n : ℕ) → Is (pos n) n 0
# n = record { eq = omega arith }

infixl 6 ◌⊕◌
pub ◌⊕◌ : {a b : ℤ} {p n q m : ℕ} → Is a p n → Is b q m → Is (a +ℤ b) (p + q) (n + m)
◌⊕◌ {a} {b} h k = record { eq = omega (arith, add_parts a b) }

pub neg : {a : ℤ} {p n : ℕ} → Is a p n → Is (neg_ℤ a) n p
neg {a} h = record { eq = omega (arith, up_neg a, dn-neg a) }

infixl 6 ◌⊖◌
pub ◌⊖◌ : {a b : ℤ} {p n q m : ℕ} → Is a p n → Is b q m → Is (a -ℤ b) (p + m) (n + q)
h ⊖ k = h ⊕ neg k

infixl 7 ◌⊗◌
pub ◌⊗◌ : {a b : ℤ} {p n q m : ℕ} → Is a p n → Is b q m → Is (a *ℤ b) (p * q + n * m) (p * m + n * q)
◌⊗◌ {a} {b} {p} {n} {q} {m} h k = record { eq = omega (arith, up-mul a b, dn-mul a b, mul-cross (up a) (dn a) (up b) (dn b) p n q m h.eq k.eq) }

-- a natural times a whole number: half the monomials
infixl 7 ◌⊛◌
pub ◌⊛◌ : (u : ℕ) {a : ℤ} {p n : ℕ} → Is a p n → Is (pos u *ℤ a) (u * p) (u * n)
◌⊛◌ u {a} {p} {n} h = record { eq = omega (arith, (# u ⊗ h).eq) }

-- from ℤ's order to ℕ's, and back
pub le→ : {a b : ℤ} {p n q m : ℕ} → Is a p n → Is b q m → a ≤ℤ b → p + m ≤ q + n
le→ {a} {b} h k l = omega (arith, ≤-parts l)

pub →le : {a b : ℤ} {p n q m : ℕ} → Is a p n → Is b q m → p + m ≤ q + n → a ≤ℤ b
→le {a} {b} h k l = parts-≤ (omega arith)
