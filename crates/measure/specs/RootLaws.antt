-- A number has one root, and one nearest to ten times its root.
use Rattle.std.specs.Prelude.{Bool, true, false, cond, ◌≡◌, refl, ℕ, zero, suc, ◌+◌, ◌-◌, ◌*◌, ◌/◌, ◌%◌, ◌≤◌, ◌<◌, leb, ℤ}
use Rattle.std.proofs.Common.{ap, mul-le-mul, mul-le-mul_right, arith, leb-true, leb-false}
use Rattle.std.proofs.Math.Nat.{mul-lt-mul_of_pos_left}
use Rattle.measure.specs.Root.{Root, root_of, across, Tenths, tenths_of, centimetres_of}

-- the next square is larger
rises : (x : ℕ) → 0 < x → x * x < (x + 1) * (x + 1)
rises x h =
    let a : x * x < x * (x + 1) = mul-lt-mul_of_pos_left (omega arith) h in
    let b : x * (x + 1) ≤ (x + 1) * (x + 1) = mul-le-mul_right (x + 1) (omega arith) in
    omega arith

next : (n r : ℕ) → Root n r → (t : Bool) → leb ((r + 1) * (r + 1)) (suc n) ≡ t → Root (suc n) (cond t (r + 1) r)
next n r h true e = record { low = leb-true ((r + 1) * (r + 1)) (suc n) e; high = omega (arith, h.high, rises (r + 1) (omega arith)) }
next n r h false e = record { low = omega (arith, h.low); high = leb-false ((r + 1) * (r + 1)) (suc n) e }

pub root-of : (n : ℕ) → Root n (root_of n)
unfolding root_of
root-of zero = record { low = omega arith; high = omega arith }
root-of (suc n) = next n (root_of n) (root-of n) (leb ((root_of n + 1) * (root_of n + 1)) (suc n)) refl

-- a smaller number is no root where a larger one is
above : (n r q : ℕ) → Root n r → Root n q → r < q → ⊥
above n r q h k l = let s : (r + 1) * (r + 1) ≤ q * q = mul-le-mul (omega arith) (omega arith) in omega (arith, h.high, k.low)

pub one-root : (n : ℕ) {r q : ℕ} → Root n r → Root n q → r ≡ q
one-root n {r} {q} h k = omega (arith, above n r q h k, above n q r k h)

-- ---- tenths

pub tenths-nearest : (n : ℕ) → Tenths n (tenths_of n)
unfolding tenths_of
tenths-nearest n =
    let r = root_of (400 * n) in
    let t = (r + 1) / 2 in
    let h = root-of (400 * n) in
    let a : 2 * t - 1 ≤ r = omega arith in
    let b : r + 1 ≤ 2 * t + 1 = omega arith in
    record { low = omega (arith, h.low, mul-le-mul a a); high = omega (arith, h.high, mul-le-mul b b) }

further : (n t q : ℕ) → Tenths n t → Tenths n q → t < q → ⊥
further n t q h k l = let a : 2 * t + 1 ≤ 2 * q - 1 = omega arith in omega (arith, h.high, k.low, mul-le-mul a a)

pub one-tenths : (n : ℕ) {t q : ℕ} → Tenths n t → Tenths n q → t ≡ q
one-tenths n {t} {q} h k = omega (arith, further n t q h k, further n q t k h)

-- ---- sides

pub side-small : (a b : ℤ) → across a b ≤ 65535
unfolding across
side-small a b = omega arith

-- ---- centimetres: whole lots of 4000 tenths, and the rest

spread : (a b s : ℕ) → (4000 * a + b) * s ≡ 4000 * (a * s) + b * s
spread a b s = omega arith

pub by-lots : (t s : ℕ) → t / 4000 * s + (t % 4000 * s + 2000) / 4000 ≡ centimetres_of t s
unfolding centimetres_of
by-lots t s =
    let e : t ≡ 4000 * (t / 4000) + t % 4000 = omega arith in
    let f : t * s ≡ (4000 * (t / 4000) + t % 4000) * s = ap (λ (k : ℕ). k * s) e in
    omega (arith, f, spread (t / 4000) (t % 4000) s)
