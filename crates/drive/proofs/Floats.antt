-- Why no product loses anything: a whole number of 16 bits and a pitch are floats exactly, and so is their product, which has 18 bits and three
-- binary digits after the point. Assumes nothing.
use Rattle.std.specs.Prelude.{◌≡◌, refl, Bool, true, false, ℕ, zero, suc, ◌*◌, ◌^◌, ◌≤◌, ◌<◌, T, ℤ, pos, negsuc, neg_ℤ, nat_abs, ◌*ℤ◌, Float}
use Rattle.std.proofs.Common.{sym, ap, ap₂, ◌∙◌, mul-one, mul_assoc, mul-pos, lt_of_lt_of_le, arith, lit<, lit≤, le→leb, lt→ltb, pow_mono, shl_lt}
use Rattle.std.proofs.Math.Nat.{mul-mul-mul_comm}
use Rattle.std.specs.Float.{nan, inf, fin, binary32}
use Rattle.std.specs.Float.Ieee.{up, down, unlike, round, mul, of_int, in_float}
use Rattle.std.specs.Float.Ieee.Fits.{down_pos}
use Rattle.std.specs.Float.Ieee.Exact.{HasValue, round_exact}
use Rattle.std.specs.Float.Ieee.Scale.{round_same}
use Rattle.std.specs.Float.Ieee.Back.{round_whole}
use Rattle.exact.specs.Fit.{Bd, abs-mul, ◌⊠◌}
use Rattle.drive.specs.Drive.{pitch_of, minus, Exactly, f32_of}

-- k / 8 is k * 2 ^ 146 of the format's smallest values, 2 ^ -149, and k has no more digits than the format keeps
pub f32-exact : (k : ℤ) → nat_abs k < 2 ^ 24 → Exactly (f32_of k) k
unfolding f32_of
f32-exact k few = round_exact binary32 (minus k) (nat_abs k) 8 (nat_abs k) 146 (lit< tt) few (lt_of_lt_of_le (shl_lt 24 146 few) (pow_mono {i = 170} {j = 277} (lit≤ tt))) (sym (mul_assoc (nat_abs k) (2 ^ 146) 8))

-- what the cast of a whole number asks, and what it gives
pub in-float : {z : ℤ} → Bd z 32768 → T (in_float binary32 z)
unfolding in_float
in-float {z = pos n} h = le→leb n (2 ^ 24) (omega (arith, h.bd))
in-float {z = negsuc n} h = lt→ltb n (2 ^ 24) (omega (arith, h.bd))

cast-exact : (z : ℤ) → nat_abs z ≤ 2 ^ 24 → HasValue (of_int binary32 z) (minus z) (nat_abs z) 1
unfolding of_int
cast-exact (pos n) h = round_whole binary32 false n h
cast-exact (negsuc n) h = round_whole binary32 true (suc n) h

-- the product of n and k / 8 is n * k / 8, rounded once
unlike-plus : (s : Bool) → unlike s false ≡ s
unlike-plus true = refl
unlike-plus false = refl

cross : (a n d k p q : ℕ) → a * 1 ≡ n * d → p * 8 ≡ k * q → a * p * 8 ≡ n * k * (d * q)
cross a n d k p q h e = mul_assoc a p 8 ∙ ap (λ (y : ℕ). a * y) e ∙ ap (λ (y : ℕ). y * (k * q)) (sym (mul-one a) ∙ h) ∙ mul-mul-mul_comm n d k q

product : (x y : Float) (s : Bool) (n k : ℕ) → HasValue x s n 1 → HasValue y false k 8 → mul binary32 x y ≡ round binary32 s (n * k) 8
unfolding mul
product nan y s n k h g = absurd h
product (inf t) y s n k h g = absurd h
product (fin t m e) nan s n k h g = absurd g
product (fin t m e) (inf u) s n k h g = absurd g
product (fin t m e) (fin u l d) s n k h g =
    ap (λ (b : Bool). round binary32 b (m * up e * (l * up d)) (down e * down d)) (ap₂ unlike h.0 g.0 ∙ unlike-plus s)
    ∙ round_same binary32 s (m * up e * (l * up d)) (down e * down d) (n * k) 8 (mul-pos (down_pos e) (down_pos d)) (lit< tt) (cross (m * up e) n (down e) k (l * up d) (down d) h.1 g.1)

-- a product by a pitch has the sign of the whole number
minus-neg : (n : ℕ) → 0 < n → minus (neg_ℤ (pos n)) ≡ true
minus-neg zero h = absurd (omega arith)
minus-neg (suc n) h = refl

minus-times : (z : ℤ) (k : ℕ) → minus (z *ℤ pos (suc k)) ≡ minus z
minus-times (pos n) k = refl
minus-times (negsuc n) k = minus-neg (suc n * suc k) (omega arith)

times : (z : ℤ) (k : ℕ) → round binary32 (minus z) (nat_abs z * suc k) 8 ≡ f32_of (z *ℤ pos (suc k))
unfolding f32_of
times z k = ap₂ (λ (b : Bool) (n : ℕ). round binary32 b n 8) (sym (minus-times z k)) (sym (abs-mul z (pos (suc k))))

times-f32 : (z : ℤ) (k : ℕ) → Bd z 32768 → suc k < 2 ^ 24 → mul binary32 (of_int binary32 z) (f32_of (pos (suc k))) ≡ f32_of (z *ℤ pos (suc k))
times-f32 z k h few =
    product (of_int binary32 z) (f32_of (pos (suc k))) (minus z) (nat_abs z) (suc k) (cast-exact z (omega (arith, h.bd))) (f32-exact (pos (suc k)) few) ∙ times z k

-- the cast and the product that the code makes
pub times-pitch : (z : ℤ) (c : ℕ) → Bd z 32768 → mul binary32 (of_int binary32 z) (f32_of (pos (pitch_of c))) ≡ f32_of (z *ℤ pos (pitch_of c))
unfolding pitch_of
times-pitch z zero h = times-f32 z 0 h (lit< tt)
times-pitch z (suc zero) h = times-f32 z 1 h (lit< tt)
times-pitch z (suc (suc zero)) h = times-f32 z 3 h (lit< tt)
times-pitch z (suc (suc (suc c))) h = times-f32 z 7 h (lit< tt)

-- units of 16 bits times a pitch are well within what f32 holds exactly
pitch-most : (c : ℕ) → pitch_of c ≤ 8
unfolding pitch_of
pitch-most zero = omega arith
pitch-most (suc zero) = omega arith
pitch-most (suc (suc zero)) = omega arith
pitch-most (suc (suc (suc c))) = omega arith

pub units-exact : (z : ℤ) (c : ℕ) → Bd z 32768 → Exactly (f32_of (z *ℤ pos (pitch_of c))) (z *ℤ pos (pitch_of c))
units-exact z c h =
    let small : nat_abs (z *ℤ pos (pitch_of c)) ≤ 32768 * 8 = (h ⊠ record { bd = pitch-most c }).bd in
    f32-exact (z *ℤ pos (pitch_of c)) (omega arith)
