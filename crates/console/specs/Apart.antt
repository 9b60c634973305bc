-- How far two numbers are apart, by their sizes.
use Rattle.std.specs.Prelude.{◌≡◌, ◌+◌, ◌-◌, ◌<◌, ◌^◌, ℤ, pos, negsuc, neg_ℤ, nat_abs, ◌-ℤ◌}
use Rattle.std.proofs.Common.{arith, SFits}
use Rattle.std.specs.Int.{w64}
use Rattle.exact.specs.Whole.{◌<ᶻ◌, ◌≤ᶻ◌, ord, add_parts, up_neg, dn-neg}
use Rattle.exact.specs.Fit.{abs}

pub below_both : (a b : ℤ) → a <ᶻ pos 0 → b <ᶻ pos 0 → nat_abs a - nat_abs b + (nat_abs b - nat_abs a) ≡ nat_abs (a -ℤ b)
below_both (pos m) b h k = absurd (omega (arith, ord))
below_both (negsuc m) (pos n) h k = absurd (omega (arith, ord))
below_both (negsuc m) (negsuc n) h k =
    omega (arith, add_parts (negsuc m) (neg_ℤ (negsuc n)), up_neg (negsuc n), dn-neg (negsuc n), abs (negsuc m -ℤ negsuc n))

pub above-both : (a b : ℤ) → pos 0 ≤ᶻ a → pos 0 ≤ᶻ b → nat_abs a - nat_abs b + (nat_abs b - nat_abs a) ≡ nat_abs (a -ℤ b)
above-both (negsuc m) b h k = absurd (omega (arith, ord))
above-both (pos m) (negsuc n) h k = absurd (omega (arith, ord))
above-both (pos m) (pos n) h k = omega (arith, add_parts (pos m) (neg_ℤ (pos n)), up_neg (pos n), dn-neg (pos n), abs (pos m -ℤ pos n))

pub below-above : (a b : ℤ) → a <ᶻ pos 0 → pos 0 ≤ᶻ b → nat_abs a + nat_abs b ≡ nat_abs (a -ℤ b)
below-above (pos m) b h k = absurd (omega (arith, ord))
below-above (negsuc m) (negsuc n) h k = absurd (omega (arith, ord))
below-above (negsuc m) (pos n) h k = omega (arith, add_parts (negsuc m) (neg_ℤ (pos n)), up_neg (pos n), dn-neg (pos n), abs (negsuc m -ℤ pos n))

pub above-below : (a b : ℤ) → pos 0 ≤ᶻ a → b <ᶻ pos 0 → nat_abs a + nat_abs b ≡ nat_abs (a -ℤ b)
above-below (negsuc m) b h k = absurd (omega (arith, ord))
above-below (pos m) (pos n) h k = absurd (omega (arith, ord))
above-below (pos m) (negsuc n) h k = omega (arith, add_parts (pos m) (neg_ℤ (negsuc n)), up_neg (negsuc n), dn-neg (negsuc n), abs (pos m -ℤ negsuc n))

-- a sum of two sizes of different sides fits
pub sizes-fit : (a b : ℤ) → SFits w64 a → SFits w64 b → a <ᶻ pos 0 → pos 0 ≤ᶻ b → nat_abs a + nat_abs b < 2 ^ 64
sizes-fit (pos m) b f g h k = absurd (omega (arith, ord))
sizes-fit (negsuc m) (negsuc n) f g h k = absurd (omega (arith, ord))
sizes-fit (negsuc m) (pos n) f g h k = omega (arith, f.sfits, g.sfits)
