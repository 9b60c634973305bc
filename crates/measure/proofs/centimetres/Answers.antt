-- The lots and the rest are the whole.
use Prim.Native.Nat.{ℕ, ◌*◌, ◌/◌, ◌%◌, ◌≤◌, ◌<◌, ◌^◌}
use native.Mathlib.Nat.{mul-le-mul}
use native.Mathlib.Omega.{arith}
use Rattle.measure.specs.RootLaws.{by-lots}
use Rattle.measure.proofs.centimetres.Goals as goal

-- what the lots and the rest are at most
lots : (t s : ℕ) → t < 2 ^ 64 → s < 256 → t / 4000 * s ≤ 4611686018427388 * 256
lots t s h k = let a : t / 4000 ≤ 4611686018427388 = omega arith in let b : s ≤ 256 = omega arith in mul-le-mul a b

rest : (t s : ℕ) → s < 256 → t % 4000 * s ≤ 4000 * 256
rest t s k = let a : t % 4000 ≤ 4000 = omega arith in let b : s ≤ 256 = omega arith in mul-le-mul a b

pub overflow_mul-result : goal.overflow_mul-result
overflow_mul-result c = record { fits = omega (arith, lots c.args.tenths c.args.scale c.ranges.tenths.fits c.ranges.scale.fits) }

pub overflow_mul-result-2 : goal.overflow_mul-result-2
overflow_mul-result-2 c = record { fits = omega (arith, rest c.args.tenths c.args.scale c.ranges.scale.fits) }

pub overflow_add-result : goal.overflow_add-result
overflow_add-result c = record { fits = omega (arith, rest c.args.tenths c.args.scale c.ranges.scale.fits) }

pub overflow_add-result-2 : goal.overflow_add-result-2
overflow_add-result-2 c =
    record { fits = omega (arith, lots c.args.tenths c.args.scale c.ranges.tenths.fits c.ranges.scale.fits, rest c.args.tenths c.args.scale c.ranges.scale.fits) }

pub returns : goal.returns
returns c = by-lots c.args.tenths c.args.scale
