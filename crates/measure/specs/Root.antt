-- The length of a stroke: the whole part of a root, the sides, tenths of a unit, and centimetres on the ice.
use Rattle.std.specs.Prelude.{Bool, cond, ℕ, zero, suc, ◌+◌, ◌-◌, ◌*◌, ◌/◌, ◌≤◌, ◌<◌, min, leb, ltb, ℤ, nat_abs, ◌-ℤ◌}

-- r is the whole part of the root of n
pub record Root (n r : ℕ) : Type 0 where
  pub low : r * r ≤ n
  pub high : n < (r + 1) * (r + 1)

-- the same as a number: one more where the next square is reached
unfoldable pub root_of : ℕ → ℕ
root_of zero = 0
root_of (suc n) = cond (leb ((root_of n + 1) * (root_of n + 1)) (suc n)) (root_of n + 1) (root_of n)

-- roots below this one are sought: a sheet is at most 65,535 wide and high, and 400 times the squares of both are below its square
abbrev pub most : ℕ
most = 2097152

unfoldable pub across : ℤ → ℤ → ℕ
across a b = min (nat_abs (a -ℤ b)) 65535

-- the squares of the sides of a stroke
unfoldable pub squares : ℤ → ℤ → ℤ → ℤ → ℕ
squares x0 y0 x1 y1 = across x1 x0 * across x1 x0 + across y1 y0 * across y1 y0

-- ten times the root of n, rounded to the nearest: half of twenty times the root, whose square is 400 * n
unfoldable pub tenths_of : ℕ → ℕ
tenths_of n = (root_of (400 * n) + 1) / 2

-- t is nearest: it is at most a half away from ten times the root of n. (A half itself is never met: the square of an odd number is odd.)
pub record Tenths (n t : ℕ) : Type 0 where
  pub low : (2 * t - 1) * (2 * t - 1) ≤ 400 * n
  pub high : 400 * n < (2 * t + 1) * (2 * t + 1)

-- "40 units are a millimetre" on paper, and at 1 to `scale` that is `scale` millimetres on the ice: 4000 tenths of a unit are `scale` centimetres.
-- Rounded to the nearest, a half up
unfoldable pub centimetres_of : ℕ → ℕ → ℕ
centimetres_of tenths scale = (tenths * scale + 2000) / 4000

-- from one coordinate to another in centimetres on the ice
unfoldable pub ice_of : ℤ → ℤ → ℕ → ℕ
ice_of a b scale = centimetres_of (across a b * 10) scale

-- "below nine tenths": from a to b beside from c to d
unfoldable pub narrow_of : ℤ → ℤ → ℤ → ℤ → Bool
narrow_of a b c d = ltb (across a b * 10) (across c d * 9)
