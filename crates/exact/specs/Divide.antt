-- Division of whole numbers: rounded down, and to the nearest. Nearest.antt has their laws.
use Rattle.std.specs.Prelude.{suc, ℤ, pos, negsuc, neg_ℤ, nat_abs, ◌+ℤ◌, ◌*ℤ◌}
use Rattle.std.specs.Int.Signed.{shr_z}

-- a / b rounded down, for b above 0
abbrev pub floor_div : ℤ → ℤ → ℤ
floor_div a b = shr_z a (nat_abs b)

-- "Rounding is to the nearest whole; a half goes to the larger number, also below zero": n / d + 1/2, rounded down.
-- A divisor below 0 hands its sign to the numerator
unfoldable pub nearest_div : ℤ → ℤ → ℤ
nearest_div n (pos d) = floor_div (pos 2 *ℤ n +ℤ pos d) (pos 2 *ℤ pos d)
nearest_div n (negsuc d) = floor_div (pos 2 *ℤ neg_ℤ n +ℤ pos (suc d)) (pos 2 *ℤ pos (suc d))
