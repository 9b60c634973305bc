-- Sums that stay within 64 bits.
use Rattle.std.specs.Prelude.{cond, ℕ, ◌+◌, ◌-◌, ltb}

abbrev pub largest : ℕ
largest = 18446744073709551615

-- "the largest number where it is larger"
unfoldable pub added : ℕ → ℕ → ℕ
added a b = cond (ltb (largest - a) b) largest (a + b)
