-- Fractions reckoned with: never reduced, and compared multiplied out. Definitions only: what follows of them is in FractionLaws.antt of the crate turns.
use Rattle.std.specs.Prelude.{◌≡◌, ◌*◌, ℤ, pos, ◌+ℤ◌, ◌*ℤ◌}
use Rattle.std.proofs.Common.{mul-pos}
use Rattle.clip.specs.Line.{Frac}

-- a times f
abbrev pub times_f : ℤ → Frac → Frac
times_f a f = record { num = a *ℤ f.num; den = f.den; above = f.above }

-- f + g
abbrev pub sum_f : Frac → Frac → Frac
sum_f f g = record { num = pos g.den *ℤ f.num +ℤ pos f.den *ℤ g.num; den = f.den * g.den; above = mul-pos f.above g.above }

-- f and g are the same number
pub record Same (f g : Frac) : Type 0 where
  pub eq : pos g.den *ℤ f.num ≡ pos f.den *ℤ g.num
