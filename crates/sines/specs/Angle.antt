-- Sine and cosine of every whole angle, in tenths of a degree, also below 0 and beyond a turn, scaled by 100,000. Definitions only: Quarters.antt has their rules.
use Rattle.std.specs.Prelude.{ℕ, zero, suc, ◌/◌, ◌%◌, ℤ, pos, neg_ℤ, nat_abs, ◌-ℤ◌, ◌*ℤ◌}
use Rattle.exact.specs.Divide.{floor_div}
use Rattle.sines.specs.Table.{sine_at, cosine_at}

-- i tenths past q quarters. "Beyond 90 degrees, sine(900 + i) is cosine i, cosine(900 + i) is minus sine i, and so on by quarters."
unfoldable mutual
  pub sine_in : ℕ → ℕ → ℤ
  sine_in zero i = pos (sine_at i)
  sine_in (suc q) i = cosine_in q i

  pub cosine_in : ℕ → ℕ → ℤ
  cosine_in zero i = pos (cosine_at i)
  cosine_in (suc q) i = neg_ℤ (sine_in q i)

-- the angle less its whole turns, from 0 to 3599
unfoldable pub rest_of : ℤ → ℕ
rest_of a = nat_abs (a -ℤ floor_div a (pos 3600) *ℤ pos 3600)

unfoldable pub sine_of : ℤ → ℤ
sine_of a = sine_in (rest_of a / 900) (rest_of a % 900)

unfoldable pub cosine_of : ℤ → ℤ
cosine_of a = cosine_in (rest_of a / 900) (rest_of a % 900)
