-- "Lines painted twice (same two ends, either way round): counted among the last 4096 strokes." So it is said;
-- the crate's list of numbers counts these and no others (`told-twice`, `told-first`, SaidLaws).
use Rattle.std.specs.Prelude.{Bool, true, false, cond, List, [], ◌∷◌, ℕ, zero, suc, ◌+◌}
use Rattle.rows.specs.declared.Row.{Row}
use Rattle.repeats.specs.Repeats.{most, other_way, same}

-- one of the first n lines of `past`, which is newest first, has the two ends of l
unfoldable pub within : ℕ → List Row → Row → Bool
within zero past l = false
within (suc n) [] l = false
within (suc n) (m ∷ past) l = cond (same l m) true (within n past l)

unfoldable pub recent : List Row → Row → Bool
recent past l = within most past l

-- so many of the strokes are painted twice, after the lines of `past`; a dot, which ends where it begins, is no line
unfoldable pub twice_in : List Row → List Row → ℕ
twice_in past [] = 0
twice_in past (l ∷ ls) = cond (other_way l l) (twice_in past ls) (cond (recent past l) 1 0 + twice_in (l ∷ past) ls)

-- the first of them, or `none`
unfoldable pub first_in : Row → List Row → List Row → Row
first_in none past [] = none
first_in none past (l ∷ ls) = cond (other_way l l) (first_in none past ls) (cond (recent past l) l (first_in none (l ∷ past) ls))
