-- Two texts beside each other, and the lines of a text.
use Rattle.std.specs.Prelude.{ℕ, suc, cond, List, [], ◌∷◌, ◌==◌}
use Rattle.textlines.specs.Text.{line_end}

-- how many bytes two texts have in common at their start
unfoldable pub common : List ℕ → List ℕ → ℕ
common [] b = 0
common (x ∷ a) [] = 0
common (x ∷ a) (y ∷ b) = cond (x == y) (suc (common a b)) 0

-- how many lines end in a text
unfoldable pub line_ends : List ℕ → ℕ
line_ends [] = 0
line_ends (b ∷ bs) = cond (b == line_end) (suc (line_ends bs)) (line_ends bs)
