-- Parts of a text.
use Rattle.std.specs.Prelude.{ℕ, suc, cond, List, [], ◌∷◌, ◌==◌}

-- how many bytes stand before the first such byte, or all of them
unfoldable pub index_of : ℕ → List ℕ → ℕ
index_of byte [] = 0
index_of byte (b ∷ bs) = cond (b == byte) 0 (suc (index_of byte bs))
