-- How the code inserts: one pass forward, that leaves the smaller number at each place and carries the larger on. SortLaws.antt has that it is the insertion.
use Rattle.std.specs.Prelude.{List, [], ◌∷◌, ℤ}
use Rattle.turns.specs.Turn.{lesser_of, greater_of}

unfoldable pub sink : ℤ → List ℤ → List ℤ
sink x [] = x ∷ []
sink x (y ∷ ys) = lesser_of x y ∷ sink (greater_of x y) ys
