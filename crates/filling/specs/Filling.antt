-- THE DEFINITION of filling, in the words and the order of CR 7: from the points of the subpolygons to the pairs of crossings, row by row.
use Rattle.std.specs.Prelude.{Bool, cond, ◌&&◌, List, [], ◌∷◌, ◌++◌, ℕ, zero, suc, ◌+◌, ◌/◌, ℤ, pos, neg_ℤ, ◌+ℤ◌, ◌-ℤ◌, ◌*ℤ◌}
use Rattle.exact.specs.Whole.{◌<?◌, ◌≤?◌, up}
use Rattle.exact.specs.Divide.{floor_div}
use Rattle.clip.specs.Line.{Frac, based, nearest_whole}
use Rattle.clip.specs.declared.Point.{Point}
use Rattle.turns.specs.Turn.{lesser_of, greater_of}
use Rattle.filling.specs.declared.Side.{Side}

-- ---- sides: "all subpolygons count together, each closed by its first point if need be. .. Edges join the turned locations of the points."
-- Where the last point is the first there is no need, and the side between them, of no length, meets no row.
unfoldable pub sides_from : Point → Point → List Point → List Side
sides_from first p [] = record { from = p; to = first } ∷ []
sides_from first p (q ∷ qs) = record { from = p; to = q } ∷ sides_from first q qs

unfoldable pub ring_sides : List Point → List Side
ring_sides [] = []
ring_sides (p ∷ ps) = sides_from p p ps

unfoldable pub all_sides : List (List Point) → List Side
all_sides [] = []
all_sides (ps ∷ rings) = ring_sides ps ++ all_sides rings

-- ---- rows: "rows at page y that are multiples of s", row k at k s
unfoldable pub row_at : ℤ → ℤ → ℤ
row_at s k = k *ℤ s

unfoldable pub lower : Side → ℤ
lower e = lesser_of e.from.y e.to.y

unfoldable pub upper : Side → ℤ
upper e = greater_of e.from.y e.to.y

-- "An edge meets a row if the row is at or above its lower end and below its upper"
unfoldable pub meets : ℤ → Side → Bool
meets y e = (lower e ≤? y) && (y <? upper e)

-- ---- "Crossings are exact fractions": x0 + (y − y0) (x1 − x0) / (y1 − y0)
unfoldable pub crossing : ℤ → Side → Frac
crossing y e = based e.from.x (y -ℤ e.from.y) (e.to.x -ℤ e.from.x) (e.to.y -ℤ e.from.y)

unfoldable pub crossings : ℤ → List Side → List Frac
crossings y [] = []
crossings y (e ∷ es) = cond (meets y e) (crossing y e ∷ crossings y es) (crossings y es)

-- ".. sorted": each is put before the first that it is at most
unfoldable pub insert_by : {A : Type 0} → (A → A → Bool) → A → List A → List A
insert_by le x [] = x ∷ []
insert_by le x (y ∷ ys) = cond (le x y) (x ∷ y ∷ ys) (y ∷ insert_by le x ys)

unfoldable pub sort_by : {A : Type 0} → (A → A → Bool) → List A → List A
sort_by le [] = []
sort_by le (x ∷ xs) = insert_by le x (sort_by le xs)

-- fractions are compared multiplied out
unfoldable pub at_most : Frac → Frac → Bool
at_most f g = (pos g.den *ℤ f.num) ≤? (pos f.den *ℤ g.num)

-- ".. taken in pairs": the line of a pair runs in row y from crossing to crossing
pub record Pair (A : Type 0) : Type 0 where
  pub y : ℤ
  pub from : A
  pub to : A

unfoldable pub paired : {A : Type 0} → ℤ → List A → List (Pair A)
paired y [] = []
paired y (a ∷ []) = []
paired y (a ∷ b ∷ rest) = record { y = y; from = a; to = b } ∷ paired y rest

-- ".. rounded"
unfoldable pub rounded : Pair Frac → Pair ℤ
rounded p = record { y = p.y; from = nearest_whole p.from; to = nearest_whole p.to }

-- the pairs of one row, "from the least x"
unfoldable pub row_pairs : ℤ → List Side → List (Pair Frac)
row_pairs y es = paired y (sort_by at_most (crossings y es))

-- ---- "Rows go from the least y up"

-- the first row at or above y: y / s rounded up
unfoldable pub row_from : ℤ → ℤ → ℤ
row_from s y = neg_ℤ (floor_div (neg_ℤ y) s)

-- the first row that a side meets, and the one past the last; CountLaws.antt has that it meets those from `first_row` on and below `past_row`
unfoldable pub first_row : ℤ → Side → ℤ
first_row s e = row_from s (lower e)

unfoldable pub past_row : ℤ → Side → ℤ
past_row s e = row_from s (upper e)

-- of all sides; row 0 is among the rows in any case, with no crossing and so no pair if no side meets it
unfoldable pub least_row : ℤ → List Side → ℤ
least_row s [] = pos 0
least_row s (e ∷ es) = lesser_of (first_row s e) (least_row s es)

unfoldable pub past_rows : ℤ → List Side → ℤ
past_rows s [] = pos 0
past_rows s (e ∷ es) = greater_of (past_row s e) (past_rows s es)

-- the pairs of n rows, from row k on
unfoldable pub pairs_from : ℤ → List Side → ℤ → ℕ → List (Pair Frac)
pairs_from s es k zero = []
pairs_from s es k (suc n) = row_pairs (row_at s k) es ++ pairs_from s es (k +ℤ pos 1) n

unfoldable pub fill_pairs : ℤ → List Side → List (Pair Frac)
fill_pairs s es = pairs_from s es (least_row s es) (up (past_rows s es -ℤ least_row s es))

-- ---- how many: half the sum, over the sides, of the rows that each meets
unfoldable pub rows_met : ℤ → Side → ℕ
rows_met s e = up (past_row s e -ℤ first_row s e)

unfoldable pub all_met : ℤ → List Side → ℕ
all_met s [] = 0
all_met s (e ∷ es) = rows_met s e + all_met s es

unfoldable pub pair_count : ℤ → List Side → ℕ
pair_count s es = all_met s es / 2

-- the same of the rows below row k; CountLaws.antt has by them the pair that stands at a place (`pair-at`)
unfoldable pub met_below : ℤ → ℤ → Side → ℕ
met_below s k e = up (lesser_of k (past_row s e) -ℤ first_row s e)

unfoldable pub all_below : ℤ → ℤ → List Side → ℕ
all_below s k [] = 0
all_below s k (e ∷ es) = met_below s k e + all_below s k es

unfoldable pub pairs_below : ℤ → ℤ → List Side → ℕ
pairs_below s k es = all_below s k es / 2
