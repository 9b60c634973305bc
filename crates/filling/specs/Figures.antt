-- Figures of filling: the definition computes them.
use Rattle.std.specs.Prelude.{◌≡◌, refl, List, [], ◌∷◌, map, ℤ, pos, negsuc}
use Rattle.exact.specs.Whole.{◌<?◌, ◌≤?◌}
use Rattle.exact.specs.Divide.{nearest_div}
use Rattle.clip.specs.declared.Point.{Point}
use Rattle.turns.specs.Turn.{lesser_of, greater_of}
use Rattle.filling.specs.Filling.{
  Pair,
  sides_from,
  ring_sides,
  all_sides,
  row_at,
  lower,
  upper,
  meets,
  crossing,
  crossings,
  insert_by,
  sort_by,
  at_most,
  paired,
  rounded,
  row_pairs,
  row_from,
  first_row,
  past_row,
  least_row,
  past_rows,
  pairs_from,
  fill_pairs,
  rows_met,
  all_met,
  pair_count,
}

abbrev at : ℤ → ℤ → Point
at x y = record { x = x; y = y }

abbrev line : ℤ → ℤ → ℤ → Pair ℤ
line y a b = record { y = y; from = a; to = b }

abbrev box : ℤ → ℤ → ℤ → ℤ → List Point
box left bottom right top = at left bottom ∷ at right bottom ∷ at right top ∷ at left top ∷ []

-- the pairs of some subpolygons at a spacing, rounded
abbrev filled : ℤ → List (List Point) → List (Pair ℤ)
filled s rings = map rounded (fill_pairs s (all_sides rings))

pub record Figures : Type 0 where
  -- FT1,10;EA20,20;FP from 0,0: the lower edge is a row, the upper is none
  pub square : filled (pos 10) (box (pos 0) (pos 0) (pos 20) (pos 20) ∷ []) ≡ line (pos 0) (pos 0) (pos 20) ∷ line (pos 10) (pos 0) (pos 20) ∷ []
  -- closed by its first point already: the same
  pub closed : filled (pos 10) ((at (pos 0) (pos 0) ∷ at (pos 0) (pos 20) ∷ at (pos 20) (pos 20) ∷ at (pos 20) (pos 0) ∷ at (pos 0) (pos 0) ∷ []) ∷ [])
      ≡ line (pos 0) (pos 0) (pos 20) ∷ line (pos 10) (pos 0) (pos 20) ∷ []
  -- rows are multiples of s, also below zero, and do not begin at the lower edge
  pub below : filled (pos 10) (box (pos 0) (negsuc 14) (pos 9) (pos 5) ∷ []) ≡ line (negsuc 9) (pos 0) (pos 9) ∷ line (pos 0) (pos 0) (pos 9) ∷ []
  -- (10,0) (12,5) (20,5): crossings 10.4, 10.8, 11.2, 11.6 with the side that rises most
  pub slope : filled (pos 1) ((at (pos 10) (pos 0) ∷ at (pos 12) (pos 5) ∷ at (pos 20) (pos 5) ∷ []) ∷ [])
      ≡ line (pos 0) (pos 10) (pos 10) ∷ line (pos 1) (pos 10) (pos 12) ∷ line (pos 2) (pos 11) (pos 14) ∷ line (pos 3) (pos 11) (pos 16) ∷ line (pos 4) (pos 12) (pos 18) ∷ []
  -- a hole: all subpolygons count together
  pub hole : filled (pos 10) (box (pos 0) (pos 0) (pos 30) (pos 30) ∷ box (pos 10) (pos 10) (pos 20) (pos 20) ∷ [])
      ≡ line (pos 0) (pos 0) (pos 30) ∷ line (pos 10) (pos 0) (pos 10) ∷ line (pos 10) (pos 20) (pos 30) ∷ line (pos 20) (pos 0) (pos 30) ∷ []
  pub hole-counted : pair_count (pos 10) (all_sides (box (pos 0) (pos 0) (pos 30) (pos 30) ∷ box (pos 10) (pos 10) (pos 20) (pos 20) ∷ [])) ≡ 4
  -- one point, and a level line: nothing
  pub nothing : filled (pos 1) ((at (pos 3) (pos 3) ∷ []) ∷ (at (pos 0) (pos 5) ∷ at (pos 9) (pos 5) ∷ []) ∷ []) ≡ []

pub figures : Figures
unfolding nearest_div ◌<?◌ ◌≤?◌ lesser_of greater_of sides_from ring_sides all_sides row_at lower upper meets crossing crossings insert_by sort_by at_most paired rounded row_pairs row_from first_row past_row least_row past_rows pairs_from fill_pairs rows_met all_met pair_count
figures = record { square = refl; closed = refl; below = refl; slope = refl; hole = refl; hole-counted = refl; nothing = refl }
