-- Figures (e) to (h) of the checked figures, limits 0,0,10,10, and a few more: the definition computes them.
use Rattle.std.specs.Prelude.{◌≡◌, refl, ℤ, pos, negsuc, Some, None}
use Rattle.exact.specs.Whole.{◌<?◌}
use Rattle.exact.specs.Divide.{nearest_div}
use Rattle.clip.specs.Clip.{extent, steps, axis_entry, larger, entry, toward, axis_place, place, clip}
use Rattle.clip.specs.declared.Point.{Point}
use Rattle.clip.specs.declared.Rect.{Rect}

abbrev at : ℤ → ℤ → Point
at x y = record { x = x; y = y }

abbrev limits : Rect
limits = record { left = pos 0; bottom = pos 0; right = pos 10; top = pos 10 }

-- left above right
abbrev empty : Rect
empty = record { left = pos 6; bottom = pos 0; right = pos 4; top = pos 10 }

pub record Figures : Type 0 where
  -- (e) (−5,0) to (15,20) gives (0,5) to (5,10)
  pub e : clip limits (at (negsuc 4) (pos 0)) (at (pos 15) (pos 20)) ≡ Some (at (pos 0) (pos 5), at (pos 5) (pos 10))
  -- (f) (−5,5) to (5,15) gives the dot (0,10)
  pub f : clip limits (at (negsuc 4) (pos 5)) (at (pos 5) (pos 15)) ≡ Some (at (pos 0) (pos 10), at (pos 0) (pos 10))
  -- (g) (−5,6) to (5,16) hidden
  pub g : clip limits (at (negsuc 4) (pos 6)) (at (pos 5) (pos 16)) ≡ None
  -- (h) (−1,0) to (1,1) gives (0,1) to (1,1)
  pub h : clip limits (at (negsuc 0) (pos 0)) (at (pos 1) (pos 1)) ≡ Some (at (pos 0) (pos 1), at (pos 1) (pos 1))
  -- the way back of (h): the direction is kept, and the half goes to the larger number again
  pub back : clip limits (at (pos 1) (pos 1)) (at (negsuc 0) (pos 0)) ≡ Some (at (pos 1) (pos 1), at (pos 0) (pos 1))
  -- a half below zero: −1/2 goes to 0
  pub below : clip (record { left = pos 0; bottom = negsuc 9; right = pos 10; top = pos 10 }) (at (negsuc 0) (negsuc 0)) (at (pos 1) (pos 0)) ≡ Some (at (pos 0) (pos 0), at (pos 1) (pos 0))
  -- a corner that is touched from outside along an edge
  pub corner : clip limits (at (pos 10) (pos 10)) (at (pos 20) (pos 10)) ≡ Some (at (pos 10) (pos 10), at (pos 10) (pos 10))
  -- beside the box, upright
  pub beside : clip limits (at (pos 11) (pos 0)) (at (pos 11) (pos 10)) ≡ None
  -- a dot in the box and one outside
  pub dot : clip limits (at (pos 3) (pos 4)) (at (pos 3) (pos 4)) ≡ Some (at (pos 3) (pos 4), at (pos 3) (pos 4))
  pub away : clip limits (at (pos 3) (pos 11)) (at (pos 3) (pos 11)) ≡ None
  -- an empty box hides everything
  pub nothing : clip empty (at (pos 0) (pos 5)) (at (pos 10) (pos 5)) ≡ None

pub figures : Figures
unfolding nearest_div ◌<?◌ extent steps axis_entry larger entry toward axis_place place clip
figures = record { e = refl; f = refl; g = refl; h = refl; back = refl; below = refl; corner = refl; beside = refl; dot = refl; away = refl; nothing = refl }
