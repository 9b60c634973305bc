-- The numbers that the code takes, and how large they make the others. The theorems ask nothing of the kind.
use Rattle.std.specs.Prelude.{ℕ, ◌+◌, ◌*◌, T, leb}
use Rattle.exact.specs.Fit.{Bd}
use Rattle.clip.specs.declared.Point.{Point}
use Rattle.clip.specs.declared.Rect.{Rect}

-- a location "must be within ±1,000,000"
abbrev pub reach : ℕ
reach = 1000000

abbrev pub most_extent : ℕ
most_extent = 2 * reach

abbrev pub most_steps : ℕ
most_steps = most_extent * most_extent

-- so the numerator of an end on the box is one that nearest division takes in 64 bits
pub numerator-fits : T (leb (most_extent * reach + most_steps) 0x4000_0000_0000_0000)
numerator-fits = tt

pub record SmallPoint (p : Point) : Type 0 where
  pub x : Bd p.x reach
  pub y : Bd p.y reach

pub record SmallRect (r : Rect) : Type 0 where
  pub left : Bd r.left reach
  pub bottom : Bd r.bottom reach
  pub right : Bd r.right reach
  pub top : Bd r.top reach
