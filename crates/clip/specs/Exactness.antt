-- THAT `clip` IS EXACT, in the words of Line.antt: its ends are the rounded ends of exactly the part of the segment that is in the box. That it is so of
-- every stroke stands in proofs/ExactnessLaws.antt (`exact-part`, `exact-ends`), and so does that what is hidden has no point in the box.
use Rattle.std.specs.Prelude.{◌≡◌, ◌↔◌, ℕ, ◌*◌, ◌≤◌, ◌<◌}
use Rattle.clip.specs.Line.{exactly, nearest, at, Within}
use Rattle.clip.specs.declared.Point.{Point}
use Rattle.clip.specs.declared.Rect.{Rect}

-- the part of the segment from a to b that is in the box, from `first` to `last` of `parts` equal parts: these points are in the box, and no others
pub record Part (r : Rect) (a b : Point) : Type 0 where
  pub first : ℕ
  pub last : ℕ
  pub parts : ℕ
  pub some : 0 < parts
  pub order : first ≤ last
  pub upto : last ≤ parts
  pub points : (k n : ℕ) → k ≤ n → (p : 0 < n) → Within r 0 (at (exactly a) (exactly b) k n p) ↔ ((first * n ≤ k * parts) × (k * parts ≤ last * n))

-- s and t are the ends of that part, rounded
pub record Ends {r : Rect} {a b : Point} (i : Part r a b) (s t : Point) : Type 0 where
  pub start : s ≡ nearest (at (exactly a) (exactly b) i.first i.parts i.some)
  pub stop : t ≡ nearest (at (exactly a) (exactly b) i.last i.parts i.some)
