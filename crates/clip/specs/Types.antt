-- THE FOUR LINE TYPES of the manual (source 001, chapter 10, "Windowing"), and what is painted of a segment of each. That it is so of every segment and
-- every box, an empty one too, stands in proofs/TypeLaws.antt (`some-type`, `one_type`, `by-type`).
use Rattle.std.specs.Prelude.{◌≡◌, Bool, true, false, ◌⊎◌, Option, Some, None}
use Rattle.clip.specs.Clip.{inside}
use Rattle.clip.specs.Line.{exactly, Within}
use Rattle.clip.specs.declared.Point.{Point}
use Rattle.clip.specs.declared.Rect.{Rect}

-- "1. Inside window area to inside window area", and so on, in the manual's order
pub data LineType : Type 0 where
  inside_to_inside inside_to_outside outside_to_inside outside_to_outside : LineType

-- an end "lies within the limits, edges included"
abbrev pub Inner : Rect → Point → Type 0
Inner r p = Within r 0 (exactly p)

-- "by whether each of its ends before clipping lies within the limits"
abbrev pub OfType : Rect → Point → Point → LineType → Type 0
OfType r a b inside_to_inside = Inner r a × Inner r b
OfType r a b inside_to_outside = Inner r a × (¬ Inner r b)
OfType r a b outside_to_inside = (¬ Inner r a) × Inner r b
OfType r a b outside_to_outside = (¬ Inner r a) × (¬ Inner r b)

-- told by two tests: whether the last point is inside, and whether the new one is
abbrev pub type_by : Bool → Bool → LineType
type_by true true = inside_to_inside
type_by true false = inside_to_outside
type_by false true = outside_to_inside
type_by false false = outside_to_outside

unfoldable pub type_of : Rect → Point → Point → LineType
type_of r a b = type_by (inside r a) (inside r b)

-- "a point on an edge": it is within the limits, and on one of their four sides
pub record OnEdge (r : Rect) (p : Point) : Type 0 where
  pub within : Inner r p
  pub edge : ((p.x ≡ r.left) ⊎ (p.x ≡ r.right)) ⊎ ((p.y ≡ r.bottom) ⊎ (p.y ≡ r.top))

-- "Its stroke keeps an end that does and puts a point on an edge for one that does not; .. only with both outside is it hidden."
abbrev pub Painted : Rect → Point → Point → LineType → Option (Point × Point) → Type 0
Painted r a b inside_to_inside c = c ≡ Some (a, b)
Painted r a b inside_to_outside c = (t : Point) × OnEdge r t × (c ≡ Some (a, t))
Painted r a b outside_to_inside c = (s : Point) × OnEdge r s × (c ≡ Some (s, b))
Painted r a b outside_to_outside c = (c ≡ None) ⊎ ((s : Point) × (t : Point) × OnEdge r s × OnEdge r t × (c ≡ Some (s, t)))
