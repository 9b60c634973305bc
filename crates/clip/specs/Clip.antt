-- THE DEFINITION of clip: what is left of a segment in a box, in whole numbers.
-- "clipped to the limits .. edges included. Empty part: hidden. Otherwise the ends of the exact part, rounded by the rule above."
-- A reader need not believe the arithmetic below: proofs/ExactnessLaws.antt proves, in the words of Line.antt, that the part that it finds holds
-- exactly the points of the segment that are in the box (`exact-part`), that the answer's ends are the ends of that part, rounded
-- (`exact-ends`), and that the answer is None only where no point of the segment is in the box (`exact-hidden`).
--
-- In the manner of Liang and Barsky: how far along the segment is the box entered, and how far along the way back?
-- The segment from a to b is divided into ux · uy equal steps, where ux and uy are its extents in x and in y. A step moves x by 1/uy and y
-- by 1/ux. So the segment crosses each edge of the box, a whole number, after a whole number of steps, and there is nothing to divide.
use Rattle.std.specs.Prelude.{Bool, true, false, cond, ℤ, pos, neg_ℤ, ◌+ℤ◌, ◌-ℤ◌, ◌*ℤ◌, Option, Some, None}
use Rattle.exact.specs.Whole.{◌<?◌}
use Rattle.exact.specs.Divide.{nearest_div}
use Rattle.clip.specs.declared.Point.{Point}
use Rattle.clip.specs.declared.Rect.{Rect}

-- |q − p|, or 1 where they are equal
unfoldable pub extent : ℤ → ℤ → ℤ
extent p q = cond (p <? q) (q -ℤ p) (cond (q <? p) (p -ℤ q) (pos 1))

-- the steps of the whole segment
unfoldable pub steps : Point → Point → ℤ
steps a b = extent a.x b.x *ℤ extent a.y b.y

-- The steps from p towards q until lo..hi is entered, each step 1/u; below 0 where p has entered already.
-- Where p and q are equal there are u steps: none if they are in lo..hi, else more than all.
unfoldable pub axis_entry : ℤ → ℤ → ℤ → ℤ → ℤ → ℤ
axis_entry lo hi p q u =
    cond (p <? q) ((lo -ℤ p) *ℤ u) (cond (q <? p) ((p -ℤ hi) *ℤ u) (cond (p <? lo) (u +ℤ pos 1) (cond (hi <? p) (u +ℤ pos 1) (pos 0))))

unfoldable pub larger : ℤ → ℤ → ℤ
larger a b = cond (a <? b) b a

-- the steps from a towards b until the box is entered: in x and in y, and none where a is in it
unfoldable pub entry : Rect → Point → Point → ℤ
entry r a b =
    let x : ℤ = axis_entry r.left r.right a.x b.x (extent a.y b.y) in
    let y : ℤ = axis_entry r.bottom r.top a.y b.y (extent a.x b.x) in
    larger (pos 0) (larger x y)

-- m, with the sign of the way from p to q
unfoldable pub toward : ℤ → ℤ → ℤ → ℤ
toward p q m = cond (p <? q) m (cond (q <? p) (neg_ℤ m) (pos 0))

-- p ± m/u, the number m steps from p towards q, rounded
unfoldable pub axis_place : ℤ → ℤ → ℤ → ℤ → ℤ
axis_place p q u m = nearest_div (u *ℤ p +ℤ toward p q m) u

-- the point m steps from a towards b, rounded
unfoldable pub place : Point → Point → ℤ → Point
place a b m = record { x = axis_place a.x b.x (extent a.y b.y) m; y = axis_place a.y b.y (extent a.x b.x) m }

-- The box is entered m steps after a, and on the way back n steps after b. Each end of the stroke is found from a and b themselves.
unfoldable pub clip : Rect → Point → Point → Option (Point × Point)
clip r a b =
    let m : ℤ = entry r a b in
    let n : ℤ = entry r b a in
    cond (steps a b <? m +ℤ n) None (Some (place a b m, place b a n))

-- the point is in the box, edges included: of a segment between two such points clip leaves all (proofs/Unclipped.antt)
unfoldable pub inside : Rect → Point → Bool
inside r p =
    cond (p.x <? r.left) false (cond (r.right <? p.x) false (cond (p.y <? r.bottom) false (cond (r.top <? p.y) false true)))
