-- NEARNESS, both halves of condition 3 for one segment: what `clip` shows and hides of the exact line from e to f, whatever whole points a and b
-- round its ends and whatever the box, an empty one too. Nothing here knows of turns, scales or circles.
-- The one unit is a half for the rounding of the segment's ends and a half for that of the stroke's.
use Rattle.std.specs.Prelude.{◌≡◌, ℕ, ◌≤◌, ◌<◌, Some}
use Rattle.clip.specs.Clip.{clip}
use Rattle.clip.specs.Line.{Exact, exactly, nearest, at, HasClose, Within, RoundsTo}
use Rattle.clip.proofs.ExactnessLaws.{exact-shown}
use Rattle.clip.proofs.Halves.{rounds, mix, inward}
use Rattle.clip.proofs.Parameter.{shown, ends-within, to-line, to-stroke, kept-start, kept-stop}
use Rattle.clip.specs.declared.Point.{Point}
use Rattle.clip.specs.declared.Rect.{Rect}

pub nearest-rounds : (e : Exact) → RoundsTo e (nearest e)
nearest-rounds e = record { x = rounds e.x; y = rounds e.y }

-- each point of the stroke is within the box, and is close to a point of the line
pub clip-near : (r : Rect) (e f : Exact) (a b s t : Point) → RoundsTo e a → RoundsTo f b → clip r a b ≡ Some (s, t) →
    (k n : ℕ) → k ≤ n → (p : 0 < n) →
    Within r 0 (at (exactly s) (exactly t) k n p) × HasClose e f (at (exactly s) (exactly t) k n p)
clip-near r e f a b s t pe pf h k n l p =
    let c = shown r a b s t h in
    let w = ends-within c in
    (record { x = mix _ _ _ _ k n p l w.0.x w.1.x; y = mix _ _ _ _ k n p l w.0.y w.1.y }, to-line c pe pf k n p l)

-- each point of the line that is at least one unit inside the box has a point of the stroke close to it: so there is a stroke
pub clip-covers : (r : Rect) (e f : Exact) (a b : Point) → RoundsTo e a → RoundsTo f b →
    (k n : ℕ) → k ≤ n → (p : 0 < n) → Within r 1 (at e f k n p) →
    (s : Point) × (t : Point) × (clip r a b ≡ Some (s, t)) × HasClose (exactly s) (exactly t) (at e f k n p)
clip-covers r e f a b pe pf k n l p w =
    let v : Within r 0 (at (exactly a) (exactly b) k n p) = record { x = inward _ _ _ _ _ _ k n p l pe.x pf.x w.x; y = inward _ _ _ _ _ _ k n p l pe.y pf.y w.y } in
    let c = exact-shown r a b k n l p v in
    (c.0, c.1, c.2, to-stroke (shown r a b c.0 c.1 c.2) pe pf k n p l v)

-- ---- what else later work asks of `clip`

-- a stroke's ends are in the box
pub clip-inside : (r : Rect) (a b s t : Point) → clip r a b ≡ Some (s, t) → Within r 0 (exactly s) × Within r 0 (exactly t)
clip-inside r a b s t h = ends-within (shown r a b s t h)

-- an end that is in the box is kept as it is
pub clip-keeps-start : (r : Rect) (a b s t : Point) → clip r a b ≡ Some (s, t) → Within r 0 (exactly a) → s ≡ a
clip-keeps-start r a b s t h w = kept-start (shown r a b s t h) w

pub clip-keeps-end : (r : Rect) (a b s t : Point) → clip r a b ≡ Some (s, t) → Within r 0 (exactly b) → t ≡ b
clip-keeps-end r a b s t h w = kept-stop (shown r a b s t h) w
