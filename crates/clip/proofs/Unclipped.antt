-- Laws: an end in the box is left as it is, and a segment with such an end is shown. Why: from that end the box is entered after no step, and no step from an
-- end is that end.
use Rattle.std.specs.Prelude.{◌≡◌, refl, Bool, true, false, cond, ◌+◌, ◌≤◌, ℤ, pos, ◌+ℤ◌, ◌*ℤ◌, Some}
use Rattle.std.proofs.Common.{sym, ap, ◌∙◌, arith}
use Rattle.exact.specs.Whole.{◌≤ᶻ◌, ◌<ᶻ◌, ◌<?◌, <?-false, up, is, Z, ord}
use Rattle.exact.specs.Divide.{nearest_div}
use Rattle.exact.specs.Nearest.{nearest-only}
use Rattle.clip.specs.Clip.{axis_entry, entry, toward, axis_place, place, clip, inside}
use Rattle.clip.specs.Axis.{extent-pos, In, in-past}
use Rattle.clip.specs.Line.{whole, between, Inside}
use Rattle.clip.proofs.Crossing.{all, all-sym, till, till-max, in-inside, entry-is, crosses, crossed, shows}
use Rattle.clip.specs.declared.Point.{Point}
use Rattle.clip.specs.declared.Rect.{Rect}

-- ---- the test, as facts
pub record Held (r : Rect) (p : Point) : Type 0 where
  pub left : r.left ≤ᶻ p.x
  pub right : p.x ≤ᶻ r.right
  pub bottom : r.bottom ≤ᶻ p.y
  pub top : p.y ≤ᶻ r.top

cond-out : (t : Bool) {s : Bool} → cond t false s ≡ true → (t ≡ false) × (s ≡ true)
cond-out true e = (sym e, (cc))
cond-out false e = (refl, e)

pub held : {r : Rect} {p : Point} → inside r p ≡ true → Held r p
unfolding inside
held {r} {p} e =
    let a = cond-out (p.x <? r.left) e in
    let b = cond-out (r.right <? p.x) a.1 in
    let c = cond-out (p.y <? r.bottom) b.1 in
    let d = cond-out (r.top <? p.y) c.1 in
    record { left = <?-false _ _ a.0; right = <?-false _ _ b.0; bottom = <?-false _ _ c.0; top = <?-false _ _ d.0 }

-- ---- no step enters
entered : {lo hi p : ℤ} (q : ℤ) {u : ℤ} → lo ≤ᶻ p → p ≤ᶻ hi → pos 0 <ᶻ u → up (axis_entry lo hi p q u) ≡ 0
entered {lo} {hi} {p} q {u} l h k =
    let i : In lo hi p q 1 0 = record { low = omega (arith, ord); high = omega (arith, ord) } in
    omega (arith, (in-past lo hi p q u 1 0 (omega arith) k i).after)

none-till : {r : Rect} {a : Point} (b : Point) → Held r a → till r a b ≡ 0
none-till {r} {a} b h =
    omega (
      arith,
      till-max r a b,
      entered b.x h.left h.right (extent-pos a.y b.y),
      entered b.y h.bottom h.top (extent-pos a.x b.x),
    )

none-entry : {r : Rect} {a : Point} (b : Point) → Held r a → entry r a b ≡ pos 0
none-entry {r} {a} b h = omega (arith, ord, (entry-is r a b).eq, none-till b h)

-- ---- the place after no step

-- the nearest to u · z / u is z
pub whole-nearest : (u z : ℤ) → pos 0 <ᶻ u → nearest_div (u *ℤ z) u ≡ z
whole-nearest u z k = sym (nearest-only (u *ℤ z) u z k (low k) (high k))
  where
    low : pos 0 <ᶻ u → pos 2 *ℤ u *ℤ z ≤ᶻ pos 2 *ℤ (u *ℤ z) +ℤ u
    low = rw (is u, is z) (simp Z (omega arith))

    high : pos 0 <ᶻ u → pos 2 *ℤ (u *ℤ z) +ℤ u <ᶻ pos 2 *ℤ u *ℤ (z +ℤ pos 1)
    high = rw (is u, is z) (simp Z (omega arith))

none-toward : (s t : Bool) → cond s (pos 0) (cond t (pos 0) (pos 0)) ≡ pos 0
none-toward true t = refl
none-toward false true = refl
none-toward false false = refl

none-axis : (p q : ℤ) {u : ℤ} → pos 0 <ᶻ u → axis_place p q u (pos 0) ≡ p
unfolding axis_place toward
none-axis p q {u} k = ap (λ (m : ℤ). nearest_div (u *ℤ p +ℤ m) u) (none-toward (p <? q) (q <? p)) ∙ ap (λ (z : ℤ). nearest_div z u) still ∙ whole-nearest u p k
  where
    still : u *ℤ p +ℤ pos 0 ≡ u *ℤ p
    still = rw (is u, is p) (simp Z (omega arith))

none-place : (a b : Point) → place a b (pos 0) ≡ a
unfolding place
none-place a b =
    let x = none-axis a.x b.x (extent-pos a.y b.y) in
    let y = none-axis a.y b.y (extent-pos a.x b.x) in
    λ i. record { x = x i; y = y i }

from-inside : {r : Rect} {a : Point} (b : Point) → Held r a → place a b (entry r a b) ≡ a
from-inside {r} {a} b h = ap (place a b) (none-entry b h) ∙ none-place a b

-- ---- the end itself is a point of the segment, so there is a part in the box
start-in : {lo hi p : ℤ} (q : ℤ) → lo ≤ᶻ p → p ≤ᶻ hi → Inside lo hi 0 (between (whole p) (whole q) 0 1 (omega arith))
start-in {lo} {hi} {p} q l h = in-inside lo hi p q 0 1 (omega arith) (omega arith) (record { low = omega (arith, ord); high = omega (arith, ord) })

pub held-shows : {r : Rect} {a : Point} (b : Point) → Held r a → till r a b + till r b a ≤ all a b
held-shows {r} {a} b h =
    crossed r a b 0 1 (omega arith) (omega arith)
    (crosses r a b 0 1 (omega arith) (omega arith) (record { x = start-in b.x h.left h.right; y = start-in b.y h.bottom h.top }))

-- the way out of the box: the first end is kept
pub leaves : (r : Rect) (a b : Point) → inside r a ≡ true → clip r a b ≡ Some (a, place b a (entry r b a))
leaves r a b e = let h = held e in shows r a b (held-shows b h) ∙ ap (λ (s : Point). Some (s, place b a (entry r b a))) (from-inside b h)

-- the way into it: the last end is kept
pub enters : (r : Rect) (a b : Point) → inside r b ≡ true → clip r a b ≡ Some (place a b (entry r a b), b)
enters r a b e =
    let h = held e in
    let f : till r b a + till r a b ≤ all b a = held-shows a h in
    shows r a b (omega (arith, f, all-sym a b)) ∙ ap (λ (t : Point). Some (place a b (entry r a b), t)) (from-inside a h)

-- and the way within it both
pub unclipped : (r : Rect) (a b : Point) → inside r a ≡ true → inside r b ≡ true → clip r a b ≡ Some (a, b)
unclipped r a b ha hb = leaves r a b ha ∙ ap (λ (t : Point). Some (a, t)) (from-inside a (held hb))
