-- How the corners of IP and the hard limits are judged: six tests are three of two parts each, for each corner and for both together.
use Rattle.std.specs.Prelude.{◌≡◌, refl, Bool, true, false, not, ◌&&◌}
use Rattle.std.proofs.Common.{◌∙◌}
use Rattle.exact.specs.Whole.{◌<?◌, ◌≡?◌}
use Rattle.clip.specs.declared.Point.{Point}
use Rattle.clip.specs.declared.Rect.{Rect}
use Rattle.hpgl.specs.Rules.{int16, good_corners}
use Rattle.hpgl.specs.Machine.{good_limits}

six : (a b c d e f : Bool) → (a && b) && ((c && d) && (e && f)) ≡ (a && b && c && d && e && f)
six true true true true e f = refl
six true true true false e f = refl
six true true false d e f = refl
six true false c d e f = refl
six false b c d e f = refl

pub corners-judged : {t u v : Bool} (p q : Point) → t ≡ (int16 p.x && int16 p.y) → u ≡ (int16 q.x && int16 q.y) →
    v ≡ (not (p.x ≡? q.x) && not (p.y ≡? q.y)) → t && (u && v) ≡ good_corners p q
unfolding good_corners
corners-judged p q h k l =
    (λ i. h i && (k i && l i))
    ∙ six (int16 p.x) (int16 p.y) (int16 q.x) (int16 q.y) (not (p.x ≡? q.x)) (not (p.y ≡? q.y))

pub limits-judged : {t u v : Bool} (r : Rect) → t ≡ (int16 r.left && int16 r.bottom) → u ≡ (int16 r.right && int16 r.top) →
    v ≡ ((r.left <? r.right) && (r.bottom <? r.top)) → t && (u && v) ≡ good_limits r
unfolding good_limits
limits-judged r h k l =
    (λ i. h i && (k i && l i))
    ∙ six (int16 r.left) (int16 r.bottom) (int16 r.right) (int16 r.top) (r.left <? r.right) (r.bottom <? r.top)
