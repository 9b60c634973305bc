-- NEARNESS of what is hidden, from Nearness.antt: no point of the line is as far inside the box as one unit.
use Rattle.std.specs.Prelude.{◌≡◌, ℕ, ◌≤◌, ◌<◌, None}
use Rattle.std.proofs.Common.{sym, ◌∙◌}
use Rattle.clip.specs.Clip.{clip}
use Rattle.clip.specs.Line.{Exact, at, Within, RoundsTo}
use Rattle.clip.proofs.Crossing.{hidden≢}
use Rattle.clip.proofs.Nearness.{clip-covers}
use Rattle.clip.specs.declared.Point.{Point}
use Rattle.clip.specs.declared.Rect.{Rect}

-- where the answer is None, no point of the line is that far inside
pub clip-hides : (r : Rect) (e f : Exact) (a b : Point) → RoundsTo e a → RoundsTo f b → clip r a b ≡ None →
    (k n : ℕ) → k ≤ n → (p : 0 < n) → ¬ Within r 1 (at e f k n p)
clip-hides r e f a b pe pf h k n l p w = hidden≢ (sym h ∙ (clip-covers r e f a b pe pf k n l p w).2)
