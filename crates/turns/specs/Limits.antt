-- The limits. Definitions only: LimitsLaws.antt has what follows of them.
use Rattle.std.specs.Prelude.{Bool, true, false, ℕ}
use Rattle.clip.specs.declared.Rect.{Rect}
use Rattle.turns.specs.Turn.{turned_box_of, lesser_of, greater_of}

-- what is in both boxes; it may be empty, and then left is above right, or bottom above top
unfoldable pub intersection_of : Rect → Rect → Rect
intersection_of a b = record {
  left = greater_of a.left b.left;
  bottom = greater_of a.bottom b.bottom;
  right = lesser_of a.right b.right;
  top = lesser_of a.top b.top;
}

-- "the limits: hard limits and, if set, the turned window, edges included". The window is kept unturned; hard limits never turn
unfoldable pub limits_of : Rect → Bool → Rect → ℕ → Rect
limits_of hard true window t = intersection_of hard (turned_box_of window t)
limits_of hard false window t = hard
