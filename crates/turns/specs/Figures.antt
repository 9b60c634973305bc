-- The checked figure of 01 that is about turns, and what a turned window is, by computation from the definitions.
use Rattle.std.specs.Prelude.{◌≡◌, refl, ℕ, pos, negsuc}
use Rattle.exact.specs.Whole.{◌<?◌}
use Rattle.clip.specs.declared.Rect.{Rect}
use Rattle.turns.specs.Turn.{turns, turn_of, turned_of, lesser_of, greater_of, ordered_of, turned_box_of}

-- (i) RO90, (0,100) is page (−100,0).
pub figure-i : turned_of (record { x = pos 0; y = pos 100 }) 1 ≡ record { x = negsuc 99; y = pos 0 }
unfolding turned_of turn_of turns
figure-i = refl

-- A turned window is put in order again: IW0,0,5,10 and RO90, RO180, RO270.
abbrev window : ℕ → Rect
window t = turned_box_of (record { left = pos 0; bottom = pos 0; right = pos 5; top = pos 10 }) t

pub turned-window : (window 1 ≡ record { left = negsuc 9; bottom = pos 0; right = pos 0; top = pos 5 }) ×
    (window 2 ≡ record { left = negsuc 4; bottom = negsuc 9; right = pos 0; top = pos 0 }) ×
    (window 3 ≡ record { left = pos 0; bottom = negsuc 4; right = pos 10; top = pos 0 })
unfolding turned_box_of ordered_of lesser_of greater_of turned_of turn_of turns ◌<?◌
turned-window = (refl, refl, refl)
