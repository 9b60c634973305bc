-- Words beside names, and the sheets that have one.
use Rattle.std.specs.Prelude.{Bool, true, false, cond, List, [], ◌∷◌, ℕ, eqb, pos, neg_ℤ, Option, None, Some}
use Rattle.hpgl.specs.Trace.{bytes}
use Rattle.clip.specs.declared.Rect.{Rect}

unfoldable pub same : List ℕ → List ℕ → Bool
same [] [] = true
same [] (n ∷ name) = false
same (w ∷ word) [] = false
same (w ∷ word) (n ∷ name) = cond (eqb w n) (same word name) false

-- the hard limits of each sheet: those of its rink in millimetres, (0,0) its middle (drawings/data/RINKS.md)
unfoldable pub sheet_named : List ℕ → Option Rect
sheet_named word =
    cond (same word (bytes "hockey")) (Some (record { left = neg_ℤ (pos 30000); bottom = neg_ℤ (pos 15000); right = pos 30000; top = pos 15000 }))
    (cond (same word (bytes "curling")) (Some (record { left = neg_ℤ (pos 22860); bottom = neg_ℤ (pos 2500); right = pos 22860; top = pos 2500 })) None)
