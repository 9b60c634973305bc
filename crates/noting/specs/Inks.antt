-- Strokes and their lengths by pen, and the dots among them.
use Rattle.std.specs.Prelude.{cond, List, [], ◌∷◌, ℕ, replicate}
use Rattle.hpgl.specs.declared.Stroke.{Stroke}
use Rattle.drive.specs.Drive.{ends_equal_of}
use Rattle.console.specs.Sums.{added}
use Rattle.counting.specs.Tally.{for_pen}
use Rattle.measure.specs.Root.{squares, tenths_of}
use Rattle.noting.specs.declared.Inks.{Inks}

abbrev pub no_inks : Inks
no_inks = record { dots = 0; strokes = replicate 9 0; lengths = replicate 9 0 }

-- "one dot if its ends are equal"
unfoldable pub dot_count : Stroke → ℕ
dot_count s = cond (ends_equal_of s) 1 0

-- one stroke more
unfoldable pub inked_of : Inks → Stroke → Inks
inked_of i s = record {
  dots = added i.dots (dot_count s);
  strokes = for_pen i.strokes s.pen 1;
  lengths = for_pen i.lengths s.pen (tenths_of (squares s.x0 s.y0 s.x1 s.y1));
}

unfoldable pub inks_of : Inks → List Stroke → Inks
inks_of i [] = i
inks_of i (s ∷ ss) = inks_of (inked_of i s) ss
