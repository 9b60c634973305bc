-- The page for hard limits, in plotter units, and its grid.
use Rattle.std.specs.Prelude.{cond, ℕ, ◌+◌, ◌*◌, ◌/◌, max, eqb, leb, ℤ}
use Rattle.clip.specs.declared.Rect.{Rect}
use Rattle.measure.specs.Root.{across, ice_of}
use Rattle.sheets.specs.declared.Sheet.{Sheet}
use Rattle.sheets.specs.declared.Grid.{Grid}

-- the larger the sheet, the larger its letters
abbrev pub letter_of : ℕ → ℕ → ℕ
letter_of width height = (width + height) / 160 + 1

abbrev pub line_of : ℕ → ℕ
line_of letter = letter * 3 / 2

-- a dot is as wide as a letter is high; three letters are free around the sheet; above it stand fourteen lines, and a page has room for 76 letters
abbrev pub laid_out : ℤ → ℤ → ℕ → ℕ → ℕ → Sheet
laid_out left bottom width height letter = record {
  left = left;
  bottom = bottom;
  width = width;
  height = height;
  letter = letter;
  line = line_of letter;
  dot = letter / 2 + 1;
  margin = letter * 3;
  base = line_of letter * 14 + height;
  wide = max width (letter * 76) + letter * 6;
  high = line_of letter * 14 + height + letter * 3;
}

-- from limit to limit; no sheet is wider than 65,535
unfoldable pub sheet_of : Rect → Sheet
sheet_of r =
    laid_out r.left r.bottom (across r.right r.left) (across r.top r.bottom) (letter_of (across r.right r.left) (across r.top r.bottom))

-- ---- the grid

-- metres from line to line, so that the longer side, of so many centimetres, has at most twelve
unfoldable pub step_of : ℕ → ℕ
step_of centimetres =
    cond (leb centimetres 1200) 1 (
    cond (leb centimetres 2400) 2 (
    cond (leb centimetres 6000) 5 (
    cond (leb centimetres 12000) 10 (
    cond (leb centimetres 24000) 20 50))))

-- "40 units are a millimetre" on paper, and at 1 to `scale` a metre on the ice is 1000 / scale of them
unfoldable pub cell_of : ℕ → ℕ → ℕ
cell_of step scale = cond (eqb scale 0) 40000 (step * 40000 / scale)

abbrev pub grid_on : ℕ → ℕ → ℕ → Grid
grid_on across along scale = record {
  step = step_of (max across along);
  cell = cell_of (step_of (max across along)) scale;
  scale = scale;
  across = across;
  along = along;
}

unfoldable pub grid_of : Rect → ℕ → Grid
grid_of r scale = grid_on (ice_of r.left r.right scale) (ice_of r.bottom r.top scale) scale
