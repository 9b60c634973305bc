-- A list of strokes, one by one.
use Rattle.std.specs.Prelude.{List, ℕ, pos, slice_index_or}
use Rattle.hpgl.specs.declared.Stroke.{Stroke}

-- what stands past the end
abbrev pub no_stroke : Stroke
no_stroke = record { pen = 0; x0 = pos 0; y0 = pos 0; x1 = pos 0; y1 = pos 0 }

abbrev pub nth : List Stroke → ℕ → Stroke
nth ss i = slice_index_or ss i no_stroke
