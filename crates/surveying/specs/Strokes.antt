-- The strokes that bytes leave to be drawn, in their order: those among which lines painted twice are looked for (crate repeats).
use Rattle.std.specs.Prelude.{List, [], ◌∷◌, ◌++◌, ℕ, zero, suc, pos}
use Rattle.rows.specs.declared.Row.{Row}
use Rattle.rows.specs.Rows.{row}
use Rattle.hpgl.specs.declared.State.{State}
use Rattle.hpgl.specs.declared.Stroke.{Stroke}
use Rattle.hpgl.specs.declared.Drawn.{Drawn}
use Rattle.hpgl.specs.declared.Drawn.TheVariants as drawn
use Rattle.hpgl.specs.Machine.{waiting, take_state, draw_state, draw_answer, fetch_state}
use Rattle.surveying.specs.Drawing.{reply_bytes}

-- its ends, whatever its pen
unfoldable pub ends_of : Stroke → Row
ends_of s = row (pos 0) s.x0 s.y0 s.x1 s.y1

-- what a draw answers, as strokes: one or none
unfoldable pub rows_of : Drawn → List Row
rows_of drawn.Idle = []
rows_of drawn.Hidden = []
rows_of (drawn.Stroke s) = ends_of s ∷ []

-- k segments wait: the machine that is left, and their strokes
unfoldable pub drawn_state : ℕ → State → State
drawn_state zero m = m
drawn_state (suc k) m = drawn_state k (draw_state m)

unfoldable pub strokes_off : ℕ → State → List Row
strokes_off zero m = []
strokes_off (suc k) m = rows_of (draw_answer m) ++ strokes_off k (draw_state m)

abbrev pub strokes_at : State → List Row
strokes_at m = strokes_off (waiting m.work) m

-- what waits is drawn, and a reply fetched
unfoldable pub settled : State → State
settled m = fetch_state (drawn_state (waiting m.work) m) reply_bytes

-- bytes one by one: the machine that is left, and their strokes
unfoldable pub state_after : State → List ℕ → State
state_after m [] = m
state_after m (b ∷ bs) = state_after (settled (take_state m b)) bs

unfoldable pub strokes_from : State → List ℕ → List Row
strokes_from m [] = []
strokes_from m (b ∷ bs) = strokes_at (take_state m b) ++ strokes_from (settled (take_state m b)) bs
