-- What draw, look, feed and plot store in lists that a program in another language lends, and what such a list says to it.
use Rattle.std.specs.Prelude.{ℕ, zero, suc, List, [], ◌∷◌, ℤ, pos, nat_abs, length}
use Rattle.rows.specs.declared.Row.{Row}
use Rattle.rows.specs.Rows.{row, lay, row_at, flag_number, flag_of}
use Rattle.hpgl.specs.declared.Stroke.{Stroke}
use Rattle.hpgl.specs.declared.Drawn.{Drawn}
use Rattle.hpgl.specs.declared.Drawn.TheVariants as drawn
use Rattle.hpgl.specs.declared.Look.{Look}
use Rattle.hpgl.specs.Values.{Out, stroke, hidden, idle, seen}
use Rattle.feeding.specs.Feed.{Feed}
use Rattle.feeding.specs.Plot.{Plot}

-- a draw, by number
unfoldable pub drawn_kind : Drawn → ℕ
drawn_kind drawn.Idle = 0
drawn_kind drawn.Hidden = 1
drawn_kind (drawn.Stroke s) = 2

-- pen, x0, y0, x1, y1
unfoldable pub stroke_row : Stroke → Row
stroke_row s = row (pos s.pen) s.x0 s.y0 s.x1 s.y1

-- only a stroke is stored
unfoldable pub drawn_numbers : Drawn → List ℤ
drawn_numbers drawn.Idle = []
drawn_numbers drawn.Hidden = []
drawn_numbers (drawn.Stroke s) = lay (stroke_row s) []

-- what kind and list say to a program, in 01's values
unfoldable pub told_draw : ℕ → List ℤ → Out
told_draw zero zs = idle
told_draw (suc zero) zs = hidden
told_draw (suc (suc k)) zs = let r = row_at zs 0 in stroke (nat_abs r.a) r.b r.c r.d r.e

-- x, y, pen, down, bytes
unfoldable pub look_row : Look → Row
look_row l = row l.location.x l.location.y (pos l.pen) (flag_number l.down) (pos l.bytes)

unfoldable pub look_numbers : Look → List ℤ
look_numbers l = lay (look_row l) []

unfoldable pub told_look : List ℤ → Out
told_look zs = let r = row_at zs 0 in seen r.a r.b (nat_abs r.c) (flag_of r.d) (nat_abs r.e)

-- bytes taken, strokes stored
unfoldable pub counts_of : Feed → List ℕ
counts_of f = f.taken ∷ length f.strokes ∷ []

-- bytes taken, marks stored
unfoldable pub mark_counts_of : Plot → List ℕ
mark_counts_of f = f.taken ∷ length f.marks ∷ []
