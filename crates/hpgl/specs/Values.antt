-- The answers in document 01's values: "If an answer is an enum, a definition gives this paper's number and values for every case of the enum, and the
-- promises use that definition". Segment.antt has what draw answers in them.
use Rattle.std.specs.Prelude.{ℕ, Bool, List, ℤ}
use Rattle.hpgl.specs.declared.Drawn.{Drawn}
use Rattle.hpgl.specs.declared.Drawn.TheVariants as drawn
use Rattle.hpgl.specs.declared.Look.{Look}

-- take: a byte was refused (number, place counted from 1). Draw: "a stroke (pen, x0, y0, x1, y1), hidden, or idle". Look: "location, pen, pen up or down,
-- polygon bytes" (x, y, pen, down, bytes). Fetch: the bytes of a reply
pub data Out : Type 0 where
  refused : ℕ → ℕ → Out
  stroke : ℕ → ℤ → ℤ → ℤ → ℤ → Out
  hidden : Out
  idle : Out
  seen : ℤ → ℤ → ℕ → Bool → ℕ → Out
  reply : List ℕ → Out

-- every answer of draw
unfoldable pub drawn_values : Drawn → Out
drawn_values drawn.Idle = idle
drawn_values drawn.Hidden = hidden
drawn_values (drawn.Stroke s) = stroke s.pen s.x0 s.y0 s.x1 s.y1

unfoldable pub look_values : Look → Out
look_values l = seen l.location.x l.location.y l.pen l.down l.bytes
