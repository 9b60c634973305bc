-- A state with one part changed. Nothing here decides anything.
use Rattle.std.specs.Prelude.{Bool, ℕ}
use Rattle.clip.specs.declared.Point.{Point}
use Rattle.hpgl.specs.declared.Position.{Position}
use Rattle.hpgl.specs.declared.Scale.{Scale}
use Rattle.hpgl.specs.declared.Window.{Window}
use Rattle.hpgl.specs.declared.Settings.{Settings}
use Rattle.hpgl.specs.declared.Pen.{Pen}
use Rattle.hpgl.specs.declared.Polygon.{Polygon}
use Rattle.hpgl.specs.declared.Memory.{Memory}
use Rattle.hpgl.specs.declared.Carriage.{Carriage}
use Rattle.hpgl.specs.declared.Core.{Core}
use Rattle.hpgl.specs.declared.Work.{Work}
use Rattle.hpgl.specs.declared.State.{State}

-- ---- the state

abbrev pub with_work : State → Work → State
with_work m w = record { reader = m.reader; core = m.core; store = m.store; work = w }

-- ---- the carriage

abbrev pub with_position : Carriage → Position → Carriage
with_position c p = record { position = p; pen = c.pen; relative = c.relative; polygon = c.polygon; memory = c.memory }

abbrev pub with_pen : Carriage → Pen → Carriage
with_pen c p = record { position = c.position; pen = p; relative = c.relative; polygon = c.polygon; memory = c.memory }

abbrev pub with_relative : Carriage → Bool → Carriage
with_relative c r = record { position = c.position; pen = c.pen; relative = r; polygon = c.polygon; memory = c.memory }

abbrev pub with_polygon : Carriage → Polygon → Carriage
with_polygon c g = record { position = c.position; pen = c.pen; relative = c.relative; polygon = g; memory = c.memory }

abbrev pub with_memory : Carriage → Memory → Carriage
with_memory c n = record { position = c.position; pen = c.pen; relative = c.relative; polygon = c.polygon; memory = n }

-- ---- the core

abbrev pub with_settings : Core → Settings → Core
with_settings c s = record { settings = s; carriage = c.carriage }

abbrev pub with_carriage : Core → Carriage → Core
with_carriage c k = record { settings = c.settings; carriage = k }

-- ---- the settings

abbrev pub with_corners : Settings → Point → Point → Settings
with_corners s p q = record { hard = s.hard; p1 = p; p2 = q; scale = s.scale; turn = s.turn; window = s.window }

abbrev pub with_scale : Settings → Scale → Settings
with_scale s k = record { hard = s.hard; p1 = s.p1; p2 = s.p2; scale = k; turn = s.turn; window = s.window }

abbrev pub with_turn : Settings → ℕ → Settings
with_turn s t = record { hard = s.hard; p1 = s.p1; p2 = s.p2; scale = s.scale; turn = t; window = s.window }

abbrev pub with_window : Settings → Window → Settings
with_window s w = record { hard = s.hard; p1 = s.p1; p2 = s.p2; scale = s.scale; turn = s.turn; window = w }
