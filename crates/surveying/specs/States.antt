-- A drawing as the definitions speak of it: of the machine there is the state alone. The machine itself holds a proof beside it, and two machines with one state are one
-- (machine-is, crate machine). The other fields are those of the structs of the code, by the same names.
use Rattle.std.specs.Prelude.{ℕ}
use Rattle.hpgl.specs.declared.State.{State}
use Rattle.counting.specs.declared.names.Letters.{Letters}
use Rattle.counting.specs.declared.refusals.Refusals.{Refusals}
use Rattle.counting.specs.declared.tally.Tally.{Tally}
use Rattle.scanning.specs.declared.escapes.Escapes.{Escapes}
use Rattle.surveying.specs.declared.Drawing.{Drawing}
use Rattle.surveying.specs.declared.Painted.{Painted}
use Rattle.surveying.specs.declared.Replied.{Replied}
use Rattle.surveying.specs.declared.Watched.{Watched}

-- of a machine
pub record Held : Type 0 where
  pub state : State

-- of Drawing
pub record DrawingAt : Type 0 where
  pub machine : Held
  pub before : ℕ
  pub letters : Letters
  pub nobody : Letters
  pub tally : Tally
  pub refusals : Refusals
  pub replies : ℕ

-- of Painted
pub record PaintedAt : Type 0 where
  pub machine : Held
  pub tally : Tally

-- of Replied
pub record RepliedAt : Type 0 where
  pub machine : Held
  pub replies : ℕ

-- of Watched
pub record WatchedAt : Type 0 where
  pub drawing : DrawingAt
  pub mode : ℕ
  pub escapes : Escapes
  pub lost : ℕ
  pub first : ℕ

abbrev pub drawing_by : Drawing → DrawingAt
drawing_by d = record {
  machine = record { state = d.machine.state };
  before = d.before;
  letters = d.letters;
  nobody = d.nobody;
  tally = d.tally;
  refusals = d.refusals;
  replies = d.replies;
}

abbrev pub painted_by : Painted → PaintedAt
painted_by p = record { machine = record { state = p.machine.state }; tally = p.tally }

abbrev pub replied_by : Replied → RepliedAt
replied_by r = record { machine = record { state = r.machine.state }; replies = r.replies }

abbrev pub watched_by : Watched → WatchedAt
watched_by w = record { drawing = drawing_by w.drawing; mode = w.mode; escapes = w.escapes; lost = w.lost; first = w.first }
