-- The answer of feed.
use Rattle.std.specs.Prelude.{List, length}
use Rattle.hpgl.specs.declared.Stroke.{Stroke}
use Rattle.feeding.specs.Feed.{Feed, laid}
use Rattle.gathering.specs.declared.Stopped.{Stopped}
use Rattle.batches.specs.Batches.{fed_by, blanks}
use Rattle.feed.specs.declared.Listed.{Listed}

-- "Answer: bytes taken, strokes stored, number"
abbrev pub fed_of : Feed → Stopped
fed_of f = record { state = f.state; at = f.taken; stored = length f.strokes; number = f.number }

-- the answer with the list itself ..
pub record Held : Type 0 where
  pub list : List Stroke
  pub fed : Stopped

abbrev pub listed_by : Listed → Held
listed_by l = record { list = l.list; fed = fed_by l.fed }

-- .. the strokes, and after them records that hold nothing
abbrev pub listed_of : Feed → Held
listed_of f = record { list = laid f.strokes blanks; fed = fed_of f }
