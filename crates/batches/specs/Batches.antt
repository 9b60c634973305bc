-- Feed by batches: where it begins, and what is left to do after a part of it.
use Rattle.std.specs.Prelude.{◌≡◌, Bool, true, false, List, [], ℕ, ◌+◌, ◌-◌, ◌≤◌, ◌<◌, length, take, drop, replicate}
use Rattle.std.proofs.lemmas.List.{length-replicate}
use Rattle.hpgl.specs.declared.Stroke.{Stroke}
use Rattle.feeding.specs.Feed.{Feed, feed_from}
use Rattle.feeding.proofs.PartsOfFeed.{store_all}
use Rattle.gathering.specs.declared.Stopped.{Stopped}
use Rattle.machine.specs.declared.Machine.{Machine}
use Rattle.batches.specs.declared.Fed.{Fed}
use Rattle.batches.specs.declared.Batch.{Batch}
use Rattle.batches.specs.Records.{no_stroke}

-- a list's records before anything is stored
unfoldable pub blanks : List Stroke
blanks = replicate 64 no_stroke

pub blanks-long : length blanks ≡ 64
unfolding blanks
blanks-long = length-replicate 64 no_stroke

-- nothing is fed yet
abbrev pub start : Machine → Fed
start m = record { machine = m; taken = 0; stored = 0; number = 0 }

-- a batch of no stroke, and more to come
abbrev pub begun : Machine → Batch
begun m = record { count = 0; more = true; list = blanks; fed = start m }

-- where feed has got to: the state in place of the machine that holds it
abbrev pub fed_by : Fed → Stopped
fed_by f = record { state = f.machine.state; at = f.taken; stored = f.stored; number = f.number }

-- what feed has still to do after f, where the list has `room` records ..
abbrev pub goes_on : List ℕ → ℕ → Stopped → Feed
goes_on bytes room f = feed_from f.state (drop f.at bytes) f.at (room - f.stored)

-- .. and where f is its answer
abbrev pub ended : Stopped → Feed
ended f = record { state = f.state; taken = f.at; strokes = []; number = f.number }

abbrev pub rest : Bool → List ℕ → ℕ → Stopped → Feed
rest true bytes room f = goes_on bytes room f
rest false bytes room f = ended f

-- the batch b follows f
pub record Batched (bytes : List ℕ) (room : ℕ) (f : Fed) (b : Batch) : Type 0 where
  -- what was to be done is to store its strokes, and then to do what is left after it
  pub next : goes_on bytes room (fed_by f) ≡ store_all (take b.count b.list) (rest b.more bytes room (fed_by b.fed))
  pub counted : b.fed.stored ≡ f.stored + b.count
  pub held : b.count ≤ 64
  pub within : b.fed.stored ≤ room
  -- it stores a stroke or is the last
  pub some : b.more ≡ true → 0 < b.count
