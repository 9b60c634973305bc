-- What an action asks of the waiting work.
use Rattle.std.specs.Prelude.{ℕ}
use Rattle.std.proofs.Common.{lit<}
use Rattle.hpgl.specs.declared.Action.{Action}
use Rattle.hpgl.specs.declared.Action.TheVariants.{Keep, Line, Chords, Join, Outline, Rectangle, Answer}
use Rattle.hpgl.specs.Valid.{ValidAction}

-- all but the place for an edge, which depends on the count
pub action-alone : (k : ℕ) (a : Action) → ValidAction k a → ValidAction 0 a
action-alone k Keep h = h
action-alone k (Line a b) h = h
action-alone k (Chords o) h = h
action-alone k (Join e) h = (h.0, lit< tt)
action-alone k Outline h = h
action-alone k (Rectangle p q shown) h = h
action-alone k (Answer r) h = h
