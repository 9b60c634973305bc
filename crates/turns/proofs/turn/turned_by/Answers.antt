-- The proof of `turned_by`: a row times the point, twice.
use Rattle.std.proofs.Common.{rules}
use Rattle.turns.specs.Turn.{turned_by}
use Rattle.turns.proofs.turn.turned_by.Goals as goal

pub returns : goal.returns
unfolding turned_by
returns c = search rules
