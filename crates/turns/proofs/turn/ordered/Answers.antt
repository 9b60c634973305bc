-- The proof of `ordered`: edge by edge.
use Rattle.std.proofs.Common.{rules}
use Rattle.turns.specs.Turn.{ordered_of}
use Rattle.turns.proofs.turn.ordered.Goals as goal

pub returns : goal.returns
unfolding ordered_of
returns c = search rules
