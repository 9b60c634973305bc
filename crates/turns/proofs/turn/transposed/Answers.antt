use Rattle.std.proofs.Common.{rules}
use Rattle.turns.specs.Turn.{transposed_of}
use Rattle.turns.proofs.turn.transposed.Goals as goal

pub returns : goal.returns
unfolding transposed_of
returns c = search rules
