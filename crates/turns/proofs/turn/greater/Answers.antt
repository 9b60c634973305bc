-- The proof of `greater`: the library's maximum, which tests the two the other way round.
use Rattle.std.proofs.Common.{rules}
use Rattle.exact.specs.Whole.{◌<?◌}
use Rattle.turns.specs.Turn.{greater_of}
use Rattle.turns.proofs.turn.greater.Goals as goal

pub returns : goal.returns
unfolding greater_of ◌<?◌
returns c = search rules
