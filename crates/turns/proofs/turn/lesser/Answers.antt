-- The proof of `lesser`: the library's minimum goes by the same test.
use Rattle.std.proofs.Common.{rules}
use Rattle.exact.specs.Whole.{◌<?◌}
use Rattle.turns.specs.Turn.{lesser_of}
use Rattle.turns.proofs.turn.lesser.Goals as goal

pub returns : goal.returns
unfolding lesser_of ◌<?◌
returns c = search rules
