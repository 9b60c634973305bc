-- The proof of `larger`: the library's maximum, which tests the two the other way round.
use Rattle.std.proofs.Common.{rules}
use Rattle.exact.specs.Whole.{◌<?◌}
use Rattle.clip.specs.Clip.{larger}
use Rattle.clipping.proofs.larger.Goals as goal

pub returns : goal.returns
unfolding larger ◌<?◌
returns c = search rules
