-- As it is written.
use Rattle.exact.proofs.Rules.{rules64}
use Rattle.counting.specs.Tally.{start_of}
use Rattle.counting.proofs.tally.start.Goals as goal

pub returns : goal.returns
unfolding start_of
returns c = search rules64
