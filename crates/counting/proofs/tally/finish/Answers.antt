-- As it is written.
use Rattle.exact.proofs.Rules.{rules64}
use Rattle.counting.specs.Tally.{end_of}
use Rattle.counting.proofs.tally.finish.Goals as goal

pub returns : goal.returns
unfolding end_of
returns c = search rules64
