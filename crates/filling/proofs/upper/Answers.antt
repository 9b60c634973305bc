-- The proof of `upper`: the callee's answer.
use Rattle.std.proofs.Common.{rules}
use Rattle.filling.specs.Filling.{upper}
use Rattle.filling.proofs.upper.Goals as goal

pub returns : goal.returns
unfolding upper
returns c = search rules
