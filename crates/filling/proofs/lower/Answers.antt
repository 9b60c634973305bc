-- The proof of `lower`: the callee's answer.
use Rattle.std.proofs.Common.{rules}
use Rattle.filling.specs.Filling.{lower}
use Rattle.filling.proofs.lower.Goals as goal

pub returns : goal.returns
unfolding lower
returns c = search rules
