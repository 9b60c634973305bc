-- The proof of `intersection`: edge by edge.
use Rattle.std.proofs.Common.{rules}
use Rattle.turns.specs.Limits.{intersection_of}
use Rattle.turns.proofs.limits.intersection.Goals as goal

pub returns : goal.returns
unfolding intersection_of
returns c = search rules
