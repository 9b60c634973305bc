use Rattle.std.proofs.Common.{rules}
use Rattle.saved.specs.Saved.{circle_of}
use Rattle.saving.proofs.work.circle_of.Goals as goal

pub returns : goal.returns
unfolding circle_of
returns c = search rules
