use Rattle.std.proofs.Common.{rules}
use Rattle.saved.specs.Saved.{pm0_of}
use Rattle.saving.proofs.carriage.saved_of.Goals as goal

pub returns : goal.returns
unfolding pm0_of
returns c = search rules
