use Rattle.std.proofs.Common.{rules}
use Rattle.saved.specs.Saved.{carriage_at}
use Rattle.saving.proofs.carriage.carriage_at.Goals as goal

pub returns : goal.returns
unfolding carriage_at
returns c = search rules
