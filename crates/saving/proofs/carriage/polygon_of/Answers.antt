use Rattle.std.proofs.Common.{rules}
use Rattle.saved.specs.Saved.{polygon_of}
use Rattle.saving.proofs.carriage.polygon_of.Goals as goal

pub returns : goal.returns
unfolding polygon_of
returns c = search rules
