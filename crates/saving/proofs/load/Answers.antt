use Rattle.std.proofs.Common.{rules}
use Rattle.saved.specs.Saved.{loaded_of}
use Rattle.saving.proofs.load.Goals as goal

pub returns : goal.returns
unfolding loaded_of
returns c = search rules
