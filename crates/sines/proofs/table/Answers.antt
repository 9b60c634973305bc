-- The proof of `table`: the constant is the definition's list, entry for entry.
use mathlib.Core.Path.{refl}
use Rattle.sines.specs.Table.{sines}
use Rattle.sines.proofs.table.Goals as goal

pub returns : goal.returns
unfolding sines
returns c = refl
