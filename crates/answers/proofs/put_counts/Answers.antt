-- The proof of `put_counts`: two stores.
use mathlib.Core.Path.{refl}
use Rattle.rows.specs.Rows.{over}
use Rattle.answers.proofs.put_counts.Goals as goal

pub returns : goal.returns
unfolding over
returns c = refl
