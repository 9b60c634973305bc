-- The instructions that take pairs are those before IN.
use mathlib.Core.Path.{sym}
use Rattle.mnemonics.proofs.Laws.{pairs_first}
use Rattle.mnemonics.proofs.takes_pairs.Goals as goal

pub returns : goal.returns
returns c = sym (pairs_first _)
