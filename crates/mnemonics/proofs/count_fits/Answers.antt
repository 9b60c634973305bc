-- The instructions that take pairs end after an even count.
use Rattle.std.proofs.Common.{sym, ◌∙◌, arith}
use Rattle.mnemonics.proofs.Laws.{pairs-count}
use Rattle.mnemonics.proofs.count_fits.Goals as goal

pub returns-then-takes_pairs : goal.returns-then-takes_pairs
returns-then-takes_pairs c = sym (pairs-count _ _ (omega arith) (sym c.takes_pairs.ensures ∙ c.if-takes_pairs.true))
