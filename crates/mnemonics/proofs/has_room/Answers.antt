-- The instructions that take pairs have room by their limit.
use Rattle.std.proofs.Common.{sym, ◌∙◌}
use Rattle.mnemonics.proofs.Laws.{pairs-room}
use Rattle.mnemonics.proofs.has_room.Goals as goal

pub returns-then-takes_pairs : goal.returns-then-takes_pairs
returns-then-takes_pairs c = sym (pairs-room _ _ (sym c.takes_pairs.ensures ∙ c.if-takes_pairs.true))
