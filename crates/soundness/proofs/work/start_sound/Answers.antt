-- The proof of `start_sound`: by its tests.
use Rattle.std.proofs.Common.{rules}
use Rattle.exact.specs.Fit.{signed64}
use Rattle.wellformed.specs.Sound.{start_sound}
use Rattle.soundness.proofs.work.start_sound.Goals as goal

pub returns-then-between : goal.returns-then-between
unfolding start_sound
returns-then-between c = search (rules, signed64)

pub returns-else-between : goal.returns-else-between
unfolding start_sound
returns-else-between c = search (rules, signed64)
