-- The proof of `count_sound`: by its tests.
use Rattle.std.proofs.Common.{rules}
use Rattle.exact.specs.Fit.{signed64}
use Rattle.wellformed.specs.Sound.{count_sound}
use Rattle.soundness.proofs.work.count_sound.Goals as goal

pub returns-then-between : goal.returns-then-between
unfolding count_sound
returns-then-between c = search (rules, signed64)

pub returns-else-between : goal.returns-else-between
unfolding count_sound
returns-else-between c = search (rules, signed64)
