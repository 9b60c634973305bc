-- The proof of `memory_sound`: by its tests.
use Rattle.std.proofs.Common.{rules}
use Rattle.exact.specs.Fit.{signed64}
use Rattle.wellformed.specs.Sound.{memory_sound}
use Rattle.soundness.proofs.carriage.memory_sound.Goals as goal

pub returns-then-r-le3 : goal.returns-then-r-le3
unfolding memory_sound
returns-then-r-le3 c = search (rules, signed64)

pub returns-else-r-le3 : goal.returns-else-r-le3
unfolding memory_sound
returns-else-r-le3 c = search (rules, signed64)

pub returns-else-between : goal.returns-else-between
unfolding memory_sound
returns-else-between c = search (rules, signed64)
