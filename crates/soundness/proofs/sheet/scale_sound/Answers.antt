-- The proof of `scale_sound`: by its tests.
use Rattle.std.proofs.Common.{rules}
use Rattle.exact.specs.Fit.{signed64}
use Rattle.wellformed.specs.Sound.{scale_sound}
use Rattle.soundness.proofs.sheet.scale_sound.Goals as goal

pub returns-then-r-eq0 : goal.returns-then-r-eq0
unfolding scale_sound
returns-then-r-eq0 c = search (rules, signed64)

pub returns-then-r : goal.returns-then-r
unfolding scale_sound
returns-then-r c = search (rules, signed64)

pub returns-else-r : goal.returns-else-r
unfolding scale_sound
returns-else-r c = search (rules, signed64)

pub returns-else-between : goal.returns-else-between
unfolding scale_sound
returns-else-between c = search (rules, signed64)
