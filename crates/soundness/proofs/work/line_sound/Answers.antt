-- The proof of `line_sound`: by its tests.
use Rattle.std.proofs.Common.{rules}
use Rattle.wellformed.specs.Sound.{line_sound}
use Rattle.soundness.proofs.work.line_sound.Goals as goal

pub returns-then-between : goal.returns-then-between
unfolding line_sound
returns-then-between c = search rules

pub returns-else-between : goal.returns-else-between
unfolding line_sound
returns-else-between c = search rules
