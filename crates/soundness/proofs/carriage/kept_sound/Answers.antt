-- The proof of `kept_sound`: by its tests.
use Rattle.std.proofs.Common.{rules}
use Rattle.exact.specs.Fit.{signed64}
use Rattle.wellformed.specs.Sound.{kept_sound}
use Rattle.soundness.proofs.carriage.kept_sound.Goals as goal

pub returns-then-polygon-eq0 : goal.returns-then-polygon-eq0
unfolding kept_sound
returns-then-polygon-eq0 c = search (rules, signed64)

pub returns-then-placed_row : goal.returns-then-placed_row
unfolding kept_sound
returns-then-placed_row c = search (rules, signed64)

pub returns-else-placed_row : goal.returns-else-placed_row
unfolding kept_sound
returns-else-placed_row c = search (rules, signed64)
