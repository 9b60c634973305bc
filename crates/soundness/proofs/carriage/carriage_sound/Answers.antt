-- The proof of `carriage_sound`: by its tests.
use Rattle.std.proofs.Common.{rules}
use Rattle.wellformed.specs.Sound.{carriage_sound}
use Rattle.soundness.proofs.carriage.carriage_sound.Goals as goal
use Rattle.soundness.proofs.carriage.carriage_sound.Goals.{then-parts_sound, else-parts_sound}

pub returns-then-placed_row : goal.returns-then-placed_row
unfolding carriage_sound
returns-then-placed_row c = elim c.if-parts_sound.branch [ then-parts_sound w ↦ search rules | else-parts_sound w ↦ search rules ]

pub returns-else-placed_row : goal.returns-else-placed_row
unfolding carriage_sound
returns-else-placed_row c = elim c.if-parts_sound.branch [ then-parts_sound w ↦ search rules | else-parts_sound w ↦ search rules ]
