-- The proof of `reader_sound`: by its tests.
use Rattle.std.proofs.Common.{rules}
use Rattle.wellformed.specs.Sound.{reader_sound}
use Rattle.soundness.proofs.instruction.reader_sound.Goals as goal
use Rattle.soundness.proofs.instruction.reader_sound.Goals.{then-place_sound, else-place_sound}

pub returns-then-numbers_sound : goal.returns-then-numbers_sound
unfolding reader_sound
returns-then-numbers_sound c = elim c.if-place_sound.branch [ then-place_sound w ↦ search rules | else-place_sound w ↦ search rules ]

pub returns-else-numbers_sound : goal.returns-else-numbers_sound
unfolding reader_sound
returns-else-numbers_sound c = elim c.if-place_sound.branch [ then-place_sound w ↦ search rules | else-place_sound w ↦ search rules ]
