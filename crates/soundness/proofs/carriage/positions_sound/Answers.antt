-- The proof of `positions_sound`: by its tests.
use Rattle.std.proofs.Common.{rules}
use Rattle.wellformed.specs.Sound.{positions_sound}
use Rattle.soundness.proofs.carriage.positions_sound.Goals as goal
use Rattle.soundness.proofs.carriage.positions_sound.Goals.{then-position_sound, else-position_sound}

pub returns-then-position_sound-2 : goal.returns-then-position_sound-2
unfolding positions_sound
returns-then-position_sound-2 c = elim c.if-position_sound.branch [ then-position_sound w ↦ search rules | else-position_sound w ↦ search rules ]

pub returns-else-position_sound-2 : goal.returns-else-position_sound-2
unfolding positions_sound
returns-else-position_sound-2 c = elim c.if-position_sound.branch [ then-position_sound w ↦ search rules | else-position_sound w ↦ search rules ]
