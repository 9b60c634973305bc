-- The proof of `ring_sound`: by its tests.
use Rattle.std.proofs.Common.{rules}
use Rattle.wellformed.specs.Sound.{ring_sound}
use Rattle.soundness.proofs.work.ring_sound.Goals as goal
use Rattle.soundness.proofs.work.ring_sound.Goals.{then-centre_sound, else-centre_sound}

pub returns-then-centre_sound-2 : goal.returns-then-centre_sound-2
unfolding ring_sound
returns-then-centre_sound-2 c = elim c.if-centre_sound.branch [ then-centre_sound w ↦ search rules | else-centre_sound w ↦ search rules ]

pub returns-else-centre_sound-2 : goal.returns-else-centre_sound-2
unfolding ring_sound
returns-else-centre_sound-2 c = elim c.if-centre_sound.branch [ then-centre_sound w ↦ search rules | else-centre_sound w ↦ search rules ]
