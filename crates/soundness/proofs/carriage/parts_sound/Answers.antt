-- The proof of `parts_sound`: by its tests.
use Rattle.std.proofs.Common.{rules}
use Rattle.wellformed.specs.Sound.{parts_sound}
use Rattle.soundness.proofs.carriage.parts_sound.Goals as goal
use Rattle.soundness.proofs.carriage.parts_sound.Goals.{then-positions_sound, else-positions_sound, then-pen_sound, else-pen_sound}

pub returns-then-polygon_sound : goal.returns-then-polygon_sound
unfolding parts_sound
returns-then-polygon_sound c = elim c.if-pen_sound.branch [
  | then-pen_sound v ↦ elim c.if-positions_sound.branch [ then-positions_sound w ↦ search rules | else-positions_sound w ↦ search rules ]
  | else-pen_sound v ↦ elim c.if-positions_sound.branch [ then-positions_sound w ↦ search rules | else-positions_sound w ↦ search rules ]
]

pub returns-else-polygon_sound : goal.returns-else-polygon_sound
unfolding parts_sound
returns-else-polygon_sound c = elim c.if-pen_sound.branch [
  | then-pen_sound v ↦ elim c.if-positions_sound.branch [ then-positions_sound w ↦ search rules | else-positions_sound w ↦ search rules ]
  | else-pen_sound v ↦ elim c.if-positions_sound.branch [ then-positions_sound w ↦ search rules | else-positions_sound w ↦ search rules ]
]
