-- The proof of `settings_sound`: by its tests.
use Rattle.std.proofs.Common.{rules}
use Rattle.wellformed.specs.Sound.{settings_sound}
use Rattle.soundness.proofs.sheet.settings_sound.Goals as goal
use Rattle.soundness.proofs.sheet.settings_sound.Goals.{then-limits_sound, else-limits_sound, then-corners_sound, else-corners_sound}

pub returns-then-scale_sound : goal.returns-then-scale_sound
unfolding settings_sound
returns-then-scale_sound c = elim c.if-corners_sound.branch [
  | then-corners_sound v ↦ elim c.if-limits_sound.branch [ then-limits_sound w ↦ search rules | else-limits_sound w ↦ search rules ]
  | else-corners_sound v ↦ elim c.if-limits_sound.branch [ then-limits_sound w ↦ search rules | else-limits_sound w ↦ search rules ]
]

pub returns-else-scale_sound : goal.returns-else-scale_sound
unfolding settings_sound
returns-else-scale_sound c = elim c.if-corners_sound.branch [
  | then-corners_sound v ↦ elim c.if-limits_sound.branch [ then-limits_sound w ↦ search rules | else-limits_sound w ↦ search rules ]
  | else-corners_sound v ↦ elim c.if-limits_sound.branch [ then-limits_sound w ↦ search rules | else-limits_sound w ↦ search rules ]
]
