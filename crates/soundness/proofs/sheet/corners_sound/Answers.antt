-- The proof of `corners_sound`: by its tests.
use Rattle.std.proofs.Common.{rules}
use Rattle.exact.specs.Fit.{signed64}
use Rattle.wellformed.specs.Sound.{corners_sound}
use Rattle.soundness.proofs.sheet.corners_sound.Goals as goal
use Rattle.soundness.proofs.sheet.corners_sound.Goals.{then-between, else-between}

pub returns-then-r : goal.returns-then-r
unfolding corners_sound
returns-then-r c = elim c.if-between.branch [ then-between w ↦ search (rules, signed64) | else-between w ↦ search (rules, signed64) ]

pub returns-else-r : goal.returns-else-r
unfolding corners_sound
returns-else-r c = elim c.if-between.branch [ then-between w ↦ search (rules, signed64) | else-between w ↦ search (rules, signed64) ]
