-- The proof of `blanks`: by its tests.
use Rattle.std.proofs.Common.{rules}
use Rattle.wellformed.specs.Sound.{blanks_sound}
use Rattle.soundness.proofs.work.blanks.Goals as goal
use Rattle.soundness.proofs.work.blanks.Goals.{then-blank, else-blank}

pub returns-then-blank-2 : goal.returns-then-blank-2
unfolding blanks_sound
returns-then-blank-2 c = elim c.if-blank.branch [ then-blank w ↦ search rules | else-blank w ↦ search rules ]

pub returns-else-blank-2 : goal.returns-else-blank-2
unfolding blanks_sound
returns-else-blank-2 c = elim c.if-blank.branch [ then-blank w ↦ search rules | else-blank w ↦ search rules ]
