-- The proof of `reply_sound`: by its tests.
use Rattle.std.proofs.Common.{rules}
use Rattle.exact.specs.Fit.{signed64}
use Rattle.wellformed.specs.Sound.{reply_sound}
use Rattle.soundness.proofs.work.reply_sound.Goals as goal
use Rattle.soundness.proofs.work.reply_sound.Goals.{then-between, else-between, then-count_sound, else-count_sound}

pub returns-then-blank : goal.returns-then-blank
unfolding reply_sound
returns-then-blank c = elim c.if-count_sound.branch [
  | then-count_sound v ↦ elim c.if-between.branch [ then-between w ↦ search (rules, signed64) | else-between w ↦ search (rules, signed64) ]
  | else-count_sound v ↦ elim c.if-between.branch [ then-between w ↦ search (rules, signed64) | else-between w ↦ search (rules, signed64) ]
]

pub returns-else-blank : goal.returns-else-blank
unfolding reply_sound
returns-else-blank c = elim c.if-count_sound.branch [
  | then-count_sound v ↦ elim c.if-between.branch [ then-between w ↦ search (rules, signed64) | else-between w ↦ search (rules, signed64) ]
  | else-count_sound v ↦ elim c.if-between.branch [ then-between w ↦ search (rules, signed64) | else-between w ↦ search (rules, signed64) ]
]
