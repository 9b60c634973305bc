-- The proof of `known_sound`: by its tests.
use Rattle.std.proofs.Common.{rules}
use Rattle.exact.specs.Fit.{signed64}
use Rattle.wellformed.specs.Sound.{known_sound}
use Rattle.soundness.proofs.instruction.known_sound.Goals as goal
use Rattle.soundness.proofs.instruction.known_sound.Goals.{then-polygon-eq0, else-polygon-eq0, then-place-lt2, else-place-lt2}

pub returns-then-place-gt3 : goal.returns-then-place-gt3
unfolding known_sound
returns-then-place-gt3 c = elim c.if-place-lt2.branch [
  | then-place-lt2 v ↦ elim c.if-polygon-eq0.branch [ then-polygon-eq0 w ↦ search (rules, signed64) | else-polygon-eq0 w ↦ search (rules, signed64) ]
  | else-place-lt2 v ↦ elim c.if-polygon-eq0.branch [ then-polygon-eq0 w ↦ search (rules, signed64) | else-polygon-eq0 w ↦ search (rules, signed64) ]
]

pub returns-else-place-gt3 : goal.returns-else-place-gt3
unfolding known_sound
returns-else-place-gt3 c = elim c.if-place-lt2.branch [
  | then-place-lt2 v ↦ elim c.if-polygon-eq0.branch [ then-polygon-eq0 w ↦ search (rules, signed64) | else-polygon-eq0 w ↦ search (rules, signed64) ]
  | else-place-lt2 v ↦ elim c.if-polygon-eq0.branch [ then-polygon-eq0 w ↦ search (rules, signed64) | else-polygon-eq0 w ↦ search (rules, signed64) ]
]
