-- The proof of `position_sound`.
use Rattle.exact.proofs.Rules.{rules64}
use Rattle.wellformed.specs.Sound.{position_sound}
use Rattle.soundness.proofs.carriage.position_sound.Goals as goal

pub returns : goal.returns
unfolding position_sound
returns c = search rules64
