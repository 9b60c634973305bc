-- The proof of `number_sound`.
use Rattle.exact.proofs.Rules.{rules64}
use Rattle.wellformed.specs.Sound.{number_sound}
use Rattle.soundness.proofs.instruction.number_sound.Goals as goal

pub returns : goal.returns
unfolding number_sound
returns c = search rules64
