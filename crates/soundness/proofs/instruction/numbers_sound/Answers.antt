-- The proof of `numbers_sound`.
use Rattle.exact.proofs.Rules.{rules64}
use Rattle.wellformed.specs.Sound.{numbers_sound}
use Rattle.soundness.proofs.instruction.numbers_sound.Goals as goal

pub returns : goal.returns
unfolding numbers_sound
returns c = search rules64
