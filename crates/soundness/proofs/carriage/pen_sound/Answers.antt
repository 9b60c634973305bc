-- The proof of `pen_sound`.
use Rattle.exact.proofs.Rules.{rules64}
use Rattle.wellformed.specs.Sound.{pen_sound}
use Rattle.soundness.proofs.carriage.pen_sound.Goals as goal

pub returns : goal.returns
unfolding pen_sound
returns c = search rules64
