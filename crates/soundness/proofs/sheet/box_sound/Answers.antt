-- The proof of `box_sound`.
use Rattle.exact.proofs.Rules.{rules64}
use Rattle.wellformed.specs.Sound.{box_sound}
use Rattle.soundness.proofs.sheet.box_sound.Goals as goal

pub returns : goal.returns
unfolding box_sound
returns c = search rules64
