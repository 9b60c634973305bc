-- The proof of `blank`.
use Rattle.exact.proofs.Rules.{rules64}
use Rattle.wellformed.specs.Sound.{blank_sound}
use Rattle.soundness.proofs.tests.blank.Goals as goal

pub returns : goal.returns
unfolding blank_sound
returns c = search rules64
