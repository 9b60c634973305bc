-- The proof of `known_here`.
use mathlib.Core.Path.{◌∙◌}
use Rattle.wellformed.specs.Sound.{known_sound}
use Rattle.soundness.proofs.known_here.Goals as goal

pub returns : goal.returns
returns c =
    c.known_sound.ensures ∙ (λ i. known_sound (c.row_at.ensures i) (c.row_at-2.ensures i))
