-- The proof of `inked_here`.
use mathlib.Core.Path.{◌∙◌}
use Rattle.wellformed.specs.Sound.{inked_sound}
use Rattle.soundness.proofs.inked_here.Goals as goal

pub returns : goal.returns
returns c =
    c.inked_sound.ensures ∙ (λ i. inked_sound (c.row_at.ensures i) (c.row_at-2.ensures i))
