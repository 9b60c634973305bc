-- The proof of `settings_here`.
use mathlib.Core.Path.{◌∙◌}
use Rattle.wellformed.specs.Sound.{settings_sound}
use Rattle.soundness.proofs.settings_here.Goals as goal

pub returns : goal.returns
returns c =
    c.settings_sound.ensures ∙ (λ i. settings_sound (c.row_at.ensures i) (c.row_at-2.ensures i) (c.row_at-3.ensures i) (c.row_at-4.ensures i))
