-- The proof of `work_here`.
use mathlib.Core.Path.{◌∙◌}
use Rattle.wellformed.specs.Sound.{work_sound}
use Rattle.soundness.proofs.work_here.Goals as goal

pub returns : goal.returns
returns c =
    c.work_sound.ensures ∙ (λ i. work_sound (c.row_at.ensures i) (c.row_at-2.ensures i) (c.row_at-3.ensures i) (c.row_at-4.ensures i))
