-- The proof of `reader_here`.
use mathlib.Core.Path.{◌∙◌}
use Rattle.wellformed.specs.Sound.{reader_sound}
use Rattle.soundness.proofs.reader_here.Goals as goal

pub returns : goal.returns
returns c =
    c.reader_sound.ensures ∙ (λ i. reader_sound (c.row_at.ensures i) (c.row_at-2.ensures i) (c.row_at-3.ensures i))
