-- The proof of `carriage_here`.
use mathlib.Core.Path.{sym, ◌∙◌, subst}
use Rattle.hpgl.specs.Valid.{ValidSettings}
use Rattle.wellformed.specs.Sound.{carriage_sound}
use Rattle.soundness.proofs.carriage_here.Goals as goal

pub carriage_sound-requires : goal.carriage_sound-requires
carriage_sound-requires c = subst ValidSettings (sym c.settings_at.ensures) c.requires.1

pub returns : goal.returns
returns c =
    c.carriage_sound.ensures ∙ (λ i. carriage_sound (c.settings_at.ensures i) (c.row_at.ensures i) (c.row_at-2.ensures i) (c.row_at-3.ensures i) (c.row_at-4.ensures i) (c.row_at-5.ensures i) (c.row_at-6.ensures i))
