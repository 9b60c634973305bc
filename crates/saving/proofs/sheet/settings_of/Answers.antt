-- The proof of `settings_of`: by its parts.
use mathlib.Core.Path.{refl}
use Rattle.saved.specs.Saved.{settings_of}
use Rattle.saving.proofs.sheet.settings_of.Goals as goal

pub returns : goal.returns
unfolding settings_of
returns c =
    simp (c.box_of.ensures, c.from_of.ensures, c.to_of.ensures, c.flag_in.ensures, c.range_x.ensures, c.range_y.ensures, c.turn_in.ensures, c.flag_in-2.ensures, c.box_of-2.ensures) refl
