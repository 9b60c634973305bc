-- The proof of `carriage_of`: by its parts.
use mathlib.Core.Path.{refl}
use Rattle.saved.specs.Saved.{carriage_of}
use Rattle.saving.proofs.carriage.carriage_of.Goals as goal

pub returns : goal.returns
unfolding carriage_of
returns c =
    simp (c.position_of.ensures, c.pen_of.ensures, c.flag_in.ensures, c.polygon_of.ensures, c.memory_of.ensures) refl
