-- The proof of `chords`: the definition as it stands.
use mathlib.Core.Path.{refl}
use Rattle.plane.specs.Circle.{chords_of}
use Rattle.placing.proofs.circle.chords.Goals as goal

pub returns : goal.returns
unfolding chords_of
returns c = refl
