-- The proof of `millimetres`: the number that the cast reads from its bits is the number, and no product loses anything (proofs/Floats.antt).
use mathlib.Core.Path.{ap₂, ◌∙◌}
use lib.IntN.{ℤ}
use lib.Ieee.{binary32, mul, of_int, Float}
use mir.Facts.{to_z-of_z}
use Rattle.exact.specs.Int16.{int16-size}
use Rattle.drive.proofs.Floats.{in-float, times-pitch}
use Rattle.drive.proofs.millimetres.Goals as goal

pub int_to_float-result : goal.int_to_float-result
int_to_float-result c = rw (to_z-of_z c.ranges.units) (in-float (int16-size c.args.units c.requires.0))

pub returns : goal.returns
returns c =
    let s = c.before.before in
    ap₂ (λ (y : ℤ) (p : Float). mul binary32 (of_int binary32 y) p) (to_z-of_z s.ranges.units) c.pitch_of.ensures
    ∙ times-pitch s.args.units s.args.code (int16-size s.args.units s.requires.0)
