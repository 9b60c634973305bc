-- Case by case: a write failed before; what this one came to.
use mathlib.Core.Path.{refl}
use native.Mathlib.Omega.{arith}
use Rattle.output.proofs.flush.Goals as goal

pub returns-then-used-gt-ROOM : goal.returns-then-used-gt-ROOM
returns-then-used-gt-ROOM c = record { written = λ h. absurd (omega (arith, h)); failed = λ h. refl }

pub returns : goal.returns
returns c = record { written = λ h. c.write_front.ensures; failed = λ h. absurd (omega (arith, h)) }
