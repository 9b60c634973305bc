-- Case by case: there is room, a write failed, a full buffer was written out.
use mathlib.Core.Logic.{inl, inr}
use mathlib.Core.Path.{refl}
use native.Mathlib.Omega.{arith}
use Rattle.output.proofs.put_byte.Goals as goal

pub returns-then-used-lt-ROOM : goal.returns-then-used-lt-ROOM
returns-then-used-lt-ROOM c = record { fits = λ h. (refl, refl); full = λ h. absurd (omega (arith, h)); failed = λ h. absurd (omega (arith, h)) }

pub returns-then-end-gt-ROOM : goal.returns-then-end-gt-ROOM
returns-then-end-gt-ROOM c =
    record { fits = λ h. absurd (omega (arith, h)); full = λ h. inr (omega arith, refl); failed = λ h. (c.flush-end.ensures.failed h, refl) }

pub returns : goal.returns
returns c =
    record {
      fits = λ h. absurd (omega (arith, h));
      full = λ h. inl (refl, refl);
      failed = λ h. absurd (omega (arith, h, c.flush-end.ensures.failed h));
    }
