-- The proof of `from_to`.
use mathlib.Core.Path.{refl, sym}
use mir.Syntax.{w64}
use Rattle.exact.specs.Fit.{arg, le?-is}
use Rattle.shapes.proofs.circles.from_to.Goals as goal

pub returns-then-least-n : goal.returns-then-least-n
returns-then-least-n c =
    rw (le?-is (arg w64 c.ranges.least) (arg w64 c.ranges.n) c.if-least-n.true) (sym (le?-is (arg w64 c.ranges.n) (arg w64 c.ranges.most) refl))

pub returns-else-least-n : goal.returns-else-least-n
returns-else-least-n c =
    rw (le?-is (arg w64 c.ranges.least) (arg w64 c.ranges.n) c.if-least-n.false) c.if-least-n.false
