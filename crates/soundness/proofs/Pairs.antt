-- The tests of a row against two others, taken by numbers in place of by rows.
use mathlib.Core.Path.{◌≡◌, refl}
use mathlib.Core.Bool.{Bool, true, false, ◌&&◌}
use lib.IntN.{ℤ}
use mir.Syntax.{w64}
use mir.Val.{SFits}
use Rattle.exact.specs.Whole.{◌≤?◌}
use Rattle.exact.specs.Fit.{m64, arg}

pub pairs : (a b c d : Bool) → (a && b) && (c && d) ≡ (a && c) && (b && d)
pairs true true c d = refl
pairs true false true d = refl
pairs true false false d = refl
pairs false b c d = refl

-- what `inside` is handed, read back
pub read : {x y z : ℤ} → SFits w64 x → SFits w64 y → SFits w64 z → (m64 x ≤? m64 y) && (m64 y ≤? m64 z) ≡ (x ≤? y) && (y ≤? z)
read f g h = λ i. ((arg w64 f).is i ≤? (arg w64 g).is i) && ((arg w64 g).is i ≤? (arg w64 h).is i)
