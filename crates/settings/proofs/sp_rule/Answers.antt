-- The proof of `sp_rule`: a number from 0 to 8 is a pen.
use mathlib.Core.Path.{◌≡◌, refl, ap, ◌∙◌}
use lib.IntN.{ℤ, pos}
use borrow.Author.Tests.{eq-eqb, ne_eqb}
use mir.Syntax.{w8, w64}
use mir.Val.{hbits}
use lib.Signed.{mag}
use Prim.Native.Nat.{◌^◌, ◌<◌}
use Rattle.exact.specs.Whole.{≤?-true}
use Rattle.exact.specs.Fit.{Bd, Num, m64, val, num, ret, within, bd-range, to-nat, le?-is}
use Rattle.plane.specs.Bounds.{most_number, most_point}
use Rattle.hpgl.specs.Place.{rounded}
use Rattle.hpgl.specs.Rules.{sp_rule}
use Rattle.hpgl.proofs.ValidFacts.{rounded-short}
use Rattle.settings.proofs.sp_rule.Goals as goal
use Rattle.settings.proofs.sp_rule.Goals.{else-number-ge0-via-then-number-ge0+else-number-le-MOST_PEN, else-number-ge0-via-else-number-ge0}

-- a number, as it was rounded
number : {n r : ℤ} → Bd n most_number → mag r < 2 ^ hbits w64 → r ≡ rounded (m64 n) → Num (m64 r) (rounded n) most_point
number h f e = ret w64 f (e ∙ ap rounded (val w64 h tt).is) (rounded-short h)

pub returns-then-n-eq0 : goal.returns-then-n-eq0
unfolding sp_rule
returns-then-n-eq0 c = simp (c.set_pen.ensures, eq-eqb _ _ c.if-n-eq0.true) refl

pub overflow_cast-number : goal.overflow_cast-number
overflow_cast-number c =
    let a = number c.requires.first c.rounded-number.type_inv c.rounded-number.ensures in
    let lo = ≤?-true _ _ (le?-is (num (pos 0)) a c.if-number-ge0.true) in
    let hi = ≤?-true _ _ (le?-is a (num (pos 8)) c.if-number-le-MOST_PEN.true) in
    to-nat w64 w8 (within a (bd-range lo hi)) lo tt

pub returns-then-number-le-MOST_PEN : goal.returns-then-number-le-MOST_PEN
unfolding sp_rule
returns-then-number-le-MOST_PEN c =
    let a = number c.requires.first c.rounded-number.type_inv c.rounded-number.ensures in
    simp (
      c.set_pen-then-number-le-MOST_PEN.ensures,
      ne_eqb _ _ c.if-n-eq0.false,
      le?-is (num (pos 0)) a c.if-number-ge0.true,
      le?-is a (num (pos 8)) c.if-number-le-MOST_PEN.true,
      a.is,
    )
    refl

pub returns-else-number-ge0 : goal.returns-else-number-ge0
unfolding sp_rule
returns-else-number-ge0 c =
    let a = number c.requires.first c.rounded-number.type_inv c.rounded-number.ensures in
    let n = ne_eqb _ _ c.if-n-eq0.false in
    elim c.else-number-ge0.branch [
      | else-number-ge0-via-then-number-ge0+else-number-le-MOST_PEN w ↦
          simp (c.refuse.ensures, n, le?-is (num (pos 0)) a w.if-number-ge0.true, le?-is a (num (pos 8)) w.if-number-le-MOST_PEN.false) refl
      | else-number-ge0-via-else-number-ge0 w ↦ simp (c.refuse.ensures, n, le?-is (num (pos 0)) a w.if-number-ge0.false) refl
    ]
