-- The proof of `pm_rule`: by its tests of the rounded number, which the machine makes on its bits.
use Prim.Native.Nat.{◌^◌}
use mathlib.Core.Path.{◌≡◌, refl, sym, ap, ◌∙◌}
use lib.Dec.{T, ltb, eqb}
use lib.IntN.{ℤ, pos, nat_abs}
use mir.Syntax.{w64}
use mir.Val.{of_z, hbits}
use borrow.Author.Tests.{eq-eqb, ne_eqb}
use Rattle.exact.specs.Fit.{val, lit, fits, eq-bits}
use Rattle.exact.specs.Whole.{◌≡?◌}
use Rattle.hpgl.specs.Place.{rounded}
use Rattle.hpgl.specs.Rules.{pm_rule}
use Rattle.shapes.proofs.polygons.pm_rule.Goals as goal
use Rattle.shapes.proofs.polygons.pm_rule.Lts
use Rattle.shapes.proofs.polygons.pm_rule.Tie
use Rattle.shapes.proofs.polygons.pm_rule.Reads

abbrev After-rounded-which : Type 0
After-rounded-which = Lts.After-rounded Tie.the-claims Reads.Pre Reads.Post

abbrev Start : Type 0
Start = Lts.Start Tie.the-claims Reads.Pre Reads.Post

abbrev S : After-rounded-which → Start
S c = c.before.before.before.before

-- whether the rounded number is z
test : (c : After-rounded-which) (z : ℤ) → T (ltb (nat_abs z) (2 ^ hbits w64)) → (rounded (S c).args.n.first ≡? z) ≡ eqb (of_z w64 c.rounded-which.result) (of_z w64 z)
unfolding ◌≡?◌
test c z t =
    let r = c.rounded-which.ensures ∙ ap rounded (val w64 (S c).requires.1.first tt).is in
    ap (λ (x : ℤ). x ≡? z) (sym r) ∙ sym (eq-bits {w = w64} {a = c.rounded-which.result} (record { sfits = c.rounded-which.type_inv }) (fits (lit z) t))

pub returns-then-n-eq0 : goal.returns-then-n-eq0
unfolding pm_rule
returns-then-n-eq0 c = simp (c.pm0.ensures, eq-eqb _ _ c.if-n-eq0.true) refl

pub returns-then-which-eq0 : goal.returns-then-which-eq0
unfolding pm_rule
returns-then-which-eq0 c =
    simp (c.pm0-then-which-eq0.ensures, ne_eqb _ _ c.if-n-eq0.false, test (search) (pos 0) tt, eq-eqb _ _ c.if-which-eq0.true) refl

pub returns-then-which-eq1 : goal.returns-then-which-eq1
unfolding pm_rule
returns-then-which-eq1 c =
    simp (
      c.pm1.ensures,
      ne_eqb _ _ c.if-n-eq0.false,
      test (search) (pos 0) tt,
      ne_eqb _ _ c.if-which-eq0.false,
      test (search) (pos 1) tt,
      eq-eqb _ _ c.if-which-eq1.true,
    )
    refl

pub returns-then-which-eq2 : goal.returns-then-which-eq2
unfolding pm_rule
returns-then-which-eq2 c =
    simp (
      c.pm2.ensures,
      ne_eqb _ _ c.if-n-eq0.false,
      test (search) (pos 0) tt,
      ne_eqb _ _ c.if-which-eq0.false,
      test (search) (pos 1) tt,
      ne_eqb _ _ c.if-which-eq1.false,
      test (search) (pos 2) tt,
      eq-eqb _ _ c.if-which-eq2.true,
    )
    refl

pub returns : goal.returns
unfolding pm_rule
returns c =
    simp (
      c.refuse.ensures,
      ne_eqb _ _ c.if-n-eq0.false,
      test (search) (pos 0) tt,
      ne_eqb _ _ c.if-which-eq0.false,
      test (search) (pos 1) tt,
      ne_eqb _ _ c.if-which-eq1.false,
      test (search) (pos 2) tt,
      ne_eqb _ _ c.if-which-eq2.false,
    )
    refl
