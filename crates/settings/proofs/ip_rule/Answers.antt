-- The proof of `ip_rule`: a number that is rounded is short, so that P2 may be carried.
use mathlib.Core.Path.{refl, sym, subst}
use borrow.Author.Tests.{eq-eqb, ne_eqb}
use Rattle.reader.specs.Sizes.{SmallPair}
use Rattle.hpgl.specs.Rules.{fresh_settings, ip_rule}
use Rattle.hpgl.proofs.ValidFacts.{rounded-short}
use Rattle.settings.proofs.ip_rule.Goals as goal

pub returns-then-n-eq0 : goal.returns-then-n-eq0
unfolding ip_rule fresh_settings
returns-then-n-eq0 c =
    simp (c.set_corners.ensures, c.left_bottom.ensures, c.right_top.ensures, eq-eqb _ _ c.if-n-eq0.true) refl

pub rounded_corner-p-requires : goal.rounded_corner-p-requires
rounded_corner-p-requires c = subst SmallPair (sym c.first_two.ensures) (record { x = c.requires.1.first; y = c.requires.1.second })

pub carried-requires : goal.carried-requires
carried-requires c =
    (c.requires.0.settings, rw (c.rounded_corner-p.ensures, c.first_two.ensures) (record { x = rounded-short c.requires.1.first; y = rounded-short c.requires.1.second }))

pub returns-then-n-eq2 : goal.returns-then-n-eq2
unfolding ip_rule
returns-then-n-eq2 c =
    simp (c.set_corners-then-n-eq2.ensures, c.carried.ensures, c.rounded_corner-p.ensures, c.first_two.ensures, ne_eqb _ _ c.if-n-eq0.false, eq-eqb _ _ c.if-n-eq2.true) refl

pub rounded_corner-requires : goal.rounded_corner-requires
rounded_corner-requires c = subst SmallPair (sym c.last_two.ensures) (record { x = c.requires.1.third; y = c.requires.1.fourth })

pub returns : goal.returns
unfolding ip_rule
returns c =
    simp (c.set_corners-2.ensures, c.rounded_corner.ensures, c.last_two.ensures, c.rounded_corner-p.ensures, c.first_two.ensures, ne_eqb _ _ c.if-n-eq0.false, ne_eqb _ _ c.if-n-eq2.false) refl
