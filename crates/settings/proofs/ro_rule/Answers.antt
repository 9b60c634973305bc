-- The proof of `ro_rule`: by its count, and the number rounded.
use borrow.Author.Tests.{eq-eqb, ne_eqb}
use mathlib.Core.Path.{◌≡◌, refl, ap, ◌∙◌}
use mir.Syntax.{w64}
use Rattle.exact.specs.Fit.{m64, val, got}
use Rattle.hpgl.specs.Place.{rounded}
use Rattle.hpgl.specs.Rules.{ro_rule}
use Rattle.settings.proofs.ro_rule.Goals as goal
use Rattle.settings.proofs.ro_rule.Lts
use Rattle.settings.proofs.ro_rule.Tie
use Rattle.settings.proofs.ro_rule.Reads

abbrev After-rounded : Type 0
After-rounded = Lts.After-rounded Tie.the-claims Reads.Pre Reads.Post

abbrev Start : Type 0
Start = Lts.Start Tie.the-claims Reads.Pre Reads.Post

abbrev S : After-rounded → Start
S c = search

degrees : (c : After-rounded) → m64 c.rounded.result ≡ rounded (S c).args.n.first
degrees c = got w64 c.rounded.type_inv ∙ c.rounded.ensures ∙ ap rounded (val w64 (S c).requires.1.first tt).is

pub returns-then-n-eq0 : goal.returns-then-n-eq0
unfolding ro_rule
returns-then-n-eq0 c = simp (c.turn_to.ensures, eq-eqb _ _ c.if-n-eq0.true) refl

pub returns : goal.returns
unfolding ro_rule
returns c =
    let a = c.before in
    simp (c.turn_to-2.ensures, ne_eqb _ _ c.if-n-eq0.false, degrees a) refl
