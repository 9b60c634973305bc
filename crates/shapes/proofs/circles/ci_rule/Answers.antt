-- The proof of `ci_rule`.
use mathlib.Core.Path.{◌∙◌}
use mir.Syntax.{w64}
use Rattle.exact.specs.Fit.{val, got}
use Rattle.hpgl.specs.Rules.{circle_with, ci_rule}
use Rattle.shapes.proofs.circles.ci_rule.Goals as goal

pub returns : goal.returns
unfolding ci_rule
returns c =
    let er = val w64 c.requires.1.first tt in
    let ea = got w64 c.chord_angle.type_inv ∙ c.chord_angle.ensures in
    c.circle_with.ensures ∙ (λ i. circle_with c.args.c (er.is i) (ea i))
