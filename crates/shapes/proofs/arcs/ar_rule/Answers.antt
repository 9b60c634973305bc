-- The proof of `ar_rule`: what a pair of numbers gives may be located.
use mathlib.Core.Path.{refl}
use Rattle.hpgl.specs.Rules.{ar_rule}
use Rattle.hpgl.proofs.ValidFacts.{placed-offset, relative-locatable}
use Rattle.rulekit.specs.Locating.{first-two-small}
use Rattle.shapes.proofs.arcs.ar_rule.Goals as goal

pub relative_position-requires : goal.relative_position-requires
relative_position-requires c =
    let h = placed-offset c.requires.0.settings c.requires.0.position in
    rw c.first_two.ensures (h.0, h.1, first-two-small c.requires.1)

pub arc_about-requires : goal.arc_about-requires
arc_about-requires c =
    rw (c.relative_position.ensures, c.first_two.ensures)
    (c.requires.0, relative-locatable c.requires.0.settings c.requires.0.position (first-two-small c.requires.1), c.requires.1)

pub returns : goal.returns
unfolding ar_rule
returns c = simp (c.arc_about.ensures, c.relative_position.ensures, c.first_two.ensures) refl
