-- The proof of `aa_rule`: what a pair of numbers gives may be located.
use mathlib.Core.Path.{refl}
use Rattle.hpgl.specs.Rules.{aa_rule}
use Rattle.hpgl.proofs.ValidFacts.{absolute-locatable}
use Rattle.rulekit.specs.Locating.{first-two-small}
use Rattle.shapes.proofs.arcs.aa_rule.Goals as goal

pub absolute_position-requires : goal.absolute_position-requires
absolute_position-requires c =
    rw c.first_two.ensures (c.requires.0.settings, first-two-small c.requires.1)

pub arc_about-requires : goal.arc_about-requires
arc_about-requires c =
    rw (c.absolute_position.ensures, c.first_two.ensures)
    (c.requires.0, absolute-locatable c.requires.0.settings (first-two-small c.requires.1), c.requires.1)

pub returns : goal.returns
unfolding aa_rule
returns c = simp (c.arc_about.ensures, c.absolute_position.ensures, c.first_two.ensures) refl
