-- The proof of `ea_rule`: what a pair of numbers gives may be located.
use mathlib.Core.Path.{refl}
use Rattle.hpgl.specs.Rules.{ea_rule}
use Rattle.hpgl.proofs.ValidFacts.{absolute-locatable}
use Rattle.rulekit.specs.Locating.{first-two-small}
use Rattle.shapes.proofs.polygons.ea_rule.Goals as goal

pub absolute_position-requires : goal.absolute_position-requires
absolute_position-requires c =
    rw c.first_two.ensures (c.requires.0.settings, first-two-small c.requires.1)

pub rectangle_to-requires : goal.rectangle_to-requires
rectangle_to-requires c =
    rw (c.absolute_position.ensures, c.first_two.ensures)
    (c.requires.0, absolute-locatable c.requires.0.settings (first-two-small c.requires.1))

pub returns : goal.returns
unfolding ea_rule
returns c = simp (c.rectangle_to.ensures, c.absolute_position.ensures, c.first_two.ensures) refl
