-- The proof of `shift`: by its test; what a pair aims at may be located, and a location that was found in range may be turned.
use mathlib.Core.Path.{refl, sym, ap, ◌∙◌}
use Rattle.hpgl.specs.Rules.{refuse, go_to, pair_rule}
use Rattle.hpgl.proofs.ValidFacts.{in-range-small}
use Rattle.rulekit.specs.Hand.{line_of, location_in, location-in}
use Rattle.rulekit.specs.Locating.{aim-needs, aim-locatable}
use Rattle.shapes.proofs.moves.shift.Goals as goal

pub aimed-p-requires : goal.aimed-p-requires
aimed-p-requires c = let k = aim-needs c.requires.0.parts c.requires.1 in record { axis_bounds = k.0; bd = k.1 }

pub located_in-to-requires : goal.located_in-to-requires
located_in-to-requires c =
    let w = c.requires.0 in
    aim-locatable w.parts c.requires.1 (c.aimed-p.ensures w.parts.settings w.polygon w.parts.frame)

pub move_to-requires : goal.move_to-requires
move_to-requires c = (c.requires.0, in-range-small (sym c.reachable.ensures ∙ c.if-reachable.true), c.requires.2)

pub returns-then-reachable : goal.returns-then-reachable
unfolding pair_rule go_to
returns-then-reachable c =
    let r = c.move_to.ensures in record {
      result_value = λ s g e m.
          let to = c.located_in-to.ensures ∙ location-in s c.aimed-p.result e in
          r.result_value s g e to
          ∙ simp (← c.aimed-p.ensures s g e, ← to, ← c.reachable.ensures, c.if-reachable.true, m) refl;
      here_value = r.here_value.0 ∙ c.located_in-to.ensures ∙ ap (location_in c.args.f) (sym r.here_value.1);
    }

pub returns : goal.returns
unfolding pair_rule go_to refuse line_of
returns c =
    record {
      result_value = λ s g e m.
          let to = c.located_in-to.ensures ∙ location-in s c.aimed-p.result e in
          simp (← c.aimed-p.ensures s g e, ← to, ← c.reachable.ensures, c.if-reachable.false) refl;
      here_value = c.requires.2;
    }
