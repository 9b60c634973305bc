-- The proof of `point`: by its test; what a pair aims at may be located.
use mathlib.Core.Path.{refl, ◌∙◌}
use Rattle.hpgl.specs.Rules.{go_to, pair_rule}
use Rattle.rulekit.specs.Hand.{pointed_of, location-in}
use Rattle.rulekit.specs.Locating.{aim-needs, aim-locatable}
use Rattle.shapes.proofs.moves.point.Goals as goal

pub aimed-p-requires : goal.aimed-p-requires
aimed-p-requires c = let k = aim-needs c.requires.0.parts c.requires.1 in record { axis_bounds = k.0; bd = k.1 }

pub located_in-to-requires : goal.located_in-to-requires
located_in-to-requires c =
    let w = c.requires.0 in
    aim-locatable w.parts c.requires.1 (c.aimed-p.ensures w.parts.settings w.polygon w.parts.frame)

pub store_point-requires : goal.store_point-requires
store_point-requires c = c.requires.3

pub returns-then-reachable : goal.returns-then-reachable
unfolding pair_rule go_to
returns-then-reachable c =
    let r = c.store_point.ensures in record {
      result_value = λ s g e m n.
          let to = c.located_in-to.ensures ∙ location-in s c.aimed-p.result e in
          r.result_value s g (c.requires.2 ∙ location-in s c.args.h.position e) to n
          ∙ simp (← c.aimed-p.ensures s g e, ← to, ← c.reachable.ensures, c.if-reachable.true, m) refl;
      here_value = r.here_value c.args.f c.requires.2 c.located_in-to.ensures;
    }

pub returns : goal.returns
unfolding pair_rule go_to pointed_of
returns c =
    record {
      result_value = λ s g e m n.
          let to = c.located_in-to.ensures ∙ location-in s c.aimed-p.result e in
          simp (← c.aimed-p.ensures s g e, ← to, ← c.reachable.ensures, c.if-reachable.false) refl;
      here_value = c.requires.2;
    }
