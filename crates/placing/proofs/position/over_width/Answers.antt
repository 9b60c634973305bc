-- The proof of `over_width`: the width is what was tested, and each way divides by it.
use mathlib.Core.Path.{ap, ap₂, sym, ◌∙◌}
use mir.Syntax.{w64}
use mir.Val.{to_z}
use Rattle.exact.specs.Divide.{nearest_div}
use Rattle.exact.specs.Fit.{val, sized, got, bd-lit, ne-lit}
use Rattle.placing.proofs.position.over_width.Goals as goal

pub nearest_div-requires : goal.nearest_div-requires
nearest_div-requires c = (sized (val w64 c.requires.0 tt) tt, (bd-lit tt, ne-lit tt))

pub returns-then-width-eq-UNSCALED : goal.returns-then-width-eq-UNSCALED
returns-then-width-eq-UNSCALED c =
    got w64 c.nearest_div.type_inv ∙ c.nearest_div.ensures ∙ ap₂ nearest_div (val w64 c.requires.0 tt).is (sym (ap (to_z w64) c.if-width-eq-UNSCALED.true) ∙ (val w64 c.requires.1.0 tt).is)

pub nearest_div-requires-2 : goal.nearest_div-requires-2
nearest_div-requires-2 c =
    let w = val w64 c.requires.1.0 tt in
    (sized (val w64 c.requires.0 tt) tt, (sized w tt, (λ e. c.requires.1.1 (sym w.is ∙ e))))

pub returns : goal.returns
returns c =
    got w64 c.nearest_div-2.type_inv ∙ c.nearest_div-2.ensures ∙ ap₂ nearest_div (val w64 c.requires.0 tt).is (val w64 c.requires.1.0 tt).is
