-- The proof of `axis_x`: each number that is passed on has its bound.
use mathlib.Core.Path.{◌∙◌}
use mir.Syntax.{w64}
use Rattle.exact.specs.Fit.{val}
use Rattle.plane.specs.Position.{axis_of}
use Rattle.hpgl.specs.Place.{axis_x}
use Rattle.rulekit.proofs.places.axis_x.Goals as goal

pub returns : goal.returns
unfolding axis_x
returns c =
    let p = (val w64 c.requires.p1.x tt).is in
    let q = (val w64 c.requires.p2.x tt).is in
    let l = (val w64 c.requires.x.min tt).is in
    let m = (val w64 c.requires.x.max tt).is in
    c.axis_of.ensures ∙ (λ i. axis_of c.args.s.scale.on (p i) (q i) (l i) (m i))
