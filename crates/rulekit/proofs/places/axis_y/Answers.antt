-- The proof of `axis_y`: each number that is passed on has its bound.
use mathlib.Core.Path.{◌∙◌}
use mir.Syntax.{w64}
use Rattle.exact.specs.Fit.{val}
use Rattle.plane.specs.Position.{axis_of}
use Rattle.hpgl.specs.Place.{axis_y}
use Rattle.rulekit.proofs.places.axis_y.Goals as goal

pub returns : goal.returns
unfolding axis_y
returns c =
    let p = (val w64 c.requires.p1.y tt).is in
    let q = (val w64 c.requires.p2.y tt).is in
    let l = (val w64 c.requires.y.min tt).is in
    let m = (val w64 c.requires.y.max tt).is in
    c.axis_of.ensures ∙ (λ i. axis_of c.args.s.scale.on (p i) (q i) (l i) (m i))
