-- The proof of `vertex_point`: the rotated way, and the vertex on each axis.
use mathlib.Core.Path.{◌≡◌, sym, subst, ap, ◌∙◌}
use lib.IntN.{ℤ}
use mir.Syntax.{w64}
use Rattle.exact.specs.Fit.{Bd, Num, m64, arg, val, same, sized, got}
use Rattle.plane.specs.declared.circle.Way.{Way}
use Rattle.plane.specs.Bounds.{most_way}
use Rattle.plane.specs.Circle.{rotated_of, from_centre, point_from_centre}
use Rattle.plane.proofs.CircleLaws.{rotated-size}
use Rattle.placing.proofs.circle.vertex_point.Goals as goal
use Rattle.placing.proofs.circle.vertex_point.Lts
use Rattle.placing.proofs.circle.vertex_point.Tie
use Rattle.placing.proofs.circle.vertex_point.Reads

abbrev After-rotated-t : Type 0
After-rotated-t = Lts.After-rotated Tie.the-claims Reads.Pre Reads.Post

way : (c : After-rotated-t) → c.rotated-t.result ≡ rotated_of c.args.w c.args.angle
way c = c.rotated-t.ensures ∙ ap (rotated_of c.args.w) (arg w64 c.ranges.angle).is

-- either part of it
part : (c : After-rotated-t) (f : Way → ℤ) → Bd (f (rotated_of c.args.w c.args.angle)) most_way →
    Num (m64 (f c.rotated-t.result)) (f (rotated_of c.args.w c.args.angle)) most_way
part c f z = same (val w64 (subst (λ (x : Way). Bd (f x) most_way) (sym (way c)) z) tt) (ap f (way c))

u-num : (c : After-rotated-t) → Num (m64 c.rotated-t.result.u) (rotated_of c.args.w c.args.angle).u most_way
u-num c = part c (λ (x : Way). x.u) (rotated-size c.args.w c.args.angle c.requires.2).0

v-num : (c : After-rotated-t) → Num (m64 c.rotated-t.result.v) (rotated_of c.args.w c.args.angle).v most_way
v-num c = part c (λ (x : Way). x.v) (rotated-size c.args.w c.args.angle c.requires.2).1

pub vertex-x-requires : goal.vertex-x-requires
vertex-x-requires c = let a = c.before.before in (a.requires.0, sized (u-num a) tt)

pub vertex-y-requires : goal.vertex-y-requires
vertex-y-requires c = let a = c.before.before.before.before in (a.requires.1, sized (v-num a) tt)

pub returns : goal.returns
unfolding point_from_centre
returns c =
    let a = c.before.before.before.before.before in
    let x = c.before.before.before in
    let ex = got w64 x.vertex-x.type_inv ∙ x.vertex-x.ensures ∙ ap (from_centre a.args.cx) (u-num a).is in
    let ey = got w64 c.vertex-y.type_inv ∙ c.vertex-y.ensures ∙ ap (from_centre a.args.cy) (v-num a).is in
    λ i. record { x = ex i; y = ey i }
