-- The proof of `place`: what each call returned is what the definition has at its place.
use mathlib.Core.Path.{sym, subst}
use lib.IntN.{ℤ, pos}
use mir.Syntax.{w64}
use Rattle.exact.specs.Whole.{◌<ᶻ◌}
use Rattle.exact.specs.Fit.{rd, sized}
use Rattle.clip.specs.Clip.{place}
use Rattle.clip.specs.Axis.{extent-pos}
use Rattle.clip.specs.Sizes.{extent-num, axis-place-is}
use Rattle.clipping.proofs.place.Goals as goal

pub axis_place-x-requires : goal.axis_place-x-requires
axis_place-x-requires c =
    let a = c.requires.0 in
    let b = c.requires.1 in
    let u = extent-num a.y b.y c.extent.type_inv c.extent.ensures in
    (rd w64 a.x, rd w64 b.x, sized u tt, rd w64 c.requires.2, subst (λ (x : ℤ). pos 0 <ᶻ x) (sym u.is) (extent-pos _ _))

pub axis_place-y-requires : goal.axis_place-y-requires
axis_place-y-requires c =
    let a = c.requires.0 in
    let b = c.requires.1 in
    let u = extent-num a.x b.x c.extent-2.type_inv c.extent-2.ensures in
    (rd w64 a.y, rd w64 b.y, sized u tt, rd w64 c.requires.2, subst (λ (x : ℤ). pos 0 <ᶻ x) (sym u.is) (extent-pos _ _))

pub returns : goal.returns
unfolding place
returns c =
    let x = c.before.before.before.before.before.before in
    let y = c in
    let a = c.requires.0 in
    let b = c.requires.1 in
    let ux = extent-num a.x b.x c.extent-2.type_inv c.extent-2.ensures in
    let uy = extent-num a.y b.y c.extent.type_inv c.extent.ensures in
    λ i. record {
      x = axis-place-is a.x b.x uy c.requires.2 x.axis_place-x.type_inv x.axis_place-x.ensures i;
      y = axis-place-is a.y b.y ux c.requires.2 y.axis_place-y.type_inv y.axis_place-y.ensures i;
    }
