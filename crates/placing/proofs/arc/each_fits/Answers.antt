-- The proof of `each_fits`: the vertices that are left to test decide the whole.
use mathlib.Core.Path.{◌≡◌, sym, ap, ◌∙◌}
use mathlib.Core.Bool.{Bool, true, ◌&&◌}
use Prim.Native.Nat.{ℕ, suc, ◌+◌, ◌-◌, ◌≤◌, ◌<◌}
use native.Mathlib.Omega.{arith}
use lib.IntN.{ℤ}
use mir.Syntax.{w64}
use Rattle.exact.specs.Fit.{arg, got}
use Rattle.plane.specs.declared.circle.Way.{Way}
use Rattle.plane.specs.declared.circle.Centre.{Centre}
use Rattle.plane.specs.Circle.{point_from_centre}
use Rattle.plane.specs.Arc.{bend_of, both_in_range, fits_from}
use Rattle.placing.proofs.arc.each_fits.Goals as goal

module _ (cx cy : Centre) (w : Way) (sweep : ℤ) (a end i : ℕ) where
  -- a vertex is tested, which answers t, and those after it are left
  one_more : {t : Bool} → i < end → both_in_range (point_from_centre cx cy w (bend_of sweep a i)) ≡ t →
      fits_from cx cy w sweep a i (end - i) ≡ t && fits_from cx cy w sweep a (i + 1) (end - (i + 1))
  unfolding fits_from
  one_more h e =
      let less : end - i ≡ suc (end - (i + 1)) = omega arith in
      ap (fits_from cx cy w sweep a i) less ∙ ap (λ (t : Bool). t && fits_from cx cy w sweep a (i + 1) (end - (i + 1))) e

  -- no vertex is left
  all : end ≤ i → true ≡ fits_from cx cy w sweep a i (end - i)
  unfolding fits_from
  all h = let none : 0 ≡ end - i = omega arith in ap (fits_from cx cy w sweep a i) none

  -- the sweep as it was handed over
  read : {z : ℤ} → sweep ≡ z → fits_from cx cy w sweep a end i ≡ fits_from cx cy w z a end i
  read e = ap (λ (x : ℤ). fits_from cx cy w x a end i) e

pub returns-then-not-both_in_range : goal.returns-then-not-both_in_range
returns-then-not-both_in_range c =
    let a = c.args in
    let tested = c.both_in_range.ensures ∙ ap both_in_range (c.vertex_point.ensures ∙ ap (point_from_centre a.cx a.cy a.w) (got w64 c.bend.type_inv ∙ c.bend.ensures)) in
    sym (one_more a.cx a.cy a.w _ a.angle _ c.loop-i.i (omega arith) (sym tested ∙ c.if-not-both_in_range.true)) ∙ c.loop-i.invariant
    ∙ read a.cx a.cy a.w _ a.angle a.from a.many (arg w64 c.ranges.sweep).is

pub loop-i-preserved : goal.loop-i-preserved
loop-i-preserved c =
    let a = c.args in
    let tested = c.both_in_range.ensures ∙ ap both_in_range (c.vertex_point.ensures ∙ ap (point_from_centre a.cx a.cy a.w) (got w64 c.bend.type_inv ∙ c.bend.ensures)) in
    sym (one_more a.cx a.cy a.w _ a.angle _ c.loop-i.i (omega arith) (sym tested ∙ c.if-not-both_in_range.false)) ∙ c.loop-i.invariant

pub returns : goal.returns
returns c =
    let a = c.args in
    all a.cx a.cy a.w _ a.angle _ c.loop-i.i (omega arith) ∙ c.loop-i.invariant ∙ read a.cx a.cy a.w _ a.angle a.from a.many (arg w64 c.ranges.sweep).is
