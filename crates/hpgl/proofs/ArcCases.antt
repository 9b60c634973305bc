-- AA and AR by cases, for claims about `arc_about`: carried out, with what was judged before, or refused with 6, or with 3. A claim goes through here and not through the
-- tests.
use Rattle.std.specs.Prelude.{◌≡◌, true, nat_abs}
use Rattle.reader.specs.declared.Numbers.{Numbers}
use Rattle.plane.specs.Arc.{way_fits, arc_fits}
use Rattle.hpgl.specs.declared.Position.{Position}
use Rattle.hpgl.specs.declared.Core.{Core}
use Rattle.hpgl.specs.declared.Circle.{Circle}
use Rattle.hpgl.specs.declared.Acted.{Acted}
use Rattle.hpgl.specs.Numbers.{out_of_range, too_far}
use Rattle.hpgl.specs.Rules.{refuse, good_angle, good_sweep, swept_angle, arc_angle, way_from, arc, follow, arc_by, arc_about}
use Rattle.hpgl.proofs.Cases.{whether}

-- the arc about q that the numbers n ask for
abbrev pub arc_of : Core → Position → Numbers → Circle
arc_of c q n = arc c q (swept_angle n) (nat_abs (arc_angle n))

-- what was judged of one that is carried out
pub record Passed (c : Core) (q : Position) (n : Numbers) : Type 0 where
  pub sweep : good_sweep (swept_angle n) ≡ true
  pub angle : good_angle (arc_angle n) ≡ true
  pub way : way_fits (way_from c q) ≡ true
  pub vertices : let o = arc_of c q n in arc_fits o.x o.y o.radius o.sweep o.angle ≡ true

pub by-arc : (c : Core) (q : Position) (n : Numbers) (P : Acted → Type 0) → (Passed c q n → P (follow c (arc_of c q n))) → P (refuse c too_far) → P (refuse c out_of_range) →
    P (arc_about c q n)
unfolding arc_about arc_by arc
by-arc c q n P carried far range =
    let o : Circle = arc_of c q n in
    whether P (good_sweep (swept_angle n))
    (λ d. whether P (good_angle (arc_angle n))
    (λ e. whether P (way_fits o.radius)
    (λ f. whether P (arc_fits o.x o.y o.radius o.sweep o.angle) (λ g. carried (record { sweep = d; angle = e; way = f; vertices = g })) (λ g. far)) (λ f. range))
    (λ e. range))
    (λ d. range)
