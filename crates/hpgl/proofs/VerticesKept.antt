-- CI, AA and AR keep the core valid, and so is the circle that each hands on. Why: CI's four points were found in range, and so all its vertices are (`circle-valid`); of an
-- arc each vertex was found so (`arc-valid`), the last among them, where it leaves the position.
use Rattle.std.specs.Prelude.{◌&&◌, ℤ, pos}
use Rattle.std.proofs.Common.{arith}
use Rattle.exact.specs.Whole.{◌≤?◌}
use Rattle.exact.specs.Fit.{Bd}
use Rattle.reader.specs.declared.Numbers.{Numbers}
use Rattle.reader.specs.Sizes.{Small}
use Rattle.plane.specs.Bounds.{most_number, most_angle}
use Rattle.hpgl.specs.declared.Position.{Position}
use Rattle.hpgl.specs.declared.Circle.{Circle}
use Rattle.hpgl.specs.declared.Action.TheVariants.{Chords}
use Rattle.hpgl.specs.declared.Core.{Core}
use Rattle.hpgl.specs.Numbers.{out_of_range, too_far, least_angle}
use Rattle.hpgl.specs.Rules.{done, inked, circle_fits, circle_with, chord_angle, ci_rule, swept_angle, arc_angle, follow, arc_about, aa_rule, ar_rule}
use Rattle.hpgl.specs.Valid.{LocatablePosition, ValidCore, ValidAction, WholeCircle, ValidActed}
use Rattle.hpgl.proofs.ValidFacts.{from-to, rest-placed, absolute-locatable, relative-locatable, circle-valid, arc-valid, last-small}
use Rattle.hpgl.proofs.Cases.{pick, whether}
use Rattle.hpgl.proofs.ArcCases.{by-arc}
use Rattle.hpgl.proofs.KeptCases.{valid-core, with-ink, down-with-ink, refuses, acts}

pub valid-circle : {c : Core} {r : ℤ} (a : ℤ) → ValidCore c → Bd r most_number → ValidActed c (circle_with c r a)
unfolding circle_with
valid-circle {c} {r} a w h =
    whether (ValidActed c) ((pos least_angle ≤? a) && (a ≤? pos most_angle))
    (λ e. let b = from-to least_angle most_angle a e in
    whether (ValidActed c) (circle_fits c r)
    (λ f. acts c _ _ (pick (ValidAction c.carriage.polygon.edges) (inked c) (circle-valid w h b.1 b.2 f) tt) w (with-ink c _))
    (λ f. refuses c c too_far (omega arith) w))
    (λ e. refuses c c out_of_range (omega arith) w)

pub valid-ci : {c : Core} {n : Numbers} → ValidCore c → Small n → ValidActed c (ci_rule c n)
unfolding ci_rule
valid-ci {n = n} w h = valid-circle (chord_angle n) w h.first

-- ---- arcs

-- outside polygon mode, where alone AA and AR are known, nothing is asked of the position for the polygon's sake
valid-follow : {c : Core} {o : Circle} → ValidCore c → WholeCircle o → ValidActed c (follow c o)
unfolding follow done inked
valid-follow {c} {o} w h =
    let d : Core = (follow c o).core in
    acts c d _ (pick (ValidAction c.carriage.polygon.edges) (c.carriage.pen.down && inked c) h tt)
    (valid-core {d = d} w.settings (rest-placed w.settings (last-small h)) w.pen w.polygon w.memory) (down-with-ink d c.carriage.pen.down (Chords o))

valid-arc : {c : Core} {q : Position} (n : Numbers) → ValidCore c → LocatablePosition c.settings q → ValidActed c (arc_about c q n)
valid-arc {c} {q} n w k =
    by-arc c q n (ValidActed c)
    (λ p. let a = from-to least_angle most_angle (arc_angle n) p.angle in valid-follow w (arc-valid (swept_angle n) w k p.sweep a.1 a.2 p.way p.vertices))
    (refuses c c too_far (omega arith) w) (refuses c c out_of_range (omega arith) w)

pub valid-aa : {c : Core} {n : Numbers} → ValidCore c → Small n → ValidActed c (aa_rule c n)
unfolding aa_rule
valid-aa {n = n} w h = valid-arc n w (absolute-locatable w.settings (record { x = h.first; y = h.second }))

pub valid-ar : {c : Core} {n : Numbers} → ValidCore c → Small n → ValidActed c (ar_rule c n)
unfolding ar_rule
valid-ar {n = n} w h = valid-arc n w (relative-locatable w.settings w.position (record { x = h.first; y = h.second }))
