-- The proof of `vertex_angle`: i × angle is below 3600, since i is below the chords.
use borrow.Author.Tests.{lt-ltb, le-ltb}
use mathlib.Core.Path.{refl, subst}
use Prim.Native.Nat.{ℕ, ◌*◌, ◌<◌, ◌≤◌}
use native.Mathlib.Omega.{arith}
use lib.IntN.{pos}
use mir.Syntax.{w64}
use Rattle.exact.specs.Fit.{sfits, of-nat}
use Rattle.plane.specs.Circle.{chords_of, angle_of}
use Rattle.plane.proofs.CircleLaws.{angle-law}
use Rattle.placing.proofs.circle.vertex_angle.Goals as goal
use Rattle.placing.proofs.circle.vertex_angle.Lts
use Rattle.placing.proofs.circle.vertex_angle.Tie
use Rattle.placing.proofs.circle.vertex_angle.Reads

abbrev Start : Type 0
Start = Lts.Start Tie.the-claims Reads.Pre Reads.Post

abbrev Then-i-chords : Type 0
Then-i-chords = Lts.Then1 Tie.the-claims Reads.Pre Reads.Post

abbrev S : Then-i-chords → Start
S c = c.before.before

below : (c : Then-i-chords) → (S c).args.i < chords_of (S c).args.angle
below c = subst (λ (n : ℕ). (S c).args.i < n) c.chords.ensures c.if-i-chords.true

small : (c : Then-i-chords) → (S c).args.i * (S c).args.angle < 3600
small c = angle-law (S c).args.angle (S c).args.i (S c).requires.0 (below c)

pub overflow_mul-result : goal.overflow_mul-result
overflow_mul-result c = record { fits = omega (arith, small c) }

pub overflow_cast-result : goal.overflow_cast-result
overflow_cast-result c = sfits {z = pos ((S c).args.i * (S c).args.angle)} (omega (arith, small c))

pub returns-then-i-chords : goal.returns-then-i-chords
unfolding angle_of
returns-then-i-chords c = rw (lt-ltb (S c).args.i (chords_of (S c).args.angle) (below c)) (of-nat w64 (omega (arith, small c)))

pub returns-else-i-chords : goal.returns-else-i-chords
unfolding angle_of
returns-else-i-chords c =
    rw (le-ltb c.args.i (chords_of c.args.angle) (subst (λ (n : ℕ). n ≤ c.args.i) c.chords.ensures c.if-i-chords.false)) refl
