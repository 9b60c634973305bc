-- The proof of `bend`: i × angle is below the size of the sweep, since i is below the parts.
use mathlib.Core.Path.{◌≡◌, sym, ap, ◌∙◌, subst}
use mathlib.Core.Bool.{Bool, cond}
use Prim.Native.Nat.{ℕ, ◌*◌, ◌<◌, ◌≤◌}
use native.Mathlib.Omega.{arith}
use lib.IntN.{ℤ, pos, neg_ℤ}
use mir.Syntax.{w64}
use mir.Val.{to_z}
use Rattle.exact.specs.Fit.{Num, m64, sfits, val, num, put, fit, neg, of-nat, lt?-is, sized}
use Rattle.plane.specs.Arc.{parts_of, towards}
use Rattle.plane.proofs.ArcLaws.{bend-inner, bend-last, inner-short}
use Rattle.plane.specs.Bounds.{most_sweep}
use Rattle.placing.proofs.arc.bend.Goals as goal
use Rattle.placing.proofs.arc.bend.Lts
use Rattle.placing.proofs.arc.bend.Tie
use Rattle.placing.proofs.arc.bend.Reads

abbrev After-parts : Type 0
After-parts = Lts.After-parts Tie.the-claims Reads.Pre Reads.Post

abbrev Start : Type 0
Start = Lts.Start Tie.the-claims Reads.Pre Reads.Post

abbrev Then-i-parts : Type 0
Then-i-parts = Lts.Then1 Tie.the-claims Reads.Pre Reads.Post

sweep : (s : Start) → Num (m64 s.args.sweep) s.args.sweep most_sweep
sweep s = val w64 s.requires.0 tt

pub parts-requires : goal.parts-requires
parts-requires c = let s = c in (sized (sweep s) tt, s.requires.1, s.requires.2)

found : (a : After-parts) → let s = a.before in a.parts.result ≡ parts_of s.args.sweep s.args.angle
found a = let s = a.before in a.parts.ensures ∙ ap (λ (z : ℤ). parts_of z s.args.angle) (sweep s).is

abbrev S : Then-i-parts → Start
S c = c.before.before

inner : (c : Then-i-parts) → (S c).args.i < parts_of (S c).args.sweep (S c).args.angle
inner c = subst (λ (n : ℕ). (S c).args.i < n) (found c.before) c.if-i-parts.true

small : (c : Then-i-parts) → (S c).args.i * (S c).args.angle < 3600
small c = omega (arith, inner-short (S c).args.sweep (S c).args.angle (S c).args.i (S c).requires.1 (inner c), (S c).requires.0.bd)

-- whole chord angles, as the code has them
angles : (c : Then-i-parts) → Num (to_z w64 ((S c).args.i * (S c).args.angle)) (pos ((S c).args.i * (S c).args.angle)) 3600
angles c = record { is = of-nat w64 (omega (arith, small c)); size = record { bd = omega (arith, small c) } }

pub overflow_mul-n : goal.overflow_mul-n
overflow_mul-n c = record { fits = omega (arith, small c) }

pub overflow_cast-n : goal.overflow_cast-n
overflow_cast-n c = let t = c in sfits {z = pos ((S t).args.i * (S t).args.angle)} (omega (arith, small t))

pub overflow_sub-result : goal.overflow_sub-result
overflow_sub-result c = let t = c.before in fit w64 (neg (angles t)) tt

pub returns-then-sweep-lt0 : goal.returns-then-sweep-lt0
unfolding towards
returns-then-sweep-lt0 c =
    let t = c.before in
    let s = c.before.before.before in
    let n : ℕ = s.args.i * s.args.angle in
    (put w64 (neg (angles t)) tt).is
    ∙ sym (bend-inner s.args.sweep s.args.angle s.args.i (inner t) ∙ ap (λ (x : Bool). cond x (neg_ℤ (pos n)) (pos n)) (lt?-is (sweep s) (num (pos 0)) c.if-sweep-lt0.true))

pub returns-then-i-parts : goal.returns-then-i-parts
unfolding towards
returns-then-i-parts c =
    let t = c.before in
    let s = c.before.before.before in
    let n : ℕ = s.args.i * s.args.angle in
    (angles t).is
    ∙ sym (bend-inner s.args.sweep s.args.angle s.args.i (inner t) ∙ ap (λ (x : Bool). cond x (neg_ℤ (pos n)) (pos n)) (lt?-is (sweep s) (num (pos 0)) c.if-sweep-lt0.false))

pub returns : goal.returns
returns c =
    let s = c.before.before in
    let a = c.before in
    (sweep s).is ∙ sym (bend-last s.args.sweep s.args.angle s.args.i (subst (λ (n : ℕ). n ≤ s.args.i) (found a) c.if-i-parts.false))
