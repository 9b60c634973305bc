-- The proof of `ends_fit`: the distance is at most 655,360,000, and scaled it is a way that a vertex may have.
use mathlib.Core.Path.{◌≡◌, refl, sym, ap, ◌∙◌}
use native.Mathlib.Omega.{arith}
use lib.IntN.{pos, neg_ℤ, ◌-ℤ◌, ◌*ℤ◌}
use mir.Syntax.{w64}
use mir.Val.{to_z}
use Rattle.exact.specs.Fit.{Num, m64, num, put, fit, neg, of-nat, sized, got, ◌⊗◌}
use Rattle.plane.specs.Arc.{ends_fit}
use Rattle.plane.specs.Circle.{from_centre}
use Rattle.plane.specs.Position.{in_range_of}
use Rattle.placing.proofs.arc.ends_fit.Goals as goal
use Rattle.placing.proofs.arc.ends_fit.Lts
use Rattle.placing.proofs.arc.ends_fit.Tie
use Rattle.placing.proofs.arc.ends_fit.Reads

abbrev After-in_range : Type 0
After-in_range = Lts.After-in_range Tie.the-claims Reads.Pre Reads.Post

abbrev Start : Type 0
Start = Lts.Start Tie.the-claims Reads.Pre Reads.Post

distance : (s : Start) → Num (to_z w64 s.args.distance) (pos s.args.distance) 655360000
distance s = record { is = of-nat w64 (omega (arith, s.requires.1)); size = record { bd = omega (arith, s.requires.1) } }

forth : (s : Start) → Num (m64 (to_z w64 s.args.distance *ℤ pos 100000)) (pos s.args.distance *ℤ pos 100000) 65536000000000
forth s = put w64 (distance s ⊗ num (pos 100000)) tt

back : (s : Start) → Num (m64 (m64 (pos 0 -ℤ to_z w64 s.args.distance) *ℤ pos 100000)) (neg_ℤ (pos s.args.distance) *ℤ pos 100000) 65536000000000
back s = put w64 (put w64 (neg (distance s)) tt ⊗ num (pos 100000)) tt

pub overflow_mul-t : goal.overflow_mul-t
overflow_mul-t c = let s = c in fit w64 (distance s ⊗ num (pos 100000)) tt

pub vertex-requires : goal.vertex-requires
vertex-requires c = let s = c in (s.requires.0, sized (forth s) tt)

pub overflow_sub-t : goal.overflow_sub-t
overflow_sub-t c = let s = c.before.before.before in fit w64 (neg (distance s)) tt

pub overflow_mul-t-then-in_range : goal.overflow_mul-t-then-in_range
overflow_mul-t-then-in_range c = let s = c.before.before.before in fit w64 (put w64 (neg (distance s)) tt ⊗ num (pos 100000)) tt

pub vertex-requires-then-in_range : goal.vertex-requires-then-in_range
vertex-requires-then-in_range c = let s = c.before.before.before in (s.requires.0, sized (back s) tt)

-- the first test, as it was found
tested : (a : After-in_range) → let s = a.before.before in a.in_range.result ≡ in_range_of (from_centre s.args.c (pos s.args.distance *ℤ pos 100000))
tested a =
    let s = a.before.before in
    a.in_range.ensures ∙ ap in_range_of (got w64 a.vertex.type_inv ∙ a.vertex.ensures ∙ ap (from_centre s.args.c) (forth s).is)

pub returns-then-in_range : goal.returns-then-in_range
unfolding ends_fit
returns-then-in_range c =
    let s = c.before.before.before.before.before in
    let a = c.before.before.before in
    rw (sym (tested a) ∙ c.if-in_range.true) (c.in_range-then-in_range.ensures ∙ ap in_range_of (got w64 c.vertex-then-in_range.type_inv ∙ c.vertex-then-in_range.ensures ∙ ap (from_centre s.args.c) (back s).is))

pub returns-else-in_range : goal.returns-else-in_range
unfolding ends_fit
returns-else-in_range c =
    let a = c.before in
    c.if-in_range.false ∙ rw (sym (tested a) ∙ c.if-in_range.false) refl
