-- The proof of `rotated`: a part of the way is at most 327,680,000, and a sine at most 100,000.
use mathlib.Core.Path.{ap, ◌∙◌}
use mir.Syntax.{w64}
use Rattle.exact.specs.Fit.{Num, m64, arg, val, put, fit, ret, ◌⊕◌, ◌⊖◌, ◌⊗◌}
use Rattle.sines.specs.Angle.{sine_of, cosine_of}
use Rattle.sines.proofs.Quarters.{sine-size, cosine-size}
use Rattle.plane.specs.Circle.{rotated_of}
use Rattle.placing.proofs.circle.rotated.Goals as goal
use Rattle.placing.proofs.circle.rotated.Lts
use Rattle.placing.proofs.circle.rotated.Tie
use Rattle.placing.proofs.circle.rotated.Reads

abbrev After-cosine-c : Type 0
After-cosine-c = Lts.After-cosine Tie.the-claims Reads.Pre Reads.Post

abbrev After-sine-s : Type 0
After-sine-s = Lts.After-sine Tie.the-claims Reads.Pre Reads.Post

abbrev Start : Type 0
Start = Lts.Start Tie.the-claims Reads.Pre Reads.Post

cosine : (x : After-cosine-c) → Num (m64 x.cosine-c.result) (cosine_of x.args.angle) 100000
cosine x =
    let s : Start = x.before.before in
    ret w64 x.cosine-c.type_inv (x.cosine-c.ensures ∙ ap cosine_of (arg w64 s.ranges.angle).is) (cosine-size s.args.angle)

sine : (x : After-sine-s) → Num (m64 x.sine-s.result) (sine_of x.args.angle) 100000
sine x =
    let s : Start = x.before.before.before in
    ret w64 x.sine-s.type_inv (x.sine-s.ensures ∙ ap sine_of (arg w64 s.ranges.angle).is) (sine-size s.args.angle)

pub overflow_mul-result : goal.overflow_mul-result
overflow_mul-result c = let x = c.before.before.before in fit w64 (val w64 x.requires.0.u tt ⊗ cosine x.before) tt

pub overflow_mul-result-2 : goal.overflow_mul-result-2
overflow_mul-result-2 c = let x = c.before.before.before.before.before in fit w64 (val w64 x.requires.0.v tt ⊗ sine x) tt

pub overflow_sub-result : goal.overflow_sub-result
overflow_sub-result c =
    let x = c.before.before.before.before.before in
    let p = x.requires.0 in
    fit w64 (put w64 (val w64 p.u tt ⊗ cosine x.before) tt ⊖ put w64 (val w64 p.v tt ⊗ sine x) tt) tt

pub overflow_mul-result-3 : goal.overflow_mul-result-3
overflow_mul-result-3 c = let x = c.before.before.before.before.before.before.before in fit w64 (val w64 x.requires.0.u tt ⊗ sine x) tt

pub overflow_mul-result-4 : goal.overflow_mul-result-4
overflow_mul-result-4 c = let x = c.before.before.before.before.before.before.before.before.before in fit w64 (val w64 x.requires.0.v tt ⊗ cosine x.before) tt

pub overflow_add-result : goal.overflow_add-result
overflow_add-result c =
    let x = c.before.before.before.before.before.before.before.before.before in
    let p = x.requires.0 in
    fit w64 (put w64 (val w64 p.u tt ⊗ sine x) tt ⊕ put w64 (val w64 p.v tt ⊗ cosine x.before) tt) tt

pub returns : goal.returns
unfolding rotated_of
returns c =
    let x = c.before.before.before.before.before.before.before.before.before in
    let p = x.requires.0 in
    let eu = (put w64 (put w64 (val w64 p.u tt ⊗ cosine x.before) tt ⊖ put w64 (val w64 p.v tt ⊗ sine x) tt) tt).is in
    let ev = (put w64 (put w64 (val w64 p.u tt ⊗ sine x) tt ⊕ put w64 (val w64 p.v tt ⊗ cosine x.before) tt) tt).is in
    λ i. record { u = eu i; v = ev i }
