-- The proof of `axis_of`: each difference is at most twice its parts.
use mathlib.Core.Path.{refl}
use mir.Syntax.{w64}
use Rattle.exact.specs.Fit.{val, put, fit, ◌⊖◌}
use Rattle.plane.specs.Position.{axis_of}
use Rattle.placing.proofs.position.axis_of.Goals as goal

pub overflow_sub-result : goal.overflow_sub-result
overflow_sub-result c = fit w64 (val w64 c.requires.1 tt ⊖ val w64 c.requires.0 tt) tt

pub overflow_sub-result-then-scaled : goal.overflow_sub-result-then-scaled
overflow_sub-result-then-scaled c = fit w64 (val w64 c.requires.3 tt ⊖ val w64 c.requires.2 tt) tt

pub returns-then-scaled : goal.returns-then-scaled
unfolding axis_of
returns-then-scaled c =
    let o = (val w64 c.requires.0 tt).is in
    let l = (val w64 c.requires.2 tt).is in
    let d = (put w64 (val w64 c.requires.1 tt ⊖ val w64 c.requires.0 tt) tt).is in
    let w = (put w64 (val w64 c.requires.3 tt ⊖ val w64 c.requires.2 tt) tt).is in
    rw c.if-scaled.true (λ i. record { origin = o i; least = l i; span = d i; width = w i })

pub returns : goal.returns
unfolding axis_of
returns c = rw c.if-scaled.false refl
