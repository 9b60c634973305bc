-- The proof of `absolute`: a number less the least is at most twice a number.
use mir.Syntax.{w64}
use Rattle.exact.specs.Fit.{val, put, fit, ◌⊖◌}
use Rattle.plane.specs.Position.{absolute_of}
use Rattle.placing.proofs.position.absolute.Goals as goal

pub overflow_sub-result : goal.overflow_sub-result
overflow_sub-result c = fit w64 (val w64 c.requires.1 tt ⊖ val w64 c.requires.0.least tt) tt

pub returns : goal.returns
unfolding absolute_of
returns c =
    let b = (val w64 c.requires.0.origin tt).is in
    let o = (put w64 (val w64 c.requires.1 tt ⊖ val w64 c.requires.0.least tt) tt).is in
    λ i. record { base = b i; offset = o i }
