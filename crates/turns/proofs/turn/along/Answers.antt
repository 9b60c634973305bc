-- The proof of `along`: a number of the table is at most 1 in size, so nothing grows beyond twice a coordinate.
use mir.Syntax.{w64}
use Rattle.exact.specs.Fit.{val, put, fit, ◌⊕◌, ◌⊗◌}
use Rattle.turns.proofs.turn.along.Goals as goal

pub overflow_mul-result : goal.overflow_mul-result
overflow_mul-result c = fit w64 (val w64 c.requires.0 tt ⊗ val w64 c.requires.2.x tt) tt

pub overflow_mul-result-2 : goal.overflow_mul-result-2
overflow_mul-result-2 c = fit w64 (val w64 c.requires.1 tt ⊗ val w64 c.requires.2.y tt) tt

pub overflow_add-result : goal.overflow_add-result
overflow_add-result c =
    fit w64 (put w64 (val w64 c.requires.0 tt ⊗ val w64 c.requires.2.x tt) tt ⊕ put w64 (val w64 c.requires.1 tt ⊗ val w64 c.requires.2.y tt) tt) tt

pub returns : goal.returns
returns c =
    (put w64 (put w64 (val w64 c.requires.0 tt ⊗ val w64 c.requires.2.x tt) tt ⊕ put w64 (val w64 c.requires.1 tt ⊗ val w64 c.requires.2.y tt) tt) tt).is
