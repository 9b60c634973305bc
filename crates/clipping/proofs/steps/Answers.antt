-- The proof of `steps`: two extents, and their product fits.
use mir.Syntax.{w64}
use Rattle.exact.specs.Fit.{put, fit, ◌⊗◌}
use Rattle.clip.specs.Clip.{steps}
use Rattle.clip.specs.Sizes.{extent-num}
use Rattle.clipping.proofs.steps.Goals as goal

pub overflow_mul-result : goal.overflow_mul-result
overflow_mul-result c =
    fit w64 (extent-num c.requires.0.x c.requires.1.x c.extent.type_inv c.extent.ensures ⊗ extent-num c.requires.0.y c.requires.1.y c.extent-2.type_inv c.extent-2.ensures) tt

pub returns : goal.returns
unfolding steps
returns c =
    (put w64 (extent-num c.requires.0.x c.requires.1.x c.extent.type_inv c.extent.ensures ⊗ extent-num c.requires.0.y c.requires.1.y c.extent-2.type_inv c.extent-2.ensures) tt).is
