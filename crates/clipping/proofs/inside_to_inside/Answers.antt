-- The proof of `inside_to_inside`: of two ends in the box the definition leaves the segment as it is.
use mathlib.Core.Path.{sym}
use Rattle.clip.proofs.Unclipped.{unclipped}
use Rattle.clipping.proofs.inside_to_inside.Goals as goal

pub returns : goal.returns
returns c = sym (unclipped _ _ _ c.requires.0 c.requires.1)
