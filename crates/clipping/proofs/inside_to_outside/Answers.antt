-- The proof of `inside_to_outside`: the first end is kept, and for the last stands the point where the way back enters.
use Rattle.std.proofs.Common.{sym, ap, ◌∙◌, Some}
use Rattle.clip.proofs.Unclipped.{leaves}
use Rattle.clip.specs.declared.Point.{Point}
use Rattle.clipping.proofs.inside_to_outside.Goals as goal

pub returns : goal.returns
returns c = ap (λ (p : Point). Some (c.args.a, p)) c.edge_point.ensures ∙ sym (leaves _ _ _ c.requires.3)
