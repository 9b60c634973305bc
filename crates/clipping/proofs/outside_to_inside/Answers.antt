-- The proof of `outside_to_inside`: the last end is kept, and for the first stands the point where the way enters.
use Rattle.std.proofs.Common.{sym, ap, ◌∙◌, Some}
use Rattle.clip.proofs.Unclipped.{enters}
use Rattle.clip.specs.declared.Point.{Point}
use Rattle.clipping.proofs.outside_to_inside.Goals as goal

pub returns : goal.returns
returns c = ap (λ (p : Point). Some (p, c.args.b)) c.edge_point.ensures ∙ sym (enters _ _ _ c.requires.3)
