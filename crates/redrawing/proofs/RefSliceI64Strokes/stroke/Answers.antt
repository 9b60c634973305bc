-- Five numbers for each.
use Rattle.std.proofs.Common.{sym, ◌∙◌, arith}
use Rattle.redrawing.specs.RedrawingLaws.{numbers-long, numbers-nth}
use Rattle.redrawing.proofs.RefSliceI64Strokes.stroke.Goals as goal

pub stroke_at-requires : goal.stroke_at-requires
stroke_at-requires c = omega (arith, c.requires, numbers-long c.args.self.now.now)

pub returns : goal.returns
returns c = c.stroke_at.ensures ∙ sym (numbers-nth c.args.self.now.now c.args.i c.requires)
