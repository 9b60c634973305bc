-- Five numbers for each.
use Rattle.std.proofs.Common.{sym}
use Rattle.redrawing.specs.RedrawingLaws.{numbers-long}
use Rattle.redrawing.proofs.RefSliceI64Strokes.count.Goals as goal

pub returns : goal.returns
returns c = sym (numbers-long c.args.self.now.now)
