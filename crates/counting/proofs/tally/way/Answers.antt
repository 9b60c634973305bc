-- The definition is that of `length`.
use borrow.Author.Rules.{rules}
use mathlib.Core.Path.{◌∙◌}
use mir.Syntax.{w64}
use mir.Val.{SFits}
use Rattle.exact.specs.Fit.{arg}
use Rattle.measure.specs.Root.{squares, tenths_of}
use Rattle.counting.specs.Tally.{way_of}
use Rattle.counting.proofs.tally.way.Goals as goal

pub returns : goal.returns
unfolding way_of
returns c =
    let ax : SFits w64 c.args.a.x = search rules in
    let ay : SFits w64 c.args.a.y = search rules in
    let bx : SFits w64 c.args.b.x = search rules in
    let by : SFits w64 c.args.b.y = search rules in
    c.length.ensures ∙ (λ i. tenths_of (squares ((arg w64 ax).is i) ((arg w64 ay).is i) ((arg w64 bx).is i) ((arg w64 by).is i)))
