-- The definition is that of `narrow`.
use borrow.Author.Rules.{rules}
use mathlib.Core.Path.{◌∙◌}
use mir.Syntax.{w64}
use mir.Val.{SFits}
use Rattle.exact.specs.Fit.{arg}
use Rattle.measure.specs.Root.{narrow_of}
use Rattle.counting.specs.Verdict.{lower_of}
use Rattle.counting.proofs.verdict.lower.Goals as goal

pub returns : goal.returns
unfolding lower_of
returns c =
    let k : SFits w64 c.args.r.bottom = search rules in
    let l : SFits w64 c.args.r.top = search rules in
    let m : SFits w64 c.args.sheet.bottom = search rules in
    let n : SFits w64 c.args.sheet.top = search rules in
    c.narrow.ensures ∙ (λ i. narrow_of ((arg w64 k).is i) ((arg w64 l).is i) ((arg w64 m).is i) ((arg w64 n).is i))
