-- Edge by edge.
use borrow.Author.Rules.{rules}
use mathlib.Core.Path.{◌∙◌}
use mir.Syntax.{w64}
use mir.Val.{SFits}
use Rattle.exact.specs.Fit.{arg, got}
use Rattle.turns.specs.Turn.{lesser_of, greater_of}
use Rattle.counting.specs.Tally.{joined_of}
use Rattle.counting.proofs.tally.joined.Goals as goal

pub returns : goal.returns
unfolding joined_of
returns c =
    let al : SFits w64 c.args.a.left = search rules in
    let ar : SFits w64 c.args.a.right = search rules in
    let ab : SFits w64 c.args.a.bottom = search rules in
    let at : SFits w64 c.args.a.top = search rules in
    let bl : SFits w64 c.args.b.left = search rules in
    let br : SFits w64 c.args.b.right = search rules in
    let bb : SFits w64 c.args.b.bottom = search rules in
    let bt : SFits w64 c.args.b.top = search rules in
    let el = got w64 c.lesser.type_inv ∙ c.lesser.ensures ∙ (λ i. lesser_of ((arg w64 al).is i) ((arg w64 bl).is i)) in
    let eb = got w64 c.lesser-2.type_inv ∙ c.lesser-2.ensures ∙ (λ i. lesser_of ((arg w64 ab).is i) ((arg w64 bb).is i)) in
    let er = got w64 c.greater.type_inv ∙ c.greater.ensures ∙ (λ i. greater_of ((arg w64 ar).is i) ((arg w64 br).is i)) in
    let et = got w64 c.greater-2.type_inv ∙ c.greater-2.ensures ∙ (λ i. greater_of ((arg w64 at).is i) ((arg w64 bt).is i)) in
    λ i. record { left = el i; bottom = eb i; right = er i; top = et i }
