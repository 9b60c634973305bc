-- The proof of `both_in_range`: by the test of each.
use borrow.Author.Rules.{rules}
use mathlib.Core.Path.{◌≡◌, refl, sym, ap, ◌∙◌}
use mir.Syntax.{w64}
use mir.Val.{SFits}
use Rattle.exact.specs.Fit.{arg}
use Rattle.plane.specs.Arc.{both_in_range}
use Rattle.plane.specs.Position.{in_range_of}
use Rattle.placing.proofs.arc.both_in_range.Goals as goal
use Rattle.placing.proofs.arc.both_in_range.Lts
use Rattle.placing.proofs.arc.both_in_range.Tie
use Rattle.placing.proofs.arc.both_in_range.Reads

abbrev After-in_range : Type 0
After-in_range = Lts.After-in_range Tie.the-claims Reads.Pre Reads.Post

-- the first test, as it was found
tested : (a : After-in_range) → let s = a.before.before in a.in_range.result ≡ in_range_of a.args.p.x
tested a =
    let f : SFits w64 a.args.p.x = search rules in
    a.in_range.ensures ∙ ap in_range_of (arg w64 f).is

pub returns-then-in_range : goal.returns-then-in_range
unfolding both_in_range
returns-then-in_range c =
    let a = c.before.before.before in
    let f : SFits w64 c.args.p.y = search rules in
    rw (sym (tested a) ∙ c.if-in_range.true) (c.in_range-then-in_range.ensures ∙ ap in_range_of (arg w64 f).is)

pub returns-else-in_range : goal.returns-else-in_range
unfolding both_in_range
returns-else-in_range c =
    let a = c.before in
    c.if-in_range.false ∙ rw (sym (tested a) ∙ c.if-in_range.false) refl
