-- The proof of `first_between`.
use borrow.Author.Rules.{rules}
use mathlib.Core.Path.{sym, ◌∙◌}
use mir.Syntax.{w64}
use mir.Val.{SFits}
use Rattle.wellformed.specs.Sound.{first_below}
use Rattle.soundness.proofs.Pairs.{pairs, read}
use Rattle.soundness.proofs.tests.first_between.Goals as goal
use Rattle.soundness.proofs.tests.first_between.Lts
use Rattle.soundness.proofs.tests.first_between.Tie
use Rattle.soundness.proofs.tests.first_between.Reads

abbrev Start : Type 0
Start = Lts.Start Tie.the-claims Reads.Pre Reads.Post

its-a : (s : Start) → SFits w64 s.args.low.a × SFits w64 s.args.r.a × SFits w64 s.args.high.a
its-a s = (search rules, search rules, search rules)

its-b : (s : Start) → SFits w64 s.args.low.b × SFits w64 s.args.r.b × SFits w64 s.args.high.b
its-b s = (search rules, search rules, search rules)

pub returns-then-inside : goal.returns-then-inside
unfolding first_below
returns-then-inside c =
    let s : Start = search in
    let a = its-a s in
    let b = its-b s in
    rw (pairs _ _ _ _, sym (c.inside.ensures ∙ read a.0 a.1 a.2) ∙ c.if-inside.true) (c.inside-then-inside.ensures ∙ read b.0 b.1 b.2)

pub returns-else-inside : goal.returns-else-inside
unfolding first_below
returns-else-inside c =
    let s : Start = search in
    let a = its-a s in
    rw (pairs _ _ _ _, sym (c.inside.ensures ∙ read a.0 a.1 a.2) ∙ c.if-inside.false) c.if-inside.false
