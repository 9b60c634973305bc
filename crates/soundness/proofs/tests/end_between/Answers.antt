-- The proof of `end_between`.
use borrow.Author.Rules.{rules}
use mathlib.Core.Path.{sym, ◌∙◌}
use mir.Syntax.{w64}
use mir.Val.{SFits}
use Rattle.soundness.proofs.Pairs.{pairs, read}
use Rattle.soundness.proofs.tests.end_between.Goals as goal
use Rattle.soundness.proofs.tests.end_between.Lts
use Rattle.soundness.proofs.tests.end_between.Tie
use Rattle.soundness.proofs.tests.end_between.Reads

abbrev Start : Type 0
Start = Lts.Start Tie.the-claims Reads.Pre Reads.Post

its-d : (s : Start) → SFits w64 s.args.low.d × SFits w64 s.args.r.d × SFits w64 s.args.high.d
its-d s = (search rules, search rules, search rules)

its-e : (s : Start) → SFits w64 s.args.low.e × SFits w64 s.args.r.e × SFits w64 s.args.high.e
its-e s = (search rules, search rules, search rules)

pub returns-then-inside : goal.returns-then-inside
returns-then-inside c =
    let s : Start = search in
    let d = its-d s in
    let e = its-e s in
    rw (pairs _ _ _ _, sym (c.inside.ensures ∙ read d.0 d.1 d.2) ∙ c.if-inside.true) (c.inside-then-inside.ensures ∙ read e.0 e.1 e.2)

pub returns-else-inside : goal.returns-else-inside
returns-else-inside c =
    let s : Start = search in
    let d = its-d s in
    rw (pairs _ _ _ _, sym (c.inside.ensures ∙ read d.0 d.1 d.2) ∙ c.if-inside.false) c.if-inside.false
