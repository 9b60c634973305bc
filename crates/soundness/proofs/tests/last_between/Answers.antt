-- The proof of `last_between`.
use borrow.Author.Rules.{rules}
use mathlib.Core.Path.{sym, ◌∙◌}
use mir.Syntax.{w64}
use mir.Val.{SFits}
use Rattle.wellformed.specs.Sound.{last_below}
use Rattle.soundness.proofs.Pairs.{pairs, read}
use Rattle.soundness.proofs.tests.last_between.Goals as goal
use Rattle.soundness.proofs.tests.last_between.Lts
use Rattle.soundness.proofs.tests.last_between.Tie
use Rattle.soundness.proofs.tests.last_between.Reads

abbrev Start : Type 0
Start = Lts.Start Tie.the-claims Reads.Pre Reads.Post

its-c : (s : Start) → SFits w64 s.args.low.c × SFits w64 s.args.r.c × SFits w64 s.args.high.c
its-c s = (search rules, search rules, search rules)

pub returns-then-inside : goal.returns-then-inside
unfolding last_below
returns-then-inside c =
    let s : Start = search in
    let d = its-c s in
    rw (pairs _ _ _ _, sym (c.inside.ensures ∙ read d.0 d.1 d.2) ∙ c.if-inside.true) c.end_between.ensures

pub returns-else-inside : goal.returns-else-inside
unfolding last_below
returns-else-inside c =
    let s : Start = search in
    let d = its-c s in
    rw (pairs _ _ _ _, sym (c.inside.ensures ∙ read d.0 d.1 d.2) ∙ c.if-inside.false) c.if-inside.false
