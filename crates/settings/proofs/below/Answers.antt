-- The proof of `below`: by its two tests.
use borrow.Author.Rules.{rules}
use mathlib.Core.Path.{refl, sym}
use mir.Syntax.{w64}
use mir.Val.{SFits}
use Rattle.exact.specs.Fit.{arg, lt?-is, signed64}
use Rattle.settings.proofs.below.Goals as goal

pub returns-then-p-q : goal.returns-then-p-q
returns-then-p-q c =
    let px : SFits w64 c.args.p.x = search rules in
    let qx : SFits w64 c.args.q.x = search rules in
    let py : SFits w64 c.args.p.y = search rules in
    let qy : SFits w64 c.args.q.y = search rules in
    rw (lt?-is (arg w64 px) (arg w64 qx) c.if-p-q.true) (sym (lt?-is (arg w64 py) (arg w64 qy) refl))

pub returns-else-p-q : goal.returns-else-p-q
returns-else-p-q c = search (rules, signed64)
