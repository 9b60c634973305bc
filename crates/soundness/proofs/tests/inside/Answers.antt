-- The proof of `inside`.
use borrow.Author.Rules.{rules}
use mathlib.Core.Path.{refl, sym}
use mir.Syntax.{w64}
use mir.Val.{SFits}
use Rattle.exact.specs.Fit.{arg, le?-is}
use Rattle.soundness.proofs.tests.inside.Goals as goal
use Rattle.soundness.proofs.tests.inside.Lts
use Rattle.soundness.proofs.tests.inside.Reads

abbrev Start : Type 0
Start = Lts.Start Reads.Pre Reads.Post

low : (s : Start) → SFits w64 s.args.low
low s = search rules

here : (s : Start) → SFits w64 s.args.z
here s = search rules

high : (s : Start) → SFits w64 s.args.high
high s = search rules

pub returns-then-low-z : goal.returns-then-low-z
returns-then-low-z c =
    let s : Start = search in
    rw (le?-is (arg w64 (low s)) (arg w64 (here s)) c.if-low-z.true) (sym (le?-is (arg w64 (here s)) (arg w64 (high s)) refl))

pub returns-else-low-z : goal.returns-else-low-z
returns-else-low-z c =
    let s : Start = search in
    rw (le?-is (arg w64 (low s)) (arg w64 (here s)) c.if-low-z.false) c.if-low-z.false
