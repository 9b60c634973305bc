-- The proof of `sum_below`.
use borrow.Author.Rules.{rules}
use mathlib.Core.Path.{refl, sym}
use mir.Syntax.{w64}
use mir.Val.{SFits}
use Rattle.exact.specs.Fit.{arg, le?-is, put, fit, val, ◌⊕◌}
use Rattle.soundness.proofs.tests.sum_below.Goals as goal
use Rattle.soundness.proofs.tests.sum_below.Lts
use Rattle.soundness.proofs.tests.sum_below.Reads

abbrev Start : Type 0
Start = Lts.Start Reads.Pre Reads.Post

fits-a : (s : Start) → SFits w64 s.args.high.a
fits-a s = search rules

pub overflow_add-result : goal.overflow_add-result
overflow_add-result c = fit w64 (val w64 c.requires.0 tt ⊕ val w64 c.requires.1 tt) tt

pub returns : goal.returns
returns c =
    let s = c.before.before.before.before in
    sym (le?-is (put w64 (val w64 s.requires.0 tt ⊕ val w64 s.requires.1 tt) tt) (arg w64 (fits-a s)) refl)
