-- The proof of `counted`.
use borrow.Author.Rules.{rules}
use mathlib.Core.Path.{refl, sym}
use lib.IntN.{pos, ◌+ℤ◌, ◌*ℤ◌}
use mir.Syntax.{w64}
use mir.Val.{SFits}
use Rattle.exact.specs.Fit.{arg, num, le?-is, m64, Num, put, fit, val, ◌⊕◌, ◌⊗◌}
use Rattle.soundness.proofs.carriage.counted.Goals as goal
use Rattle.soundness.proofs.carriage.counted.Lts
use Rattle.soundness.proofs.carriage.counted.Reads

abbrev Start : Type 0
Start = Lts.Start Reads.Pre Reads.Post

fits-b : (s : Start) → SFits w64 s.args.r.b
fits-b s = search rules

total : (s : Start) → Num (m64 (pos 11 +ℤ m64 (pos 9 *ℤ m64 s.args.r.c))) (pos 11 +ℤ pos 9 *ℤ s.args.r.c) 9000011
total s = put w64 (num (pos 11) ⊕ put w64 (num (pos 9) ⊗ val w64 s.requires tt) tt) tt

pub overflow_mul-result : goal.overflow_mul-result
overflow_mul-result c = fit w64 (num (pos 9) ⊗ val w64 c.requires tt) tt

pub overflow_add-result : goal.overflow_add-result
overflow_add-result c = fit w64 (num (pos 11) ⊕ put w64 (num (pos 9) ⊗ val w64 c.requires tt) tt) tt

pub returns : goal.returns
returns c =
    let s = c.before.before.before.before in
    sym (le?-is (total s) (arg w64 (fits-b s)) refl)
