-- The proof of `plus`: each sum is small.
use Prim.Native.Nat.{◌+◌}
use lib.IntN.{ℤ, ◌+ℤ◌}
use mir.Syntax.{w64}
use Rattle.exact.specs.Fit.{Bd, Num, m64, val, put, fit, ◌⊕◌}
use Rattle.seal.specs.Columns.{most_column, plus_of}
use Rattle.seal.proofs.plus.Goals as goal
use Rattle.seal.proofs.plus.Lts
use Rattle.seal.proofs.plus.Reads

abbrev Start : Type 0
Start = Lts.Start Reads.Pre Reads.Post

both : {x y : ℤ} → Bd x most_column → Bd y most_column → Num (m64 x +ℤ m64 y) (x +ℤ y) (most_column + most_column)
both h k = val w64 h tt ⊕ val w64 k tt

pub overflow_add-result : goal.overflow_add-result
overflow_add-result c = fit w64 (both c.requires.0.a c.requires.1.a) tt

pub overflow_add-result-2 : goal.overflow_add-result-2
overflow_add-result-2 c = fit w64 (both c.requires.0.b c.requires.1.b) tt

pub overflow_add-result-3 : goal.overflow_add-result-3
overflow_add-result-3 c = fit w64 (both c.requires.0.c c.requires.1.c) tt

pub overflow_add-result-4 : goal.overflow_add-result-4
overflow_add-result-4 c = let s : Start = c.before.before.before.before.before.before.before.before.before.before.before.before.before.before.before.before.before in fit w64 (both s.requires.0.d s.requires.1.d) tt

pub overflow_add-result-5 : goal.overflow_add-result-5
overflow_add-result-5 c = let s : Start = c.before.before.before.before.before.before.before.before.before.before.before.before.before.before.before.before.before.before.before.before in fit w64 (both s.requires.0.e s.requires.1.e) tt

pub returns : goal.returns
unfolding plus_of
returns c =
    let s : Start = c.before.before.before.before.before.before.before.before.before.before.before.before.before.before.before.before.before.before.before.before in
    let h = s.requires.0 in
    let k = s.requires.1 in
    λ i. record {
      a = (put w64 (both h.a k.a) tt).is i;
      b = (put w64 (both h.b k.b) tt).is i;
      c = (put w64 (both h.c k.c) tt).is i;
      d = (put w64 (both h.d k.d) tt).is i;
      e = (put w64 (both h.e k.e) tt).is i;
    }
