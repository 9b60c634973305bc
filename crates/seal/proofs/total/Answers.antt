-- The proof of `total`: each sum is small.
use Prim.Native.Nat.{◌*◌}
use lib.IntN.{◌+ℤ◌}
use mir.Syntax.{w64}
use Rattle.exact.specs.Fit.{Num, m64, val, put, fit, ◌⊕◌}
use Rattle.seal.specs.Columns.{most_column, total_of}
use Rattle.seal.proofs.total.Goals as goal
use Rattle.seal.proofs.total.Lts
use Rattle.seal.proofs.total.Reads

abbrev Start : Type 0
Start = Lts.Start Reads.Pre Reads.Post

module _ (s : Start) where
  its-b : Num (m64 s.args.r.a +ℤ m64 s.args.r.b) (s.args.r.a +ℤ s.args.r.b) (most_column * 2)
  its-b = val w64 s.requires.a tt ⊕ val w64 s.requires.b tt

  its-c : Num (m64 (m64 s.args.r.a +ℤ m64 s.args.r.b) +ℤ m64 s.args.r.c) (s.args.r.a +ℤ s.args.r.b +ℤ s.args.r.c) (most_column * 3)
  its-c = put w64 its-b tt ⊕ val w64 s.requires.c tt

  its-d : Num (m64 (m64 (m64 s.args.r.a +ℤ m64 s.args.r.b) +ℤ m64 s.args.r.c) +ℤ m64 s.args.r.d) (s.args.r.a +ℤ s.args.r.b +ℤ s.args.r.c +ℤ s.args.r.d) (most_column * 4)
  its-d = put w64 its-c tt ⊕ val w64 s.requires.d tt

  its-e : Num (m64 (m64 (m64 (m64 s.args.r.a +ℤ m64 s.args.r.b) +ℤ m64 s.args.r.c) +ℤ m64 s.args.r.d) +ℤ m64 s.args.r.e) (total_of s.args.r) (most_column * 5)
  unfolding total_of
  its-e = put w64 its-d tt ⊕ val w64 s.requires.e tt

pub overflow_add-result : goal.overflow_add-result
overflow_add-result c = let s = c.before.before.before in fit w64 (its-b s) tt

pub overflow_add-result-2 : goal.overflow_add-result-2
overflow_add-result-2 c = let s = c.before.before.before.before.before in fit w64 (its-c s) tt

pub overflow_add-result-3 : goal.overflow_add-result-3
overflow_add-result-3 c = let s = c.before.before.before.before.before.before.before in fit w64 (its-d s) tt

pub overflow_add-result-4 : goal.overflow_add-result-4
overflow_add-result-4 c = let s = c.before.before.before.before.before.before.before.before in fit w64 (its-e s) tt

pub returns : goal.returns
returns c = let s = c.before.before.before.before.before.before.before.before in (put w64 (its-e s) tt).is
