-- The proof of `weigh`: each product is small, and so is their sum.
use mathlib.Core.Path.{◌≡◌}
use Prim.Native.Nat.{ℕ, ◌*◌}
use native.Mathlib.Omega.{arith}
use lib.IntN.{ℤ, pos, ◌+ℤ◌, ◌*ℤ◌}
use mir.Syntax.{w64}
use Rattle.exact.specs.Whole.{is, Z}
use Rattle.exact.specs.Fit.{Bd, Num, m64, num, val, put, fit, same, ◌⊕◌, ◌⊗◌}
use Rattle.rows.specs.declared.Row.{Row}
use Rattle.seal.specs.Light.{weigh_of}
use Rattle.seal.specs.Columns.{most_part}
use Rattle.seal.proofs.weigh.Goals as goal
use Rattle.seal.proofs.weigh.Lts
use Rattle.seal.proofs.weigh.Reads

abbrev Start : Type 0
Start = Lts.Start Reads.Pre Reads.Post

times : (j : ℕ) {x : ℤ} → Bd x most_part → Num (pos j *ℤ m64 x) (pos j *ℤ x) (j * most_part)
times j h = num (pos j) ⊗ val w64 h tt

one : (x : ℤ) → x ≡ pos 1 *ℤ x
one x = rw (is x) (simp Z (omega arith))

module _ (s : Start) where
  abbrev r : Row
  r = s.args.row

  its-b : Num (m64 r.a +ℤ m64 (pos 2 *ℤ m64 r.b)) (pos 1 *ℤ r.a +ℤ pos 2 *ℤ r.b) (3 * most_part)
  its-b = same (val w64 s.requires.a tt) (one r.a) ⊕ put w64 (times 2 s.requires.b) tt

  its-c : Num (m64 (m64 r.a +ℤ m64 (pos 2 *ℤ m64 r.b)) +ℤ m64 (pos 3 *ℤ m64 r.c)) (pos 1 *ℤ r.a +ℤ pos 2 *ℤ r.b +ℤ pos 3 *ℤ r.c) (6 * most_part)
  its-c = put w64 its-b tt ⊕ put w64 (times 3 s.requires.c) tt

  its-d : Num (m64 (m64 (m64 r.a +ℤ m64 (pos 2 *ℤ m64 r.b)) +ℤ m64 (pos 3 *ℤ m64 r.c)) +ℤ m64 (pos 4 *ℤ m64 r.d)) (pos 1 *ℤ r.a +ℤ pos 2 *ℤ r.b +ℤ pos 3 *ℤ r.c +ℤ pos 4 *ℤ r.d) (10 * most_part)
  its-d = put w64 its-c tt ⊕ put w64 (times 4 s.requires.d) tt

  its-e : Num (m64 (m64 (m64 (m64 r.a +ℤ m64 (pos 2 *ℤ m64 r.b)) +ℤ m64 (pos 3 *ℤ m64 r.c)) +ℤ m64 (pos 4 *ℤ m64 r.d)) +ℤ m64 (pos 5 *ℤ m64 r.e)) (weigh_of (pos 0) r) (15 * most_part)
  unfolding weigh_of
  its-e = put w64 its-d tt ⊕ put w64 (times 5 s.requires.e) tt

pub overflow_mul-result : goal.overflow_mul-result
overflow_mul-result c = fit w64 (times 2 c.requires.b) tt

pub overflow_add-result : goal.overflow_add-result
overflow_add-result c = let s = c.before.before.before.before.before in fit w64 (its-b s) tt

pub overflow_mul-result-2 : goal.overflow_mul-result-2
overflow_mul-result-2 c = fit w64 (times 3 c.requires.c) tt

pub overflow_add-result-2 : goal.overflow_add-result-2
overflow_add-result-2 c = let s = c.before.before.before.before.before.before.before in fit w64 (its-c s) tt

pub overflow_mul-result-3 : goal.overflow_mul-result-3
overflow_mul-result-3 c = fit w64 (times 4 c.requires.d) tt

pub overflow_add-result-3 : goal.overflow_add-result-3
overflow_add-result-3 c = let s = c.before.before.before.before.before.before.before.before.before in fit w64 (its-d s) tt

pub overflow_mul-result-4 : goal.overflow_mul-result-4
overflow_mul-result-4 c = fit w64 (times 5 c.requires.e) tt

pub overflow_add-result-4 : goal.overflow_add-result-4
overflow_add-result-4 c = let s = c.before.before.before.before.before.before.before.before.before.before in fit w64 (its-e s) tt

pub returns : goal.returns
returns c = let s = c.before.before.before.before.before.before.before.before.before.before in (put w64 (its-e s) tt).is
