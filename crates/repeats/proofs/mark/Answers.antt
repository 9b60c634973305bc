-- Each part is at most 65536.
use borrow.Author.Rules.{rules}
use native.Mathlib.Omega.{arith}
use mathlib.Core.Path.{◌≡◌, ap, ◌∙◌}
use Prim.Native.Nat.{ℕ, ◌+◌, ◌*◌, ◌%◌, ◌≤◌}
use lib.IntN.{ℤ}
use mir.Syntax.{w64}
use Rattle.exact.specs.Fit.{arg}
use Rattle.repeats.specs.Repeats.{marks, low_of, mark_of}
use Rattle.repeats.specs.Laws.{low-most}
use Rattle.repeats.proofs.mark.Goals as goal

most : {n : ℕ} (z : ℤ) → n ≡ low_of z → n ≤ 65536
most {n} z e = omega (arith, e, low-most z)

pub overflow_add-across : goal.overflow_add-across
overflow_add-across c =
    omega (arith, most _ c.low.ensures, most _ c.low-2.ensures)

pub overflow_add-along : goal.overflow_add-along
overflow_add-along c =
    omega (arith, most _ c.low-3.ensures, most _ c.low-4.ensures)

pub overflow_mul-result : goal.overflow_mul-result
overflow_mul-result c =
    omega (arith, most _ c.low.ensures, most _ c.low-2.ensures)

pub overflow_mul-result-2 : goal.overflow_mul-result-2
overflow_mul-result-2 c =
    omega (arith, most _ c.low-3.ensures, most _ c.low-4.ensures)

pub overflow_add-result : goal.overflow_add-result
overflow_add-result c =
    omega (arith, most _ c.low.ensures, most _ c.low-2.ensures, most _ c.low-3.ensures, most _ c.low-4.ensures)

pub returns : goal.returns
unfolding mark_of
returns c =
    let x0 = c.low.ensures ∙ ap low_of {y = c.args.l.b} (arg w64 (search rules)).is in
    let x1 = c.low-2.ensures ∙ ap low_of {y = c.args.l.d} (arg w64 (search rules)).is in
    let y0 = c.low-3.ensures ∙ ap low_of {y = c.args.l.c} (arg w64 (search rules)).is in
    let y1 = c.low-4.ensures ∙ ap low_of {y = c.args.l.e} (arg w64 (search rules)).is in
    λ i. ((x0 i + x1 i) * 31 + (y0 i + y1 i) * 1237) % marks
