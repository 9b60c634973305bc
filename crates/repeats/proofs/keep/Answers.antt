-- The row, the count and the mark.
use native.Mathlib.Omega.{arith}
use mathlib.Core.Path.{ap, ◌∙◌}
use Prim.Native.Nat.{ℕ, ◌+◌, ◌*◌, ◌%◌}
use lib.ListN.{set, length-set}
use mir.Syntax.{w64}
use Rattle.exact.specs.Fit.{m64, got}
use Rattle.console.specs.Sums.{added}
use Rattle.rows.specs.Rows.{with_row}
use Rattle.repeats.specs.Repeats.{most, count_at, marked_at, number_of, kept_with}
use Rattle.repeats.specs.Laws.{mark-below}
use Rattle.repeats.proofs.keep.Goals as goal

pub overflow_add-place : goal.overflow_add-place
overflow_add-place c =
    omega (arith, c.mark-place.ensures, mark-below c.args.l)

pub offset_bounds-lines-place : goal.offset_bounds-lines-place
offset_bounds-lines-place c =
    omega (arith, c.mark-place.ensures, mark-below c.args.l)

pub bounds-lines-place : goal.bounds-lines-place
bounds-lines-place c =
    omega (arith, c.requires, length-set c.put_row.new.numbers count_at (m64 c.number-next.result), c.put_row.auto.numbers, c.mark-place.ensures, mark-below c.args.l)

pub returns : goal.returns
unfolding kept_with
returns c =
    let lines = c.args.lines.now in
    let count = c.size_at-count.ensures in
    let next = got w64 c.number-next.type_inv ∙ c.number-next.ensures ∙ ap number_of (c.sum.ensures ∙ ap (λ (k : ℕ). added k 1) count) in
    let rows = c.put_row.ensures ∙ ap (λ (k : ℕ). with_row c.args.l (k % most * 5) lines) count in
    λ i. set (set (rows i) count_at (next i)) (marked_at + c.mark-place.ensures i) (next i)
