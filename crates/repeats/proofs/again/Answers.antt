-- The count, and the first.
use borrow.Author.Tests.{eq-eqb, ne_eqb}
use native.Mathlib.Omega.{arith}
use mathlib.Core.Path.{ap, ◌∙◌}
use lib.ListN.{set, length-set}
use mir.Syntax.{w64}
use Rattle.exact.specs.Fit.{m64, got}
use Rattle.rows.specs.Rows.{with_row}
use Rattle.repeats.specs.Repeats.{twice_at, first_at, number_of, again_of}
use Rattle.repeats.proofs.again.Goals as goal

pub put_row-requires : goal.put_row-requires
put_row-requires c =
    omega (arith, c.requires, length-set c.args.lines.now twice_at (m64 c.number.result))

pub shape_of-lines-then-twice-eq0 : goal.shape_of-lines-then-twice-eq0
shape_of-lines-then-twice-eq0 c =
    c.put_row.auto.numbers ∙ length-set c.args.lines.now twice_at (m64 c.number.result)

pub returns-then-twice-eq0 : goal.returns-then-twice-eq0
unfolding again_of
returns-then-twice-eq0 c =
    let lines = c.args.lines.now in
    let more = got w64 c.number.type_inv ∙ c.number.ensures ∙ ap number_of c.sum.ensures in
    rw (← c.size_at-twice.ensures, eq-eqb c.size_at-twice.result 0 c.if-twice-eq0.true) (c.put_row.ensures ∙ (λ i. with_row c.args.l first_at (set lines twice_at (more i))))

pub returns-else-twice-eq0 : goal.returns-else-twice-eq0
unfolding again_of
returns-else-twice-eq0 c =
    let lines = c.args.lines.now in
    let more = got w64 c.number.type_inv ∙ c.number.ensures ∙ ap number_of c.sum.ensures in
    rw (← c.size_at-twice.ensures, ne_eqb c.size_at-twice.result 0 c.if-twice-eq0.false) (λ i. set lines twice_at (more i))
