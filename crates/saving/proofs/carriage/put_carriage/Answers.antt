-- The proof of `put_carriage`: by its rows.
use native.Mathlib.Omega.{arith}
use mathlib.Core.Path.{ap, ap₂, ◌∙◌}
use mathlib.Core.List.{List}
use lib.IntN.{ℤ}
use Rattle.rows.specs.declared.Row.{Row}
use Rattle.rows.specs.Rows.{with_row, over}
use Rattle.saved.specs.Places.{position_place, pen_place, polygon_place, first_place, saved_place, memory_place}
use Rattle.saved.specs.Saved.{carriage_numbers}
use Rattle.saving.proofs.carriage.put_carriage.Goals as goal

pub put_row-requires-4 : goal.put_row-requires-4
put_row-requires-4 c =
    omega (arith, c.requires, c.put_row-3.auto.numbers, c.put_row-2.auto.numbers, c.put_row.auto.numbers)

pub put_row-requires-5 : goal.put_row-requires-5
put_row-requires-5 c =
    omega (arith, c.requires, c.put_row-4.auto.numbers, c.put_row-3.auto.numbers, c.put_row-2.auto.numbers, c.put_row.auto.numbers)

pub put_row-requires-6 : goal.put_row-requires-6
put_row-requires-6 c =
    omega (arith, c.requires, c.put_row-5.auto.numbers, c.put_row-4.auto.numbers, c.put_row-3.auto.numbers, c.put_row-2.auto.numbers, c.put_row.auto.numbers)

pub shape_of-numbers : goal.shape_of-numbers
shape_of-numbers c =
    c.put_row-6.auto.numbers ∙ c.put_row-5.auto.numbers ∙ c.put_row-4.auto.numbers ∙ c.put_row-3.auto.numbers ∙ c.put_row-2.auto.numbers ∙ c.put_row.auto.numbers

pub returns : goal.returns
unfolding carriage_numbers over with_row
returns c =
    c.put_row-6.ensures
    ∙ ap₂ (λ (row : Row) (zs : List ℤ). with_row row memory_place zs) c.memory_row.ensures
    (c.put_row-5.ensures
    ∙ ap₂ (λ (row : Row) (zs : List ℤ). with_row row saved_place zs) c.position_row-3.ensures
    (c.put_row-4.ensures
    ∙ ap₂ (λ (row : Row) (zs : List ℤ). with_row row first_place zs) c.position_row-2.ensures
    (c.put_row-3.ensures
    ∙ ap₂ (λ (row : Row) (zs : List ℤ). with_row row polygon_place zs) c.polygon_row.ensures
    (c.put_row-2.ensures
    ∙ ap₂ (λ (row : Row) (zs : List ℤ). with_row row pen_place zs) c.pen_row.ensures
    (c.put_row.ensures ∙ ap (λ (row : Row). with_row row position_place c.args.numbers.now) c.position_row.ensures)))))
