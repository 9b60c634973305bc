-- The proof of `put_settings`: by its rows.
use native.Mathlib.Omega.{arith}
use mathlib.Core.Path.{ap, ap₂, ◌∙◌}
use mathlib.Core.List.{List}
use lib.IntN.{ℤ}
use Rattle.rows.specs.declared.Row.{Row}
use Rattle.rows.specs.Rows.{with_row, over}
use Rattle.saved.specs.Places.{limits_place, corners_place, scale_place, window_place}
use Rattle.saved.specs.Saved.{settings_numbers}
use Rattle.saving.proofs.sheet.put_settings.Goals as goal

pub put_row-requires-4 : goal.put_row-requires-4
put_row-requires-4 c =
    omega (arith, c.requires, c.put_row-3.auto.numbers, c.put_row-2.auto.numbers, c.put_row.auto.numbers)

pub returns : goal.returns
unfolding settings_numbers over with_row
returns c =
    c.put_row-4.ensures
    ∙ ap₂ (λ (row : Row) (zs : List ℤ). with_row row window_place zs) c.window_row.ensures
    (c.put_row-3.ensures
    ∙ ap₂ (λ (row : Row) (zs : List ℤ). with_row row scale_place zs) c.scale_row.ensures
    (c.put_row-2.ensures
    ∙ ap₂ (λ (row : Row) (zs : List ℤ). with_row row corners_place zs) c.corners_row.ensures
    (c.put_row.ensures ∙ ap (λ (row : Row). with_row row limits_place c.args.numbers.now) c.limits_row.ensures)))
