-- The proof of `put_work`: by its rows.
use Rattle.std.proofs.Common.{ap, ap₂, ◌∙◌, List, ℤ}
use Rattle.rows.specs.declared.Row.{Row}
use Rattle.rows.specs.Rows.{with_row, over}
use Rattle.saved.specs.Places.{work_place, across_place, along_place, start_place}
use Rattle.saved.specs.Saved.{work_numbers}
use Rattle.saving.proofs.work.put_work.Goals as goal

abbrev Rows : Type 0
Rows = Row × Row × Row × Row

pub returns : goal.returns
unfolding work_numbers over with_row
returns c =
    c.put_row-4.ensures
    ∙ ap₂ (λ (row : Row) (zs : List ℤ). with_row row start_place zs) (ap (λ (t : Rows). t.3) c.work_rows.ensures)
    (c.put_row-3.ensures
    ∙ ap₂ (λ (row : Row) (zs : List ℤ). with_row row along_place zs) (ap (λ (t : Rows). t.2) c.work_rows.ensures)
    (c.put_row-2.ensures
    ∙ ap₂ (λ (row : Row) (zs : List ℤ). with_row row across_place zs) (ap (λ (t : Rows). t.1) c.work_rows.ensures)
    (c.put_row.ensures ∙ ap (λ (t : Rows). with_row t.0 work_place c.args.numbers.now) c.work_rows.ensures)))
