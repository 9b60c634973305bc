-- The proof of `put_reader`: by its rows.
use mathlib.Core.Path.{ap, ap₂, ◌∙◌}
use mathlib.Core.List.{List}
use lib.IntN.{ℤ}
use Rattle.rows.specs.declared.Row.{Row}
use Rattle.rows.specs.Rows.{with_row, over}
use Rattle.saved.specs.SavedReader.{reader_numbers}
use Rattle.saving.proofs.instruction.put_reader.Goals as goal

pub returns : goal.returns
unfolding reader_numbers over with_row
returns c =
    c.put_row-3.ensures
    ∙ ap₂ (λ (u : Row) (zs : List ℤ). with_row u 10 zs) c.number_row.ensures
    (c.put_row-2.ensures
    ∙ ap₂ (λ (u : Row) (zs : List ℤ). with_row u 5 zs) c.numbers_row.ensures
    (c.put_row.ensures
    ∙ ap (λ (u : Row). with_row u 0 c.args.list.now) c.place_row.ensures))
