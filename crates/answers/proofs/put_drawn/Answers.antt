-- The proof of `put_drawn`: by its arms.
use mathlib.Core.Path.{refl, ap, ◌∙◌}
use Rattle.rows.specs.declared.Row.{Row}
use Rattle.rows.specs.Rows.{with_row, over}
use Rattle.answers.specs.Answers.{drawn_kind, drawn_numbers}
use Rattle.answers.proofs.put_drawn.Goals as goal

pub returns-in-Idle : goal.returns-in-Idle
unfolding drawn_kind drawn_numbers over
returns-in-Idle c = rw c.in-Idle.is (record { value = refl; stroke_after = refl })

pub returns-in-Hidden : goal.returns-in-Hidden
unfolding drawn_kind drawn_numbers over
returns-in-Hidden c = rw c.in-Hidden.is (record { value = refl; stroke_after = refl })

pub returns-in-Stroke : goal.returns-in-Stroke
unfolding drawn_kind drawn_numbers over with_row
returns-in-Stroke c =
    rw c.in-Stroke.is (record { value = refl; stroke_after = c.put_row.ensures ∙ ap (λ (row : Row). with_row row 0 c.args.stroke.now) c.stroke_row.ensures })
