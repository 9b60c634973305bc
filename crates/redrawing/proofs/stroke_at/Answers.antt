-- A row, and its first number as a pen's; each number is read back from its bits.
use borrow.Author.Rules.{rules}
use mathlib.Core.Path.{ap, ◌∙◌}
use mir.Syntax.{w64}
use Rattle.exact.specs.Fit.{arg}
use Rattle.hpgl.specs.declared.Stroke.{Stroke}
use Rattle.rows.specs.declared.Row.{Row}
use Rattle.rows.specs.Rows.{small_of, most_byte}
use Rattle.redrawn.specs.Redrawn.{stroke_at}
use Rattle.redrawing.proofs.stroke_at.Goals as goal

abbrev ofRow : Row → Stroke
ofRow r = record { pen = small_of most_byte r.a; x0 = r.b; y0 = r.c; x1 = r.d; y1 = r.e }

pub returns : goal.returns
unfolding stroke_at
returns c =
    let q = c.row_at-row.result in
    let p = c.byte_of.ensures ∙ ap (small_of most_byte) (arg w64 {z = q.a} (search rules)).is in
    let x0 = (arg w64 {z = q.b} (search rules)).is in
    let y0 = (arg w64 {z = q.c} (search rules)).is in
    let x1 = (arg w64 {z = q.d} (search rules)).is in
    let y1 = (arg w64 {z = q.e} (search rules)).is in
    (λ i. record { pen = p i; x0 = x0 i; y0 = y0 i; x1 = x1 i; y1 = y1 i }) ∙ ap ofRow c.row_at-row.ensures
