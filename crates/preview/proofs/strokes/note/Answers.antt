-- Each field by the function that makes it.
use mathlib.Core.Path.{◌≡◌, refl, ◌∙◌}
use mathlib.Core.Bool.{Bool, true, false}
use mir.Val.{bool_byte}
use Rattle.preview.specs.Drawing.{one_of}
use Rattle.preview.proofs.strokes.note.Goals as goal

as-one : (b : Bool) → bool_byte b ≡ one_of b
unfolding one_of
as-one true = refl
as-one false = refl

pub returns : goal.returns
returns c =
    rw
    (c.goes_on-d.ensures, c.astray-d.ensures, c.sum-d-3.ensures, c.from-3.ensures ∙ as-one _, c.changes.ensures, c.sum-d-2.ensures, c.from-2.ensures ∙ as-one _)
    (rw
    (c.sum-d.ensures, c.from.ensures ∙ as-one _, c.is_refusal.ensures, c.refused-d.ensures, c.inks_of-d.ensures, c.quiet-d.ensures, c.moves-stray.ensures)
    (rw (c.kind_at-kind.ensures, c.sum-place.ensures)))
