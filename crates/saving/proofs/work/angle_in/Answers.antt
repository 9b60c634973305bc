-- The proof of `angle_in`: the number is read back.
use borrow.Author.Rules.{rules}
use mathlib.Core.Path.{ap, ◌∙◌}
use mir.Syntax.{w64}
use Rattle.exact.specs.Fit.{arg}
use Rattle.rows.specs.Rows.{small_of, most_short}
use Rattle.saved.specs.Saved.{angle_in}
use Rattle.saving.proofs.work.angle_in.Goals as goal

pub returns : goal.returns
unfolding angle_in
returns c =
    c.short_of.ensures ∙ ap (small_of most_short) (arg w64 {z = c.args.row.c} (search rules)).is
