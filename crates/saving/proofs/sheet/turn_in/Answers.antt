-- The proof of `turn_in`: the number is read back.
use borrow.Author.Rules.{rules}
use mathlib.Core.Path.{ap, ◌∙◌}
use mir.Syntax.{w64}
use Rattle.exact.specs.Fit.{arg}
use Rattle.rows.specs.Rows.{small_of, most_byte}
use Rattle.saved.specs.Saved.{small_in}
use Rattle.saving.proofs.sheet.turn_in.Goals as goal

pub returns : goal.returns
unfolding small_in
returns c =
    c.byte_of.ensures ∙ ap (small_of most_byte) (arg w64 {z = c.args.row.e} (search rules)).is
