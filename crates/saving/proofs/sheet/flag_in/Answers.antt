-- The proof of `flag_in`: the flag is read back.
use borrow.Author.Rules.{rules}
use mathlib.Core.Path.{ap, ◌∙◌}
use mir.Syntax.{w64}
use Rattle.exact.specs.Fit.{arg}
use Rattle.rows.specs.Rows.{flag_of}
use Rattle.saved.specs.Saved.{flag_in}
use Rattle.saving.proofs.sheet.flag_in.Goals as goal

pub returns : goal.returns
unfolding flag_in
returns c =
    c.flag_of.ensures ∙ ap flag_of (arg w64 {z = c.args.row.e} (search rules)).is
