-- As it is read.
use borrow.Author.Rules.{rules}
use mathlib.Core.Path.{ap, ◌∙◌}
use lib.IntN.{pos, nat_abs}
use lib.ListN.{get_or}
use mir.Syntax.{w64}
use Rattle.exact.specs.Fit.{arg}
use Rattle.repeats.proofs.size_at.Goals as goal

pub returns : goal.returns
returns c =
    c.size.ensures ∙ ap nat_abs {y = get_or c.args.lines.now c.args.at (pos 0)} (arg w64 (search rules)).is
