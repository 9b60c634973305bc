-- The proof of `pen_of`: each part is read back.
use borrow.Author.Rules.{rules}
use mathlib.Core.Path.{ap, ◌∙◌}
use mir.Syntax.{w64}
use Rattle.exact.specs.Fit.{arg}
use Rattle.rows.specs.Rows.{flag_of, small_of, most_byte}
use Rattle.saved.specs.Saved.{pen_of}
use Rattle.saving.proofs.carriage.pen_of.Goals as goal

pub returns : goal.returns
unfolding pen_of
returns c =
    let r = c.args.row in
    let a = (arg w64 {z = r.a} (search rules)).is in
    let b = (arg w64 {z = r.b} (search rules)).is in
    let d = (arg w64 {z = r.c} (search rules)).is in
    λ i. record {
      number = (c.byte_of.ensures ∙ ap (small_of most_byte) a) i;
      down = (c.flag_of.ensures ∙ ap flag_of b) i;
      changed = (c.flag_of-2.ensures ∙ ap flag_of d) i;
    }
