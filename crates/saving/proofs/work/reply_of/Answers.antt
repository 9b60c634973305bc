-- The proof of `reply_of`: each number is read back.
use borrow.Author.Rules.{rules}
use mathlib.Core.Path.{ap, ◌∙◌}
use mir.Syntax.{w64}
use Rattle.exact.specs.Fit.{arg}
use Rattle.rows.specs.Rows.{small_of, most_byte}
use Rattle.saved.specs.Saved.{reply_of}
use Rattle.saving.proofs.work.reply_of.Goals as goal

pub returns : goal.returns
unfolding reply_of
returns c =
    let r = c.args.row in
    let count = c.byte_of.ensures ∙ ap (small_of most_byte) (arg w64 {z = c.args.across.a} (search rules)).is in
    let first = (arg w64 {z = r.a} (search rules)).is in
    let second = (arg w64 {z = r.b} (search rules)).is in
    let third = (arg w64 {z = r.c} (search rules)).is in
    let fourth = (arg w64 {z = r.d} (search rules)).is in
    λ i. record { count = count i; first = first i; second = second i; third = third i; fourth = fourth i }
