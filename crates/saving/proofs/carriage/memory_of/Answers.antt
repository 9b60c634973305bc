-- The proof of `memory_of`: the number is read back.
use borrow.Author.Rules.{rules}
use mathlib.Core.Path.{ap, ◌∙◌}
use mir.Syntax.{w64}
use Rattle.exact.specs.Fit.{arg}
use Rattle.rows.specs.Rows.{small_of, most_byte}
use Rattle.saved.specs.Saved.{memory_of}
use Rattle.saving.proofs.carriage.memory_of.Goals as goal

pub returns : goal.returns
unfolding memory_of
returns c =
    let a = c.byte_of.ensures ∙ ap (small_of most_byte) (arg w64 {z = c.args.row.a} (search rules)).is in
    λ i. record { refusal = a i }
