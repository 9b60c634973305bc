-- The proof of `number_of`: each part is read back.
use borrow.Author.Rules.{rules}
use mathlib.Core.Path.{ap, ◌∙◌}
use mir.Syntax.{w64}
use Rattle.exact.specs.Fit.{arg}
use Rattle.rows.specs.Rows.{flag_of, small_of, most_byte, most_word}
use Rattle.saved.specs.SavedReader.{number_of}
use Rattle.saving.proofs.instruction.number_of.Goals as goal

pub returns : goal.returns
unfolding number_of
returns c =
    let r = c.args.row in
    let a = (arg w64 {z = r.a} (search rules)).is in
    let b = (arg w64 {z = r.b} (search rules)).is in
    let c₁ = (arg w64 {z = r.c} (search rules)).is in
    let d = (arg w64 {z = r.d} (search rules)).is in
    let e = (arg w64 {z = r.e} (search rules)).is in
    λ i. record {
      negative = (c.flag_of.ensures ∙ ap flag_of a) i;
      filled = (c.flag_of-2.ensures ∙ ap flag_of b) i;
      pointed = (c.flag_of-3.ensures ∙ ap flag_of c₁) i;
      decimals = (c.byte_of.ensures ∙ ap (small_of most_byte) d) i;
      magnitude = (c.word_of.ensures ∙ ap (small_of most_word) e) i;
    }
