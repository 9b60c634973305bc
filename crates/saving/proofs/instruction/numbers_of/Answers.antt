-- The proof of `numbers_of`: each number is read back.
use borrow.Author.Rules.{rules}
use mathlib.Core.Path.{ap, ◌∙◌}
use mir.Syntax.{w64}
use Rattle.exact.specs.Fit.{arg}
use Rattle.rows.specs.Rows.{small_of, most_byte}
use Rattle.saved.specs.SavedReader.{numbers_of}
use Rattle.saving.proofs.instruction.numbers_of.Goals as goal

pub returns : goal.returns
unfolding numbers_of
returns c =
    let r = c.args.row in
    let a = (arg w64 {z = r.a} (search rules)).is in
    let b = (arg w64 {z = r.b} (search rules)).is in
    let c₁ = (arg w64 {z = r.c} (search rules)).is in
    let d = (arg w64 {z = r.d} (search rules)).is in
    let e = (arg w64 {z = r.e} (search rules)).is in
    λ i. record { count = (c.byte_of.ensures ∙ ap (small_of most_byte) a) i; first = b i; second = c₁ i; third = d i; fourth = e i }
