-- The proof of `word_of`: what std's `try_from` gives, or 0.
use Rattle.std.proofs.Common.{rules, ◌∙◌, refl}
use Rattle.std.specs.Int.{w64}
use Rattle.exact.specs.Fit.{arg}
use Rattle.rows.specs.Rows.{most_word}
use Rattle.rows.proofs.Small.{small-read}
use Rattle.rows.proofs.word_of.Goals as goal

pub returns : goal.returns
returns c = c.unwrap_or.ensures ∙ small-read most_word 32 c.args.z _ _ (arg w64 {z = c.args.z} (search rules)).is c.try_from.ensures refl
