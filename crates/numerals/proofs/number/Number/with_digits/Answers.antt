-- The ways of `scanned_of`, in its order.
use mathlib.Core.Path.{sym, ◌∙◌}
use Rattle.numerals.specs.RunLaws.{digit-class, scanned-run, scanned-one}
use Rattle.numerals.proofs.number.Number.with_digits.Goals as goal

pub returns-then-counts_whole : goal.returns-then-counts_whole
returns-then-counts_whole c =
    scanned-run _ _ _ _ _ (sym c.counts_whole.ensures ∙ c.if-counts_whole.true) c.run_from-run.ensures c.counted.ensures

pub overflow_sub-bytes : goal.overflow_sub-bytes
overflow_sub-bytes c = (digit-class _ c.requires.1).0

pub returns : goal.returns
returns c =
    scanned-one _ _ _ _ (sym c.counts_whole.ensures ∙ c.if-counts_whole.false) c.with_digit.ensures
