-- A magnitude within the range is the same number as an i64, and so is its negation.
use mir.Syntax.{w64}
use mir.Facts.{to_z_pos}
use native.Mathlib.Omega.{arith}
use Rattle.numerals.proofs.Laws.{minus-sfits, minus_is}
use Rattle.numerals.specs.Number.{signed_of}
use Rattle.numerals.proofs.number.signed.Goals as goal

pub overflow_sub-result : goal.overflow_sub-result
overflow_sub-result c = minus-sfits c.args.magnitude (omega arith)

pub returns-then-negative : goal.returns-then-negative
unfolding signed_of
returns-then-negative c = simp c.if-negative.true (minus_is c.args.magnitude (omega arith))

pub returns-else-negative : goal.returns-else-negative
unfolding signed_of
returns-else-negative c = simp c.if-negative.false (to_z_pos w64 (omega arith))
