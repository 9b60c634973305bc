-- The sum is at most 7, and says where the digit stands.
use native.Mathlib.Omega.{arith}
use Rattle.exact.proofs.Rules.{rules}
use Rattle.numerals.proofs.Laws.{reached-small, first_past}
use Rattle.numerals.proofs.number.first_past.Goals as goal

pub overflow_add-result : goal.overflow_add-result
overflow_add-result c =
    record { fits = omega (arith, c.reached.ensures, reached-small c.args.digit 5) }

pub overflow_add-result-2 : goal.overflow_add-result-2
overflow_add-result-2 c =
    record { fits = omega (arith, c.reached.ensures, c.reached-2.ensures, reached-small c.args.digit 5, reached-small c.args.digit 6) }

pub returns : goal.returns
returns c =
    search (rules, ← c.reached.ensures, ← c.reached-2.ensures, first_past c.args.digit)
