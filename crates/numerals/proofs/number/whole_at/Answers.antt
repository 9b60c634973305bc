-- The run after the sign, with what the calls answer.
use mathlib.Core.Path.{refl}
use lib.ListN.{get_or}
use borrow.Author.Rules.{rules}
use Rattle.numerals.specs.Run.{whole_at}
use Rattle.numerals.specs.RunLaws.{minus-size}
use Rattle.numerals.proofs.number.whole_at.Goals as goal

pub overflow_add-first : goal.overflow_add-first
overflow_add-first c =
    let a = c.args in
    rw c.minus_length.ensures (search (rules, minus-size (get_or a.bytes.now a.at 0)))

pub returns : goal.returns
unfolding whole_at
returns c =
    rw (c.run_from-run.ensures, c.minus_length.ensures) refl
