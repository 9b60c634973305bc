use Rattle.std.proofs.Common.{arith}
use Rattle.std.proofs.lemmas.Bool.Decides.{nat_tests}
use Rattle.exact.proofs.Rules.{rules}
use Rattle.saved.specs.SavedReader.{mode_of}
use Rattle.saving.proofs.instruction.mode_of.Goals as goal

pub returns-in-1 : goal.returns-in-1
unfolding mode_of
returns-in-1 c = search (rules, c.in-1.is)

pub returns-in-2 : goal.returns-in-2
unfolding mode_of
returns-in-2 c = search (rules, c.in-2.is)

pub returns-in-3 : goal.returns-in-3
unfolding mode_of
returns-in-3 c = search (rules, c.in-3.is)

pub returns-in-4 : goal.returns-in-4
unfolding mode_of
returns-in-4 c = search (rules, c.in-4.is)

pub returns-in-5 : goal.returns-in-5
unfolding mode_of
returns-in-5 c = search (rules, c.in-5.is)

pub returns-in_default : goal.returns-in_default
unfolding mode_of
returns-in_default c = grind (arith, nat_tests)
