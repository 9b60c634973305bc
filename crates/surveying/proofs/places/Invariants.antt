-- The first i places stand in the list.
use Rattle.surveying.specs.Laws.{Placed}
use Rattle.surveying.proofs.places.Given as goal

abbrev pub invariant-loop-i : goal.invariant-loop-i
invariant-loop-i l = Placed l.before l.numbers l.count l.list l.i
