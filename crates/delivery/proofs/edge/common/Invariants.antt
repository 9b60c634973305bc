-- The bytes passed are the same in both.
use Rattle.std.proofs.Common.{◌≡◌, ◌+◌, drop}
use Rattle.delivery.specs.Compared.{common}
use Rattle.delivery.proofs.edge.common.Given as goal

abbrev pub invariant-loop-i : goal.invariant-loop-i
invariant-loop-i l = common l.a l.b ≡ l.i + common (drop l.i l.a) (drop l.i l.b)
