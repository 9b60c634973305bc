-- The proof of `load`.
use mathlib.Core.Path.{sym, subst}
use Rattle.hpgl.specs.Valid.{Usable}
use Rattle.machine.proofs.Machine.load.Goals as goal

pub load-requires : goal.load-requires
load-requires c = c.requires.long

pub returns : goal.returns
returns c = c.load.ensures

pub invariant_of-result : goal.invariant_of-result
invariant_of-result c = record { usable = subst Usable (sym c.load.ensures) c.requires.usable }
