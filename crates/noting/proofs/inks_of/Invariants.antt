-- The strokes so far are noted.
use Rattle.std.proofs.Common.{◌≡◌, take}
use Rattle.noting.specs.Inks.{inks_of}
use Rattle.noting.proofs.inks_of.Given as goal

abbrev pub invariant-loop-s : goal.invariant-loop-s
invariant-loop-s l = l.inks ≡ inks_of l.initial.inks (take l.s-index l.strokes)
