-- The proof of `inserted`: what stands before the place is done, and what is left is the carried number sunk into the rest.
use Rattle.std.proofs.Common.{◌≡◌, ◌++◌, take, drop}
use Rattle.filling.specs.Sink.{sink}
use Rattle.filling.proofs.inserted.Given as goal

abbrev pub invariant-loop-place : goal.invariant-loop-place
invariant-loop-place l = take l.place-index l.row ++ sink l.carry (drop l.place-index l.row) ≡ sink l.initial.carry l.initial.row
