-- What the search of the whole list gives is what the search from a row on gives.
use Rattle.std.proofs.Common.{◌≡◌, ◌*◌, drop}
use Rattle.words.specs.Names.{kind_in}
use Rattle.words.proofs.kind_in.Given as goal

abbrev pub invariant-loop-a : goal.invariant-loop-a
invariant-loop-a l = kind_in l.names l.first l.second ≡ kind_in (drop (l.a-index * 4) l.names) l.first l.second
