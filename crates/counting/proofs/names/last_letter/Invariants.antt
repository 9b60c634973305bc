-- No letter stands between n and the place.
use Rattle.std.proofs.Common.{◌≡◌}
use Rattle.counting.specs.Names.{last_letter}
use Rattle.counting.proofs.names.last_letter.Given as goal

abbrev pub invariant-loop-n : goal.invariant-loop-n
invariant-loop-n l = last_letter l.bytes l.at ≡ last_letter l.bytes l.n
