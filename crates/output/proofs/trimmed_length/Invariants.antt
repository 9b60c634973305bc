-- The bytes after the first n are blanks.
use mathlib.Core.Path.{◌≡◌}
use Rattle.output.specs.Words.{trimmed, trimmed_to}
use Rattle.output.proofs.trimmed_length.Given as goal

abbrev pub invariant-loop-n : goal.invariant-loop-n
invariant-loop-n l = trimmed l.text ≡ trimmed_to l.text l.n
