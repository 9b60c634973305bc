-- The refusals up to the place are in their groups; the rest comes to the same.
use Rattle.std.proofs.Common.{ℕ, ◌≡◌, drop}
use Rattle.counting.specs.declared.names.Letters.{Letters}
use Rattle.counting.specs.Refusals.{key_of, noted_all}
use Rattle.counting.specs.Laws.{lists}
use Rattle.counting.proofs.refusals.noted.Given as goal

abbrev pub invariant-loop-place : goal.invariant-loop-place
invariant-loop-place l = (n : ℕ) (m : Letters) → l.key ≡ key_of n m → noted_all (lists l.initial.groups l.initial.others) n m l.bytes ≡ noted_all (lists l.groups l.others) n m (drop l.place-index l.bytes)
