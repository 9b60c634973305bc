-- The proof of `put_numbers`. The invariant: so much of the text stands, and what is left is that of the other numbers and the last.
use Rattle.std.specs.Prelude.{[], ◌∷◌, ◌++◌, drop}
use Rattle.hpgl.specs.Replies.{text_of}
use Rattle.replies.proofs.Numbers.{Left}
use Rattle.replies.proofs.writing.put_numbers.Given as goal

abbrev pub invariant-loop-z : goal.invariant-loop-z
invariant-loop-z l = Left (text_of (l.others ++ (l.last ∷ []))) (text_of (drop l.z-index l.others ++ (l.last ∷ []))) l.initial.out l.out l.end
