-- Byte by byte, as the library's equality goes.
use Rattle.std.proofs.Common.{Bool, true, false, cond, List, [], ◌∷◌, ◌≡◌, refl, ap, ◌∙◌, ℕ}
use mathlib.Core.Bool.{◌&&◌}
use lib.Dec.{eqb}
use lib.Pointwise.{pointwise}
use Rattle.arguments.specs.Names.{same}
use Rattle.arguments.proofs.same.Goals as goal

both : (s t : Bool) → (s && t) ≡ cond s t false
both true t = refl
both false t = refl

alike : (word name : List ℕ) → pointwise eqb word name ≡ same word name
unfolding same
alike [] [] = refl
alike [] (n ∷ name) = refl
alike (w ∷ word) [] = refl
alike (w ∷ word) (n ∷ name) = both (eqb w n) (pointwise eqb word name) ∙ ap (λ (t : Bool). cond (eqb w n) t false) (alike word name)

pub returns : goal.returns
returns c = c.eq.ensures ∙ alike c.args.word.now c.args.name.now
