-- One stroke more of a list.
use Rattle.std.specs.Prelude.{◌≡◌, refl, List, [], ◌∷◌, ◌++◌, ℕ, ◌+◌, ◌<◌, length, take, get_or}
use Rattle.std.proofs.Common.{ap, ◌∙◌, add-one, take-suc}
use Rattle.hpgl.specs.declared.Stroke.{Stroke}
use Rattle.noting.specs.declared.Inks.{Inks}
use Rattle.noting.specs.Inks.{inked_of, inks_of}

inks-last : (i : Inks) (ss : List Stroke) (s : Stroke) → inks_of i (ss ++ (s ∷ [])) ≡ inked_of (inks_of i ss) s
unfolding inks_of
inks-last i [] s = refl
inks-last i (t ∷ ss) s = inks-last (inked_of i t) ss s

pub inks-more : (i : Inks) (ss : List Stroke) (k : ℕ) (none : Stroke) → k < length ss → inks_of i (take (k + 1) ss) ≡ inked_of (inks_of i (take k ss)) (get_or ss k none)
inks-more i ss k none h = ap (λ (n : ℕ). inks_of i (take n ss)) (add-one k) ∙ ap (inks_of i) (take-suc ss k none h) ∙ inks-last i (take k ss) (get_or ss k none)
