-- Words beside names, byte by byte.
use Rattle.std.specs.Prelude.{Bool, true, false, cond, List, [], ◌∷◌, ◌≡◌, refl, ℕ, ◌+◌, ◌<◌, eqb, length, get_or, drop}
use Rattle.std.proofs.Common.{arith, add-one, eq-eqb, ne_eqb}
use Rattle.std.proofs.Math.Seq.{drop-cons, drop-length}
use Rattle.arguments.specs.Names.{same}

-- of different lengths
pub same_length : (word name : List ℕ) → (length word ≡ length name → ⊥) → same word name ≡ false
unfolding same
same_length [] [] h = absurd (h refl)
same_length [] (n ∷ name) h = refl
same_length (w ∷ word) [] h = refl
same_length (w ∷ word) (n ∷ name) h = go (eqb w n) (same_length word name (λ e. h (omega (arith, e))))
  where
    go : (t : Bool) → same word name ≡ false → cond t (same word name) false ≡ false
    go true e = e
    go false e = refl

module _ (word name : List ℕ) (at : ℕ) (in-word : at < length word) (in-name : at < length name) where
  pub same_more : get_or word at 0 ≡ get_or name at 0 → same (drop at word) (drop at name) ≡ same (drop (at + 1) word) (drop (at + 1) name)
  unfolding same
  same_more e = rw (drop-cons word at 0 in-word, drop-cons name at 0 in-name, add-one) (rw (eq-eqb _ _ e) refl)

  pub same-other : (get_or word at 0 ≡ get_or name at 0 → ⊥) → same (drop at word) (drop at name) ≡ false
  unfolding same
  same-other e = rw (drop-cons word at 0 in-word, drop-cons name at 0 in-name) (rw (ne_eqb _ _ e) refl)

pub same_end : (word name : List ℕ) → length word ≡ length name → same (drop (length word) word) (drop (length word) name) ≡ true
unfolding same
same_end word name e = rw (drop-length word, e, drop-length name) refl
