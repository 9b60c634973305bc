-- A name looked for in a list of names and kinds, row by row.
use Rattle.std.specs.Prelude.{true, false, List, [], ◌∷◌, ◌≡◌, refl, ℕ, suc, ◌+◌, ◌-◌, ◌<◌, ◌≤◌, length, drop, get_or}
use Prim.Native.Char.{code}
use Rattle.std.proofs.Common.{arith, length-drop, drop-cons}
use Rattle.words.specs.Names.{same_name, kind_in}

module _ (names : List ℕ) (i : ℕ) where
  -- the row at i, and what follows it
  row : 3 < length names - i → drop i names ≡ get_or names i 0 ∷ get_or names (i + 1) 0 ∷ get_or names (i + 2) 0 ∷ get_or names (i + 3) 0 ∷ drop (i + 4) names
  row h =
      let p : suc i ≡ i + 1 = omega arith in
      let q : suc (i + 1) ≡ i + 2 = omega arith in
      let r : suc (i + 2) ≡ i + 3 = omega arith in
      let s : suc (i + 3) ≡ i + 4 = omega arith in
      rw (drop-cons names i 0 (omega arith), p, drop-cons names (i + 1) 0 (omega arith), q, drop-cons names (i + 2) 0 (omega arith), r, drop-cons names (i + 3) 0 (omega arith), s) refl

  module _ (a b : ℕ) (h : 3 < length names - i) where
    pub kind-here : same_name (get_or names i 0) (get_or names (i + 1) 0) a b ≡ true → kind_in (drop i names) a b ≡ get_or names (i + 2) 0
    unfolding kind_in
    kind-here e = rw (row h) (rw e refl)

    pub kind-later : same_name (get_or names i 0) (get_or names (i + 1) 0) a b ≡ false → kind_in (drop i names) a b ≡ kind_in (drop (i + 4) names) a b
    unfolding kind_in
    kind-later e = rw (row h) (rw e refl)

short : (t : List ℕ) (a b : ℕ) → length t ≤ 3 → kind_in t a b ≡ code "x"
unfolding kind_in
short [] a b h = refl
short (p ∷ []) a b h = refl
short (p ∷ q ∷ []) a b h = refl
short (p ∷ q ∷ r ∷ []) a b h = refl
short (p ∷ q ∷ r ∷ s ∷ t) a b h = absurd (omega arith)

pub kind-not : (names : List ℕ) (i a b : ℕ) → length names - i ≤ 3 → kind_in (drop i names) a b ≡ code "x"
kind-not names i a b h = short (drop i names) a b (simp length-drop (omega arith))
