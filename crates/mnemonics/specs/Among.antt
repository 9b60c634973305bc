-- Codes that a sentence lists, for claims with a line for each of them and one for all others.
use Rattle.std.specs.Prelude.{◌≡◌, refl, Bool, true, false, ◌&&◌, ◌||◌, List, [], ◌∷◌, ℕ, ◌≤◌, T, ltb, eqb}
use Rattle.std.proofs.Common.{sym, ◌∙◌, ap, true≢false, arith, ltb→lt, ne_eqb, eqb-true}
use Rattle.mnemonics.specs.Every.{and_left, and_right}

abbrev pub among : ℕ → List ℕ → Bool
among n [] = false
among n (m ∷ ms) = eqb n m || among n ms

-- What holds of each listed code.
infixr 20 ◌⨾◌
pub data Each (P : ℕ → Type 0) : List ℕ → Type 0 where
  none : Each P []
  ◌⨾◌ : {k : ℕ} {ks : List ℕ} → P k → Each P ks → Each P (k ∷ ks)

pub listed : (P : ℕ → Type 0) (ks : List ℕ) → Each P ks → (n : ℕ) → among n ks ≡ true → P n
listed P [] none n e = absurd (true≢false (sym e))
listed P (k ∷ ks) (h ⨾ hs) n e = go (eqb n k) refl e (listed P ks hs n)
  where
    go : (t : Bool) → eqb n k ≡ t → (t || among n ks) ≡ true → (among n ks ≡ true → P n) → P n
    go true is f later = rw (eqb-true n k is) h
    go false is f later = later f

-- A code that is not listed is none of them.
pub apart : (ks : List ℕ) (n : ℕ) → among n ks ≡ false → (k : ℕ) → among k ks ≡ true → eqb n k ≡ false
apart ks n out k on = ne_eqb n k (λ e. true≢false (sym on ∙ ap (λ (m : ℕ). among m ks) (sym e) ∙ out))

-- Codes below m do not list one from there on.
abbrev pub below : ℕ → List ℕ → Bool
below m [] = true
below m (k ∷ ks) = ltb k m && below m ks

pub beyond : (m : ℕ) (ks : List ℕ) → T (below m ks) → (n : ℕ) → m ≤ n → among n ks ≡ false
beyond m [] t n h = refl
beyond m (k ∷ ks) t n h =
    let less = ltb→lt k m (and_left (ltb k m) (below m ks) t) in
    rw (ne_eqb n k (λ e. omega (arith, e, less, h))) (beyond m ks (and_right (ltb k m) (below m ks) t) n h)
