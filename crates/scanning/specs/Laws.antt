-- One byte after another.
use Rattle.std.specs.Prelude.{Bool, true, false, not, cond, List, [], ◌∷◌, ◌≡◌, ℕ, zero, suc, ◌+◌, ◌≤◌, ◌<◌, eqb, ltb, length, get_or, drop}
use Rattle.std.proofs.Math.Path.{refl}
use Rattle.std.specs.List.{prefix_len, take_while}
use Rattle.std.proofs.lemmas.List.Folds.{length-prefix_len}
use Rattle.std.proofs.Common.{◌∙◌, add-one, arith, ne_eqb, drop_of_length-le, drop-cons}
use Rattle.scanning.specs.Escapes.{after, one_more, escapes_from}
use Rattle.scanning.specs.Pieces.{stops, up_to, one_at_least, piece_of}
use Rattle.scanning.specs.Types.{type_after, types_from}
use Rattle.scanning.specs.Types as T

module _ (text : List ℕ) (i : ℕ) where
  pub stop-here : i < length text → stops (get_or text i 0) ≡ true → up_to (drop i text) ≡ 0
  unfolding up_to
  stop-here h e = rw (drop-cons text i 0 h) (rw e refl)

  pub stop-later : i < length text → stops (get_or text i 0) ≡ false → up_to (drop i text) ≡ suc (up_to (drop (i + 1) text))
  unfolding up_to
  stop-later h e = rw (drop-cons text i 0 h, add-one) (rw e refl)

  pub stop-end : length text ≤ i → up_to (drop i text) ≡ 0
  unfolding up_to
  stop-end h = rw (drop_of_length-le text h) refl

  module _ (state broken : ℕ) where
    pub escapes-one : i < length text
        → escapes_from state broken (drop i text) ≡ escapes_from (after state (get_or text i 0)) (one_more broken state (after state (get_or text i 0))) (drop (i + 1) text)
    unfolding escapes_from
    escapes-one h = rw (drop-cons text i 0 h, add-one) refl

    pub escapes-end : length text ≤ i → escapes_from state broken (drop i text) ≡ record { state = state; broken = broken }
    unfolding escapes_from
    escapes-end h = rw (drop_of_length-le text h) refl

  module _ (mode count : ℕ) where
    pub types-one : i < length text
        → types_from mode count (drop i text) ≡ types_from (type_after mode (get_or text i 0)) (T.one_more count (type_after mode (get_or text i 0))) (drop (i + 1) text)
    unfolding types_from
    types-one h = rw (drop-cons text i 0 h, add-one) refl

    pub types-end : length text ≤ i → types_from mode count (drop i text) ≡ record { mode = mode; count = count }
    unfolding types_from
    types-end h = rw (drop_of_length-le text h) refl

-- the bytes before the first stop, counted
pub up_to_taken : (bytes : List ℕ) → length (take_while (λ b. not (stops b)) bytes) ≡ up_to bytes
unfolding up_to
up_to_taken bytes = length-prefix_len (λ b. not (stops b)) bytes ∙ go bytes
  where
    more : (t : Bool) {m n : ℕ} → m ≡ n → cond (not t) (1 + m) 0 ≡ cond t 0 (suc n)
    more true e = refl
    more false e = omega (arith, e)

    go : (bytes : List ℕ) → prefix_len (λ b. not (stops b)) bytes ≡ up_to bytes
    go [] = refl
    go (b ∷ bs) = more (stops b) (go bs)

-- ---- a piece is not empty, and within the bytes

up-to-within : (bytes : List ℕ) → up_to bytes ≤ length bytes
unfolding up_to
up-to-within [] = omega arith
up-to-within (b ∷ bs) = go (stops b) (up-to-within bs)
  where
    go : (t : Bool) → up_to bs ≤ length bs → cond t 0 (suc (up_to bs)) ≤ suc (length bs)
    go true h = omega arith
    go false h = omega (arith, h)

at_least : (n m : ℕ) → n ≤ m → 0 < m → (0 < one_at_least n) × (one_at_least n ≤ m)
unfolding one_at_least
at_least zero m h k = (omega arith, omega (arith, k))
at_least (suc n) m h k = rw (ne_eqb (suc n) 0 (λ z. omega arith)) (omega arith, h)

pub piece-within : (mode escape : ℕ) (bytes : List ℕ) → 0 < length bytes → (0 < piece_of mode escape bytes) × (piece_of mode escape bytes ≤ length bytes)
unfolding piece_of
piece-within mode escape bytes h = go (eqb mode 0) (ltb 1 escape)
  where
    go : (t u : Bool) → let n = cond t (cond u 1 (one_at_least (up_to bytes))) 1 in (0 < n) × (n ≤ length bytes)
    go false u = (omega arith, omega (arith, h))
    go true true = (omega arith, omega (arith, h))
    go true false = at_least (up_to bytes) (length bytes) (up-to-within bytes) h
