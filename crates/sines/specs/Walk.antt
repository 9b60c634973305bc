-- A test that is made at every place of three lists in one walk, and what it shows of their entries; and the entries of a list turned round and of a list's rest.
use Rattle.std.specs.Prelude.{◌≡◌, refl, Bool, true, false, ℕ, zero, suc, ◌+◌, ◌<◌, T, length, get_or, drop}
use mathlib.Core.List.{List, [], ◌∷◌, reverse, reverse_aux}
use Rattle.std.proofs.Common.{not-suc-le-zero, le_of_suc-le-suc, arith}

abbrev pub both : Bool → Bool → Bool
both true b = b
both false b = false

pub both_left : (a b : Bool) → T (both a b) → T a
both_left true b t = tt
both_left false b t = t

pub both_right : (a b : Bool) → T (both a b) → T b
both_right true b t = t
both_right false b t = absurd t

-- until the shortest list ends
abbrev pub walk : (ℕ → ℕ → ℕ → Bool) → List ℕ → List ℕ → List ℕ → Bool
walk f [] ys zs = true
walk f (x ∷ xs) [] zs = true
walk f (x ∷ xs) (y ∷ ys) [] = true
walk f (x ∷ xs) (y ∷ ys) (z ∷ zs) = both (f x y z) (walk f xs ys zs)

pub walked : (f : ℕ → ℕ → ℕ → Bool) (xs ys zs : List ℕ) → T (walk f xs ys zs) → (k : ℕ) → k < length xs → k < length ys → k < length zs →
    T (f (get_or xs k 0) (get_or ys k 0) (get_or zs k 0))
walked f [] ys zs t k a b c = absurd (not-suc-le-zero a)
walked f (x ∷ xs) [] zs t k a b c = absurd (not-suc-le-zero b)
walked f (x ∷ xs) (y ∷ ys) [] t k a b c = absurd (not-suc-le-zero c)
walked f (x ∷ xs) (y ∷ ys) (z ∷ zs) t zero a b c = both_left (f x y z) (walk f xs ys zs) t
walked f (x ∷ xs) (y ∷ ys) (z ∷ zs) t (suc k) a b c =
    walked f xs ys zs (both_right (f x y z) (walk f xs ys zs) t) k (le_of_suc-le-suc a) (le_of_suc-le-suc b) (le_of_suc-le-suc c)

-- ---- a list turned round: i entries stand before the one, k after it
past : (l r : List ℕ) (m : ℕ) → get_or (reverse_aux l r) (length l + m) 0 ≡ get_or r m 0
past [] r m = let e : 0 + m ≡ m = omega arith in rw e refl
past (x ∷ xs) r m = let e : suc (length xs) + m ≡ length xs + suc m = omega arith in rw e (past xs (x ∷ r) (suc m))

turned_round : (l r : List ℕ) (i k : ℕ) → suc (i + k) ≡ length l → get_or (reverse_aux l r) k 0 ≡ get_or l i 0
turned_round [] r i k e = absurd (omega arith)
turned_round (x ∷ xs) r zero k e = let l : k ≡ length xs + 0 = omega arith in rw l (past xs (x ∷ r) 0)
turned_round (x ∷ xs) r (suc i) k e = turned_round xs (x ∷ r) i k (omega arith)

pub reversed : (l : List ℕ) (i k : ℕ) → suc (i + k) ≡ length l → get_or (reverse l) k 0 ≡ get_or l i 0
reversed l i k e = turned_round l [] i k e

-- ---- a list without its first j entries
pub dropped : (j : ℕ) (l : List ℕ) (k : ℕ) → get_or (drop j l) k 0 ≡ get_or l (k + j) 0
dropped zero l k = let e : k + 0 ≡ k = omega arith in rw e refl
dropped (suc j) [] k = refl
dropped (suc j) (x ∷ xs) k = let e : k + suc j ≡ suc (k + j) = omega arith in rw e (dropped j xs k)
