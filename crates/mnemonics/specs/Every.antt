-- A rule of the table, shown of every instruction by one test that is computed.
use Rattle.std.specs.Prelude.{◌≡◌, refl, Bool, true, false, not, ◌&&◌, ℕ, zero, suc, ◌<◌, T, eqb}
use Rattle.std.proofs.Common.{arith, eqb-true}
use Rattle.std.proofs.lemmas.Bool.{eqb-false}

pub and_left : (a b : Bool) → T (a && b) → T a
and_left true b t = tt
and_left false b t = t

pub and_right : (a b : Bool) → T (a && b) → T b
and_right true b t = t
and_right false b t = absurd t

pub holds : (t : Bool) → T t → t ≡ true
holds true t = refl
holds false t = elim t [ ]

-- The test passes at every place below n.
abbrev pub every : (ℕ → Bool) → ℕ → Bool
every p zero = true
every p (suc n) = p n && every p n

pub every-at : (p : ℕ → Bool) (n : ℕ) → T (every p n) → (i : ℕ) → i < n → T (p i)
every-at p zero t i h = absurd (omega arith)
every-at p (suc n) t i h = go (eqb i n) refl (every-at p n (and_right (p n) (every p n) t) i)
  where
    go : (x : Bool) → eqb i n ≡ x → (i < n → T (p i)) → T (p i)
    go true e k = rw (eqb-true i n e) (and_left (p n) (every p n) t)
    go false e k = k (omega (arith, eqb-false i n e))

-- Two tests that give the same.
unfoldable pub same : Bool → Bool → Bool
same true b = b
same false b = not b

pub same-equal : (a b : Bool) → T (same a b) → a ≡ b
unfolding same
same-equal true true t = refl
same-equal false false t = refl
same-equal true false t = absurd t
same-equal false true t = absurd t
