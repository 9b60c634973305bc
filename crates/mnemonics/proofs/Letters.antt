-- Two letters as one number, and the letters that names begin with as bits of one.
use borrow.Author.Tests.{eq-eqb, ne_eqb, eqb-true, eqb-false}
use mathlib.Core.Path.{◌≡◌, refl}
use mathlib.Core.Bool.{Bool, true, false, cond}
use Prim.Native.Nat.{ℕ, zero, suc, ◌+◌, ◌-◌, ◌*◌, ◌/◌, ◌%◌, ◌^◌, ◌≤◌, ◌<◌}
use native.Mathlib.Omega.{arith}
use lib.Dec.{leb→le, leb, eqb}
use Rattle.mnemonics.specs.Every.{every-at, same, same-equal}
use Rattle.mnemonics.specs.Table.{rows, first_letter, cell_of, begins_from, begins_name}

-- A letter is below 256, so that two of them make one number and no others make the same.
pub both-same : (a b c d : ℕ) → b < 256 → d < 256 → eqb (a * 256 + b) (c * 256 + d) ≡ cond (eqb a c) (eqb b d) false
both-same a b c d h k = go (eqb a c) refl (eqb b d) refl
  where
    m : ℕ
    m = a * 256 + b

    n : ℕ
    n = c * 256 + d

    go : (s : Bool) → eqb a c ≡ s → (t : Bool) → eqb b d ≡ t → eqb m n ≡ cond s t false
    go true e true f = eq-eqb m n (omega (arith, eqb-true a c e, eqb-true b d f))
    go true e false f = ne_eqb m n (λ x. eqb-false b d f (omega (arith, x, eqb-true a c e)))
    go false e t f = ne_eqb m n (λ x. eqb-false a c e (omega (arith, x)))

-- The letters that names begin with as bits, those of the first n capitals.
abbrev bits : ℕ → ℕ
bits zero = 0
bits (suc n) = cond (begins_name (65 + n)) (2 ^ n) 0 + bits n

abbrev pub bit : ℕ → Bool
bit i = eqb (bits 26 / 2 ^ i % 2) 1

pub capital : (a : ℕ) → 65 ≤ a → a ≤ 90 → bit (a - 65) ≡ begins_name a
unfolding same begins_name begins_from cell_of
capital a h k =
    let i : 65 + (a - 65) ≡ a = omega arith in
    rw i at (same-equal (bit (a - 65)) (begins_name (65 + (a - 65))) (every-at (λ j. same (bit j) (begins_name (65 + j))) 26 tt (a - 65) (omega arith)))

-- No other byte begins a name.
from-A : (i : ℕ) → i < rows → 65 ≤ cell_of i first_letter
unfolding cell_of
from-A i h = leb→le 65 (cell_of i first_letter) (every-at (λ j. leb 65 (cell_of j first_letter)) rows tt i h)

to-Z : (i : ℕ) → i < rows → cell_of i first_letter ≤ 90
unfolding cell_of
to-Z i h = leb→le (cell_of i first_letter) 90 (every-at (λ j. leb (cell_of j first_letter) 90) rows tt i h)

none_from : (a : ℕ) → (65 ≤ a → a ≤ 90 → ⊥) → (i n : ℕ) → i + n ≤ rows → false ≡ begins_from a i n
unfolding begins_from
none_from a out i zero h = refl
none_from a out i (suc n) h =
    let k : i < rows = omega (arith, h) in
    rw (ne_eqb (cell_of i first_letter) a (λ e. out (omega (arith, e, from-A i k)) (omega (arith, e, to-Z i k)))) (none_from a out (i + 1) n (omega (arith, h)))

pub no-capital : (a : ℕ) → (65 ≤ a → a ≤ 90 → ⊥) → false ≡ begins_name a
unfolding begins_name
no-capital a out = none_from a out 0 rows (omega arith)
