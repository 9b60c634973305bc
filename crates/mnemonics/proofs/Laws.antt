-- Facts that the functions' proofs cite: the search of the table where no name begins so, and the instructions that take pairs.
use mathlib.Core.Path.{◌≡◌, refl, sym, ◌∙◌}
use mathlib.Core.Bool.{Bool, true, false, cond, true≢false}
use Prim.Native.Nat.{ℕ, zero, suc, ◌+◌, ◌-◌, ◌%◌, ◌≤◌, ◌<◌}
use native.Mathlib.Nat.{sub-zero}
use native.Mathlib.Omega.{arith}
use borrow.Author.Tests.{ltb-true, ltb-false, le-ltb, le-leb}
use lib.Dec.{ltb→lt, leb, ltb, eqb}
use Rattle.std.specs.Prelude.{None, Some}
use Rattle.mnemonics.specs.Table.{PU, PD, PA, PR, IN, rows, first_letter, step, any, cell_of, named_of, find_from, find_of, begins_from, begins_name, count_fits, has_room, takes_pairs}
use Rattle.mnemonics.specs.Every.{every-at, same, same-equal}

-- It finds nothing where no name begins with the first letter.
none_from : (a b i n : ℕ) → begins_from a i n ≡ false → find_from a b i n ≡ None
unfolding find_from begins_from named_of cell_of
none_from a b i zero e = refl
none_from a b i (suc n) e = go (eqb (cell_of i first_letter) a) refl e (none_from a b (i + 1) n)
  where
    go : (t : Bool) → eqb (cell_of i first_letter) a ≡ t → cond t true (begins_from a (i + 1) n) ≡ false → (begins_from a (i + 1) n ≡ false → find_from a b (i + 1) n ≡ None) →
        find_from a b i (suc n) ≡ None
    go true h k later = absurd (true≢false k)
    go false h k later = rw h (later k)

pub none-begins : (a b : ℕ) → begins_name a ≡ false → find_of a b ≡ None
unfolding find_of begins_name
none-begins a b e = none_from a b 0 rows e

-- Pairs are taken by the first four of the table, and by no other. What holds of their rows holds of each that takes them.
pub pairs_first : (op : ℕ) → takes_pairs op ≡ ltb op IN
unfolding takes_pairs cell_of same
pairs_first op = go (ltb op rows) refl
  where
    go : (t : Bool) → ltb op rows ≡ t → takes_pairs op ≡ ltb op IN
    go true e = same-equal (takes_pairs op) (ltb op IN) (every-at (λ i. same (takes_pairs i) (ltb i IN)) rows tt op (ltb-true op rows e))
    go false e = rw e (sym (le-ltb op IN (omega (arith, ltb-false op rows e))))

of-pairs : (P : ℕ → Type 0) → P PU → P PD → P PA → P PR → (op : ℕ) → takes_pairs op ≡ true → P op
of-pairs P u d a r op e = go op (ltb-true op IN (sym (pairs_first op) ∙ e))
  where
    go : (i : ℕ) → i < IN → P i
    go zero h = u
    go (suc zero) h = d
    go (suc (suc zero)) h = a
    go (suc (suc (suc zero))) h = r
    go (suc (suc (suc (suc i)))) h = absurd (omega (arith, h))

-- Their room and their counts: "any even count".
pub pairs-room : (op n : ℕ) → takes_pairs op ≡ true → has_room op n ≡ ltb n any
unfolding has_room cell_of
pairs-room op n = of-pairs (λ i. has_room i n ≡ ltb n any) refl refl refl refl op

pub pairs-count : (op n : ℕ) → n ≤ any → takes_pairs op ≡ true → count_fits op n ≡ eqb (n % 2) 0
unfolding count_fits cell_of
pairs-count op n h = of-pairs (λ i. count_fits i n ≡ eqb (n % 2) 0) even even even even op
  where
    even : cond (leb 0 n) (cond (leb n any) (eqb ((n - 0) % 2) 0) false) false ≡ eqb (n % 2) 0
    even = simp (le-leb 0 n (omega arith), le-leb n any h, sub-zero n)
