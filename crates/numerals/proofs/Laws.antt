-- Facts that the functions' proofs cite: a magnitude made signed, the sizes of a number's parts, and the first digit past the fourth decimal.
use mathlib.Core.Path.{◌≡◌, refl, ◌∙◌}
use mathlib.Core.Bool.{Bool, true, false, cond}
use Prim.Native.Nat.{ℕ, zero, suc, ◌+◌, ◌*◌, ◌≤◌, ◌<◌, ◌^◌}
use native.Mathlib.Nat.{le_of_lt, mul-le-mul}
use native.Mathlib.Omega.{arith}
use lib.Dec.{ltb, eqb, lit<, lit≤}
use borrow.Author.Tests.{ltb-true, ltb-false, eqb-true, eqb-false}
use lib.IntN.{pos, neg_ℤ, ◌-ℤ◌, +ℤ_idl}
use mir.Syntax.{w64}
use mir.Val.{SFits, to_z, of_z}
use mir.Facts.{to_z_pos, to_z-of_z}
use Rattle.numerals.specs.Number.{places, below, past_of, unit_of}
use Rattle.numerals.specs.Run.{reached_of}
use Rattle.numerals.proofs.NumeralLaws.{unit_size}

pub scaled-le : {m : ℕ} (k : ℕ) → m < 2 ^ 32 → m * unit_of k ≤ 2 ^ 32 * 10000
scaled-le k p = mul-le-mul (le_of_lt p) (unit_size k).1

minus : (m : ℕ) → m < 2 ^ 63 → pos 0 -ℤ to_z w64 m ≡ neg_ℤ (pos m)
minus m h = rw (to_z_pos w64 h) (+ℤ_idl (neg_ℤ (pos m)))

minus-fits : (m : ℕ) → m < 2 ^ 63 → SFits w64 (neg_ℤ (pos m))
minus-fits zero h = record { sfits = lit< tt }
minus-fits (suc m) h = record { sfits = omega arith }

pub minus-sfits : (m : ℕ) → m < 2 ^ 63 → SFits w64 (pos 0 -ℤ to_z w64 m)
minus-sfits m h = rw (minus m h) (minus-fits m h)

pub minus_is : (m : ℕ) → m < 2 ^ 63 → to_z w64 (of_z w64 (pos 0 -ℤ to_z w64 m)) ≡ neg_ℤ (pos m)
minus_is m h = to_z-of_z (minus-sfits m h) ∙ minus m h

pub reached-small : (d least : ℕ) → reached_of d least ≤ 1
unfolding reached_of
reached-small d least = go (ltb d least)
  where
    go : (b : Bool) → cond b 0 1 ≤ 1
    go true = lit≤ tt
    go false = lit≤ tt

-- the first digit past the fourth decimal: it stands against a half as it stands against 5 and 6
pub first_past : (d : ℕ) → below + reached_of d 5 + reached_of d 6 ≡ past_of places d
unfolding reached_of past_of
first_past d = go (ltb d 5) (ltb d 6) (eqb d 5) refl refl refl
  where
    go : (a b e : Bool) → ltb d 5 ≡ a → ltb d 6 ≡ b → eqb d 5 ≡ e → ◌≡◌ {A = ℕ} (5 + cond a 0 1 + cond b 0 1) (cond a 5 (cond e 6 7))
    go true true e p q r = refl
    go true false e p q r = let l = ltb-true d 5 p in let m = ltb-false d 6 q in omega (arith, l, m)
    go false true true p q r = refl
    go false true false p q r = let l = ltb-false d 5 p in let m = ltb-true d 6 q in let n = eqb-false d 5 r in omega (arith, l, m, n)
    go false false true p q r = let m = ltb-false d 6 q in let n = eqb-true d 5 r in omega (arith, m, n)
    go false false false p q r = refl
