-- A number that is read into a smaller type: what `byte_of`, `short_of`, `word_of` and `place_number` ask of std's `try_from`.
use Rattle.std.specs.Prelude.{◌≡◌, refl, ℕ, suc, ◌^◌, ◌≤◌, ◌<◌, ℤ, pos, negsuc, Result, Ok, Err, OkIff, unsigned_abs}
use Rattle.std.proofs.Common.{sym, arith}
use Rattle.std.proofs.Math.Nat.{lt_of_not-le}
use Rattle.std.specs.Result.{result_unwrap_or}
use Rattle.std.specs.Int.{FitsUnsignedBits}
use Rattle.exact.specs.Whole.{◌≤?◌, ord, le-≤?, lt-≤?}
use Rattle.rows.specs.Rows.{small_of}

pub small-read : {E : Type 0} (most k : ℕ) (z m : ℤ) (r : Result ℕ E) → m ≡ z → OkIff r (FitsUnsignedBits k m) (unsigned_abs m) → suc most ≡ 2 ^ k → result_unwrap_or r 0 ≡ small_of most z
unfolding small_of
small-read most k z m r e f w = go z r (rw e at f)
  where
    go : {E : Type 0} (z : ℤ) (r : Result ℕ E) → OkIff r (FitsUnsignedBits k z) (unsigned_abs z) → result_unwrap_or r 0 ≡ small_of most z
    go (pos n) (Ok x) f = rw (le-≤? {a = pos 0} {b = pos n} (omega (arith, ord)), le-≤? {a = pos n} {b = pos most} (omega (arith, ord, w, f.0))) f.1
    go (pos n) (Err x) f = rw (le-≤? {a = pos 0} {b = pos n} (omega (arith, ord)), lt-≤? {a = pos n} {b = pos most} (let past : most < n = lt_of_not-le (λ h. f (omega (arith, w, h))) in omega (arith, ord, past))) refl
    go (negsuc n) (Ok x) f = absurd f.0
    go (negsuc n) (Err x) f = rw (lt-≤? {a = pos 0} {b = negsuc n} (omega (arith, ord))) refl
