-- The rules of 01 for the table of sines, each proved by a test that is computed over the whole table, in one walk along it, along it from its end (the cosines) and along its rest.
use Rattle.std.specs.Prelude.{◌≡◌, refl, Bool, reverse, ℕ, zero, suc, ◌+◌, ◌-◌, ◌*◌, ◌≤◌, ◌<◌, T, leb, length, drop}
use Rattle.std.proofs.Common.{arith, leb→le, length-drop}
use Rattle.std.proofs.lemmas.List.{length-reverse}
use Rattle.sines.specs.Table.{sines, sine_at, cosine_at, DifferBy, Listed, one, ten, hundred, three-hundred}
use Rattle.sines.specs.Walk.{both, both_left, both_right, walk, walked, reversed, dropped}

-- "A table of 901 sines"
pub entries : length sines ≡ 901
unfolding sines
entries = refl

-- "from 0 to 100,000"
pub first : sine_at 0 ≡ 0
unfolding sine_at sines
first = refl

pub last : sine_at 900 ≡ 100000
unfolding sine_at sines
last = refl

-- "entry 300 is 50,000"
pub half : sine_at 300 ≡ 50000
unfolding sine_at sines
half = refl

-- a test f of sine i, cosine i and sine (i + j)
rule : (f : ℕ → ℕ → ℕ → Bool) (j : ℕ) → T (walk f sines (reverse sines) (drop j sines)) → (i : ℕ) → i + j ≤ 900 → T (f (sine_at i) (cosine_at i) (sine_at (i + j)))
unfolding sine_at
rule f j t i h =
    let e = entries in
    let c = length-reverse sines in
    let d = length-drop j sines in
    rw (← reversed sines (900 - i) i (omega arith), ← dropped j sines i)
    (walked f sines (reverse sines) (drop j sines) t i (omega arith) (omega arith) (omega arith))

-- "never falls"
rises : ℕ → ℕ → ℕ → Bool
rises s c next = leb s next

rises-test : T (walk rises sines (reverse sines) (drop 1 sines))
unfolding sines rises
rises-test = tt

pub never-falls : (i : ℕ) → i < 900 → sine_at i ≤ sine_at (i + 1)
unfolding rises
never-falls i h = leb→le (sine_at i) (sine_at (i + 1)) (rule rises 1 rises-test i (omega arith))

-- so no entry is above the last
pub at_most : (i : ℕ) → i ≤ 900 → sine_at i ≤ 100000
at_most i h = from (900 - i) i (omega arith)
  where
    step : (i k : ℕ) → i + suc k ≡ 900 → sine_at (i + 1) ≤ 100000 → sine_at i ≤ 100000
    step i k e h = omega (arith, never-falls i (omega arith))

    from : (k i : ℕ) → i + k ≡ 900 → sine_at i ≤ 100000
    from zero i e = let m : i ≡ 900 = omega arith in rw m (omega (arith, last))
    from (suc k) i e = step i k e (from k (i + 1) (omega arith))

-- DifferBy, as a test
near : ℕ → ℕ → ℕ → Bool
near d a b = both (leb a (b + d)) (leb b (a + d))

near_by : (d a b : ℕ) → T (near d a b) → DifferBy d a b
unfolding near
near_by d a b t =
    (leb→le a (b + d) (both_left (leb a (b + d)) (leb b (a + d)) t), leb→le b (a + d) (both_right (leb a (b + d)) (leb b (a + d)) t))

-- "Squares of sine and cosine sum to 10,000,000,000 within 150,000."
square : ℕ → ℕ → ℕ → Bool
square s c next = near 150000 (s * s + c * c) 10000000000

pub squares : (i : ℕ) → i ≤ 900 → DifferBy 150000 (sine_at i * sine_at i + cosine_at i * cosine_at i) 10000000000
unfolding sines square near
squares i h = near_by 150000 (sine_at i * sine_at i + cosine_at i * cosine_at i) 10000000000 (rule square 0 test i (omega arith))
  where
    test : T (walk square sines (reverse sines) (drop 0 sines))
    test = tt

-- "For j of 1, 10, 100, 300 and i + j at most 900: sine(i+j) × 100,000 differs from sine i × cosine j + cosine i × sine j by at most 200,000."
adds : ℕ → ℕ → ℕ → ℕ → ℕ → Bool
adds sj cj s c sum = near 200000 (sum * 100000) (s * cj + c * sj)

adds-test : {j : ℕ} → Listed j → T (walk (adds (sine_at j) (cosine_at j)) sines (reverse sines) (drop j sines))
unfolding sine_at sines adds near
adds-test one = tt
adds-test ten = tt
adds-test hundred = tt
adds-test three-hundred = tt

pub addition : {j : ℕ} → Listed j → (i : ℕ) → i + j ≤ 900 → DifferBy 200000 (sine_at (i + j) * 100000) (sine_at i * cosine_at j + cosine_at i * sine_at j)
unfolding adds
addition {j} l i h =
    near_by 200000 (sine_at (i + j) * 100000) (sine_at i * cosine_at j + cosine_at i * sine_at j) (rule (adds (sine_at j) (cosine_at j)) j (adds-test l) i h)
