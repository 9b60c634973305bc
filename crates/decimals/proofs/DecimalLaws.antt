-- Laws of decimal text: a number's digits one by one, by twos and by fours, and how long its text is.
use Rattle.std.specs.Prelude.{Bool, true, false, List, [], ◌∷◌, ◌++◌, ◌≡◌, refl, ℕ, zero, suc, ◌+◌, ◌/◌, ◌%◌, ◌^◌, ◌≤◌, ◌<◌, ltb, ℤ, pos, negsuc, nat_abs, length}
use Rattle.std.proofs.Common.{append_assoc, ap, ◌∙◌, div-lt_iff_lt-mul, pow-suc, arith, lt-ltb, le-ltb, ltb-true, ltb-false, length-append, SFits}
use Prim.Native.Char.{code}
use Rattle.std.specs.Int.{w64}
use Rattle.exact.specs.Whole.{◌<ᶻ◌, ◌≤ᶻ◌, ord}
use Rattle.decimals.specs.Decimal.{digit, digits_within, decimal, two, four, natural, sign, whole}

-- ---- digits: those of n / 10, and the last one

-- any bound that is large enough gives the same digits
enough : (j k n : ℕ) → n ≤ j → n ≤ k → digits_within (suc j) n ≡ digits_within (suc k) n
unfolding digits_within
enough zero k n p q = rw (lt-ltb n 10 (omega arith))
enough (suc j) zero n p q = rw (lt-ltb n 10 (omega arith))
enough (suc j) (suc k) n p q = rw (enough j k (n / 10) (omega arith) (omega arith))

within_more : (k n : ℕ) → 10 ≤ n → digits_within (suc k) n ≡ digits_within k (n / 10) ++ (digit (n % 10) ∷ [])
unfolding digits_within
within_more k n h = rw (le-ltb n 10 h)

pub decimal-one : (n : ℕ) → n < 10 → decimal n ≡ digit n ∷ []
unfolding decimal digits_within
decimal-one n h = rw (lt-ltb n 10 h)

pub decimal-more : (n : ℕ) → 10 ≤ n → decimal n ≡ decimal (n / 10) ++ (digit (n % 10) ∷ [])
unfolding decimal
decimal-more n h = first n h ∙ ap (λ (s : List ℕ). s ++ (digit (n % 10) ∷ [])) (second n h)
  where
    first : (n : ℕ) → 10 ≤ n → digits_within (suc n) n ≡ digits_within n (n / 10) ++ (digit (n % 10) ∷ [])
    first n h = within_more n n h

    second : (n : ℕ) → 10 ≤ n → digits_within n (n / 10) ≡ digits_within (suc (n / 10)) (n / 10)
    second zero h = absurd (omega arith)
    second (suc n) h = enough n (suc n / 10) (suc n / 10) (omega arith) (omega arith)

-- ---- digits by twos and fours

pub decimal-two : (n : ℕ) → 10 ≤ n → n < 100 → decimal n ≡ two n
decimal-two n h k = decimal-more n h ∙ ap (λ (s : List ℕ). s ++ (digit (n % 10) ∷ [])) (decimal-one (n / 10) (omega arith))

-- the digits before the last two, and these
pub decimal-twos : (n : ℕ) → 100 ≤ n → decimal n ≡ decimal (n / 100) ++ two (n % 100)
decimal-twos n h =
    let t : n / 10 / 10 ≡ n / 100 = omega arith in
    let d : n / 10 % 10 ≡ n % 100 / 10 = omega arith in
    let e : n % 10 ≡ n % 100 % 10 = omega arith in
    decimal-more n (omega arith)
    ∙ ap (λ (s : List ℕ). s ++ (digit (n % 10) ∷ [])) (decimal-more (n / 10) (omega arith))
    ∙ append_assoc (decimal (n / 10 / 10)) (digit (n / 10 % 10) ∷ []) (digit (n % 10) ∷ [])
    ∙ (λ i. decimal (t i) ++ (digit (d i) ∷ digit (e i) ∷ []))

pub decimal-three : (n : ℕ) → 100 ≤ n → n < 1000 → decimal n ≡ digit (n / 100) ∷ two (n % 100)
decimal-three n h k = decimal-twos n h ∙ ap (λ (s : List ℕ). s ++ two (n % 100)) (decimal-one (n / 100) (omega arith))

pub decimal-four : (n : ℕ) → 1000 ≤ n → n < 10000 → decimal n ≡ four n
decimal-four n h k = decimal-twos n (omega arith) ∙ ap (λ (s : List ℕ). s ++ two (n % 100)) (decimal-two (n / 100) (omega arith) (omega arith))

-- the digits before the last four, and these
pub decimal-fours : (n : ℕ) → 10000 ≤ n → decimal n ≡ decimal (n / 10000) ++ four (n % 10000)
decimal-fours n h =
    let t : n / 100 / 100 ≡ n / 10000 = omega arith in
    let d : n / 100 % 100 ≡ n % 10000 / 100 = omega arith in
    let e : n % 100 ≡ n % 10000 % 100 = omega arith in
    decimal-twos n (omega arith)
    ∙ ap (λ (s : List ℕ). s ++ two (n % 100)) (decimal-twos (n / 100) (omega arith))
    ∙ append_assoc (decimal (n / 100 / 100)) (two (n / 100 % 100)) (two (n % 100))
    ∙ (λ i. decimal (t i) ++ (two (d i) ++ two (e i)))

-- ---- lengths

pub more-length : (n : ℕ) → 10 ≤ n → length (decimal n) ≡ length (decimal (n / 10)) + 1
more-length n h = ap length (decimal-more n h) ∙ length-append (decimal (n / 10)) (digit (n % 10) ∷ [])

pub fours-length : (n : ℕ) → 10000 ≤ n → length (decimal n) ≡ length (decimal (n / 10000)) + 4
fours-length n h = ap length (decimal-fours n h) ∙ length-append (decimal (n / 10000)) (four (n % 10000))

pub decimal-length : (k n : ℕ) → n < 10 ^ suc k → length (decimal n) ≤ suc k
decimal-length zero n h = rw (decimal-one n (omega arith)) (omega arith)
decimal-length (suc k) n h = go (ltb n 10) refl (λ m. decimal-length k (n / 10) ((div-lt_iff_lt-mul {k = 10} (omega arith)).1 (omega (arith, pow-suc 10 (suc k)))))
  where
    go : (t : Bool) → ltb n 10 ≡ t → (10 ≤ n → length (decimal (n / 10)) ≤ suc k) → length (decimal n) ≤ suc (suc k)
    go true e tenth = rw (decimal-one n (ltb-true n 10 e)) (omega arith)
    go false e tenth = let l = tenth (ltb-false n 10 e) in omega (arith, more-length n (ltb-false n 10 e))

-- a number of 64 bits, and the byte after it
pub natural-length : {n : ℕ} (byte : ℕ) → n < 2 ^ 64 → length (natural n byte) ≤ 21
unfolding natural
natural-length {n} byte h = omega (arith, decimal-length 19 n (omega arith), length-append (decimal n) (byte ∷ []))

pub whole_length : {z : ℤ} (byte : ℕ) → SFits w64 z → length (whole z byte) ≤ 21
unfolding whole natural
whole_length {z = pos n} byte f = omega (arith, f.sfits, decimal-length 18 n (omega arith), length-append (decimal n) (byte ∷ []))
whole_length {z = negsuc n} byte f = omega (arith, f.sfits, decimal-length 18 (suc n) (omega arith), length-append (decimal (suc n)) (byte ∷ []))

pub whole_parts : (z : ℤ) (byte : ℕ) → length (whole z byte) ≡ length (sign z) + length (natural (nat_abs z) byte)
unfolding whole
whole_parts z byte = length-append (sign z) (natural (nat_abs z) byte)

-- never empty

pub natural-some : (n byte : ℕ) → 0 < length (natural n byte)
unfolding natural
natural-some n byte = omega (arith, length-append (decimal n) (byte ∷ []))

pub whole-some : (z : ℤ) (byte : ℕ) → 0 < length (whole z byte)
unfolding whole natural
whole-some z byte = simp length-append (omega arith)

-- ---- signs

pub sign_below : (z : ℤ) → z <ᶻ pos 0 → sign z ≡ code "-" ∷ []
sign_below (pos n) h = absurd (omega (arith, ord))
sign_below (negsuc n) h = refl

pub sign_above : (z : ℤ) → pos 0 ≤ᶻ z → sign z ≡ []
sign_above (pos n) h = refl
sign_above (negsuc n) h = absurd (omega (arith, ord))
