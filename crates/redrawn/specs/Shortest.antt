-- "numbers as short as they go" (document 02, CR 6): no text that reads as the same number is shorter than the one that is written.
-- Why: the whole part of a text has as many digits as its value, or one fewer where the decimals round up to it, and then there is a point; below zero there is a minus.
use Rattle.std.specs.Prelude.{Bool, true, false, cond, List, [], ◌∷◌, ◌++◌, ◌≡◌, refl, ℕ, zero, suc, ◌+◌, ◌*◌, ◌^◌, ◌≤◌, ◌<◌, ℤ, pos, negsuc, neg_ℤ, nat_abs, ◌*ℤ◌, length, Option, None, Some}
use Rattle.std.proofs.Common.{true≢false, append-nil, sym, ap, ◌∙◌, subst, pow-suc, mul-le-mul, le_refl, arith, length-append}
use Rattle.exact.specs.Whole.{◌≤ᶻ◌, ◌<ᶻ◌, ord, up_neg, dn-neg, up-mul, dn-mul}
use Rattle.exact.specs.Fit.{abs}
use Rattle.exact.specs.Laws.{neg-*ℤ}
use Rattle.exact.specs.Divide.{nearest_div}
use Rattle.exact.specs.Nearest.{nearest-mono}
use Rattle.decimals.specs.Decimal.{decimal, sign, whole}
use Rattle.decimals.proofs.DecimalLaws.{decimal-length}
use Rattle.numerals.specs.Numeral.{Sign, bare, plus, minus, Fraction, none, point, Numeral, text, sign_text, digits_text, fraction_text, Digits, worth, worth_from, decimals, ten, signed, some, in_range, nearest, value_of}
use Rattle.redrawn.specs.RedrawnLaws.{whole_long}
use Rattle.redrawn.specs.Numerals.{kept, multiple, exactly}

-- ---- what digits can be worth

ten-pow : (k : ℕ) → ten k ≡ 10 ^ k
ten-pow zero = refl
ten-pow (suc k) = omega (arith, ten-pow k, pow-suc 10 k)

ten-some : (k : ℕ) → 1 ≤ ten k
ten-some zero = omega arith
ten-some (suc k) = let h = ten-some k in omega (arith, h)

-- at most nines after v
worth-below : (v : ℕ) (ds : List ℕ) → Digits ds → worth_from v ds + 1 ≤ (v + 1) * ten (length ds)
worth-below v [] h = omega arith
worth-below v (d ∷ ds) h =
    let t = ten (length ds) in
    let next : worth_from (v * 10 + d) ds + 1 ≤ (v * 10 + d + 1) * t = worth-below (v * 10 + d) ds h.1 in
    let least : v * 10 + d + 1 ≤ (v + 1) * 10 = omega (arith, h.0) in
    let more : (v * 10 + d + 1) * t ≤ (v + 1) * 10 * t = mul-le-mul least (le_refl t) in
    let same : (v + 1) * 10 * t ≡ (v + 1) * (10 * t) = omega arith in
    omega (arith, next, more, same)

worth-append : (v : ℕ) (ds es : List ℕ) → worth_from v (ds ++ es) ≡ worth_from (worth_from v ds) es
worth-append v [] es = refl
worth-append v (d ∷ ds) es = worth-append (v * 10 + d) ds es

-- ---- between which numbers a rounded one lies

one_up : (t : ℕ) → 1 ≤ t → pos 0 <ᶻ pos t
one_up t h = omega (arith, ord)

mirrored : (x y : ℤ) → x ≤ᶻ y → neg_ℤ y ≤ᶻ neg_ℤ x
mirrored x y h = omega (arith, ord, up_neg x, dn-neg x, up_neg y, dn-neg y, h)

module _ (a c t : ℕ) (h : 1 ≤ t) (l : a ≤ c * t) where
  product : pos a ≤ᶻ pos c *ℤ pos t
  product = omega (arith, ord, up-mul (pos c) (pos t), dn-mul (pos c) (pos t), l)

  zero-product : pos 0 *ℤ pos t ≤ᶻ pos a
  zero-product = omega (arith, ord, up-mul (pos 0) (pos t), dn-mul (pos 0) (pos t))

  minus-product : neg_ℤ (pos c) *ℤ pos t ≤ᶻ neg_ℤ (pos a)
  minus-product = subst (λ (y : ℤ). y ≤ᶻ neg_ℤ (pos a)) (sym (neg-*ℤ (pos c) (pos t))) (mirrored (pos a) (pos c *ℤ pos t) product)

  zero_minus : neg_ℤ (pos a) ≤ᶻ pos 0 *ℤ pos t
  zero_minus = omega (arith, ord, up-mul (pos 0) (pos t), dn-mul (pos 0) (pos t), up_neg (pos a), dn-neg (pos a))

  above_most : nearest_div (pos a) (pos t) ≤ᶻ pos c
  above_most = subst (λ (y : ℤ). nearest_div (pos a) (pos t) ≤ᶻ y) (multiple (pos c) (pos t) (one_up t h)) (nearest-mono (pos a) (pos c *ℤ pos t) (pos t) (one_up t h) product)

  above-least : pos 0 ≤ᶻ nearest_div (pos a) (pos t)
  above-least = subst (λ (y : ℤ). y ≤ᶻ nearest_div (pos a) (pos t)) (multiple (pos 0) (pos t) (one_up t h)) (nearest-mono (pos 0 *ℤ pos t) (pos a) (pos t) (one_up t h) zero-product)

  below-least : neg_ℤ (pos c) ≤ᶻ nearest_div (neg_ℤ (pos a)) (pos t)
  below-least =
      subst (λ (y : ℤ). y ≤ᶻ nearest_div (neg_ℤ (pos a)) (pos t)) (multiple (neg_ℤ (pos c)) (pos t) (one_up t h))
      (nearest-mono (neg_ℤ (pos c) *ℤ pos t) (neg_ℤ (pos a)) (pos t) (one_up t h) minus-product)

  below-most : nearest_div (neg_ℤ (pos a)) (pos t) ≤ᶻ pos 0
  below-most =
      subst (λ (y : ℤ). nearest_div (neg_ℤ (pos a)) (pos t) ≤ᶻ y) (multiple (pos 0) (pos t) (one_up t h))
      (nearest-mono (neg_ℤ (pos a)) (pos 0 *ℤ pos t) (pos t) (one_up t h) zero_minus)

  -- of either sign: at most c in size
  between : (s : Sign) → (neg_ℤ (pos c) ≤ᶻ nearest_div (signed s a) (pos t)) × (nearest_div (signed s a) (pos t) ≤ᶻ pos c)
  between bare = (omega (arith, ord, above-least, up_neg (pos c), dn-neg (pos c)), above_most)
  between plus = (omega (arith, ord, above-least, up_neg (pos c), dn-neg (pos c)), above_most)
  between minus = (below-least, omega (arith, ord, below-most))

-- ---- what a text's value says of its parts

abbrev good_or : Option ℤ → ℤ
good_or (Some v) = v
good_or None = pos 0

abbrev is_good : Option ℤ → Bool
is_good (Some v) = true
is_good None = false

-- its value, and that it has a digit
record Reads (n : Numeral) (v : ℤ) : Type 0 where
  value : nearest n ≡ v
  digit : some (n.whole ++ decimals n.fraction) ≡ true

reads : (n : Numeral) (v : ℤ) → value_of n ≡ Some v → Reads n v
unfolding value_of
reads n v = go (some (n.whole ++ decimals n.fraction)) (in_range (nearest n)) refl
  where
    go : (a b : Bool) → some (n.whole ++ decimals n.fraction) ≡ a → cond a (cond b (Some (nearest n)) None) None ≡ Some v → Reads n v
    go true true e h = record { value = ap good_or h; digit = e }
    go true false e h = absurd (true≢false (sym (ap is_good h)))
    go false b e h = absurd (true≢false (sym (ap is_good h)))

-- the size of a whole number of ten-thousands
kept-size : (z : ℤ) (c : ℕ) → neg_ℤ (pos (c * 10000)) ≤ᶻ kept z → kept z ≤ᶻ pos (c * 10000) → nat_abs z ≤ c
kept-size z c l h = omega (arith, ord, up-mul z (pos 10000), dn-mul z (pos 10000), abs z, up_neg (pos (c * 10000)), dn-neg (pos (c * 10000)), l, h)

-- ---- digits and sign

few : (ws : List ℕ) → Digits ws → worth ws < 10 ^ length ws
few ws h = omega (arith, worth-below 0 ws h, ten-pow (length ws))

sign-long : (z : ℤ) (s : Sign) → (z <ᶻ pos 0 → length (sign_text s) ≡ 1) → length (sign z) ≤ length (sign_text s)
sign-long (pos n) s h = omega arith
sign-long (negsuc n) s h = omega (arith, h (omega (arith, ord)))

-- a text of these parts, with n digits before the point and m bytes after them: its value is at most w + 1 in size
abbrev written : Sign → List ℕ → Fraction → Numeral
written s ws f = record { sign = s; whole = ws; fraction = f }

module _ (s : Sign) (ws : List ℕ) (f : Fraction) (h : Digits ws) (k : Digits (decimals f)) (z : ℤ) (r : Reads (written s ws f) (kept z)) where
  abbrev ds : List ℕ
  ds = decimals f

  all-worth : worth (ws ++ ds) + 1 ≤ (worth ws + 1) * ten (length ds)
  all-worth = rw (worth-append 0 ws ds) (worth-below (worth ws) ds k)

  scaled : worth (ws ++ ds) * 10000 ≤ (worth ws + 1) * 10000 * ten (length ds)
  scaled = let a = all-worth in omega (arith, a)

  size : nat_abs z ≤ worth ws + 1
  size =
      let b = between (worth (ws ++ ds) * 10000) ((worth ws + 1) * 10000) (ten (length ds)) (ten-some (length ds)) scaled s in
      kept-size z (worth ws + 1)
      (subst (λ (y : ℤ). neg_ℤ (pos ((worth ws + 1) * 10000)) ≤ᶻ y) r.value b.0)
      (subst (λ (y : ℤ). y ≤ᶻ pos ((worth ws + 1) * 10000)) r.value b.1)

-- below zero there is a minus
minus-needed : (s : Sign) (ws : List ℕ) (f : Fraction) → Digits ws → Digits (decimals f) → (z : ℤ) → Reads (written s ws f) (kept z) → z <ᶻ pos 0 → length (sign_text s) ≡ 1
minus-needed minus ws f h k z r l = refl
minus-needed plus ws f h k z r l = refl
minus-needed bare ws f h k z r l =
    let ds = decimals f in
    let b = above-least (worth (ws ++ ds) * 10000) ((worth ws + 1) * 10000) (ten (length ds)) (ten-some (length ds)) (scaled bare ws f h k z r) in
    let c : pos 0 ≤ᶻ kept z = subst (λ (y : ℤ). pos 0 ≤ᶻ y) r.value b in
    absurd (omega (arith, ord, up-mul z (pos 10000), dn-mul z (pos 10000), l, c))

-- ---- the claim

digits_long : (ds : List ℕ) → length (digits_text ds) ≡ length ds
digits_long [] = refl
digits_long (d ∷ ds) = ap suc (digits_long ds)

-- a whole number of its own: as many digits
whole-size : (s : Sign) (ws : List ℕ) (z : ℤ) → Reads (written s ws none) (kept z) → nat_abs z ≡ worth (ws ++ [])
whole-size s ws z r = go s (sym (exactly (signed s (worth (ws ++ []) * 10000))) ∙ r.value)
  where
    go : (s : Sign) → signed s (worth (ws ++ []) * 10000) ≡ kept z → nat_abs z ≡ worth (ws ++ [])
    go bare e = omega (arith, ord, up-mul z (pos 10000), dn-mul z (pos 10000), abs z, e)
    go plus e = omega (arith, ord, up-mul z (pos 10000), dn-mul z (pos 10000), abs z, e)
    go minus e = omega (arith, ord, up-mul z (pos 10000), dn-mul z (pos 10000), abs z, up_neg (pos (worth (ws ++ []) * 10000)), dn-neg (pos (worth (ws ++ []) * 10000)), e)

number-long : (s : Sign) (ws : List ℕ) (f : Fraction) → Digits ws → Digits (decimals f) → (z : ℤ) → Reads (written s ws f) (kept z) →
    length (decimal (nat_abs z)) ≤ length ws + length (fraction_text f)
number-long s [] none h k z r = absurd (true≢false (sym r.digit))
number-long s (d ∷ ws) none h k z r =
    let l = decimal-length (length ws) (nat_abs z) (omega (arith, whole-size s (d ∷ ws) z r, ap worth (append-nil (d ∷ ws)), few (d ∷ ws) h)) in
    omega (arith, l)
number-long s ws (point ds) h k z r =
    let l = decimal-length (length ws) (nat_abs z) (omega (arith, size s ws (point ds) h k z r, few ws h, pow-suc 10 (length ws))) in
    omega (arith, l, digits_long ds)

pub shortest : (n : Numeral) → Digits n.whole → Digits (decimals n.fraction) → (z : ℤ) → value_of n ≡ Some (kept z) →
    (byte : ℕ) → length (whole z byte) ≤ length (text n ++ (byte ∷ []))
shortest n h k z e byte =
    let r = reads n (kept z) e in
    let d = number-long n.sign n.whole n.fraction h k z r in
    let m = sign-long z n.sign (minus-needed n.sign n.whole n.fraction h k z r) in
    omega (
      arith,
      d,
      m,
      whole_long z byte,
      length-append (text n) (byte ∷ []),
      length-append (sign_text n.sign) (digits_text n.whole ++ fraction_text n.fraction),
      length-append (digits_text n.whole) (fraction_text n.fraction),
      digits_long n.whole,
    )
