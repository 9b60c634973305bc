-- A whole number's decimal text, as the reader takes it: a sign, digits and no point. It reads as that number.
use Rattle.std.specs.Prelude.{Bool, true, false, cond, List, [], ◌∷◌, ◌++◌, ◌≡◌, refl, ℕ, zero, suc, ◌+◌, ◌*◌, ◌/◌, ◌%◌, ◌≤◌, T, ltb, ℤ, pos, negsuc, neg_ℤ, ◌+ℤ◌, ◌*ℤ◌, None, Some}
use Rattle.std.proofs.Common.{append-nil, sym, ap, ◌∙◌, arith, ltb-true, lt-ltb}
use Prim.Native.Char.{code}
use Rattle.exact.specs.Whole.{◌≤ᶻ◌, ◌<ᶻ◌, is, Z, ord, le-le_z}
use Rattle.exact.specs.Divide.{nearest_div}
use Rattle.exact.specs.Int16.{int16, int16-iff, least16, most16}
use Rattle.exact.specs.Nearest.{nearest-only}
use Rattle.decimals.specs.Decimal.{digit, digits_within, decimal, natural, whole}
use Rattle.numerals.specs.Numeral.{bare, minus, none, Numeral, text, digits_text, Digits, decimals, worth, worth_from, signed, some, in_range, nearest, value_of}
use Rattle.reader.specs.Written.{Literal}

-- ---- digits

-- the digits of a number, as `decimal` has their bytes
figures_within : ℕ → ℕ → List ℕ
figures_within zero n = []
figures_within (suc k) n = cond (ltb n 10) (n ∷ []) (figures_within k (n / 10) ++ (n % 10 ∷ []))

pub figures : ℕ → List ℕ
figures n = figures_within (suc n) n

digits_append : (xs ys : List ℕ) → digits_text (xs ++ ys) ≡ digits_text xs ++ digits_text ys
digits_append [] ys = refl
digits_append (x ∷ xs) ys = ap (λ (l : List ℕ). (code "0" + x) ∷ l) (digits_append xs ys)

within_text : (k n : ℕ) → digits_text (figures_within k n) ≡ digits_within k n
unfolding figures_within digits_within
within_text zero n = refl
within_text (suc k) n = go (ltb n 10) (within_text k (n / 10))
  where
    go : (t : Bool) → digits_text (figures_within k (n / 10)) ≡ digits_within k (n / 10)
        → digits_text (cond t (n ∷ []) (figures_within k (n / 10) ++ (n % 10 ∷ []))) ≡ cond t (digit n ∷ []) (digits_within k (n / 10) ++ (digit (n % 10) ∷ []))
    go true h = refl
    go false h = digits_append (figures_within k (n / 10)) (n % 10 ∷ []) ∙ ap (λ (l : List ℕ). l ++ (digit (n % 10) ∷ [])) h

figures-text : (n : ℕ) → digits_text (figures n) ≡ decimal n
unfolding figures decimal
figures-text n = within_text (suc n) n

both-digits : (xs ys : List ℕ) → Digits xs → Digits ys → Digits (xs ++ ys)
both-digits [] ys h k = k
both-digits (x ∷ xs) ys h k = (h.0, both-digits xs ys h.1 k)

within-digits : (k n : ℕ) → Digits (figures_within k n)
unfolding figures_within
within-digits zero n = tt
within-digits (suc k) n = go (ltb n 10) refl (within-digits k (n / 10))
  where
    go : (t : Bool) → ltb n 10 ≡ t → Digits (figures_within k (n / 10)) → Digits (cond t (n ∷ []) (figures_within k (n / 10) ++ (n % 10 ∷ [])))
    go true e h = (ltb-true n 10 e, tt)
    go false e h = both-digits (figures_within k (n / 10)) (n % 10 ∷ []) h (omega arith, tt)

figures-digits : (n : ℕ) → Digits (figures n)
unfolding figures
figures-digits n = within-digits (suc n) n

worth-last : (v : ℕ) (ds : List ℕ) (d : ℕ) → worth_from v (ds ++ (d ∷ [])) ≡ worth_from v ds * 10 + d
worth-last v [] d = refl
worth-last v (e ∷ ds) d = worth-last (v * 10 + e) ds d

within-worth : (k n : ℕ) → n ≤ k → worth (figures_within (suc k) n) ≡ n
unfolding figures_within
within-worth zero n h = rw (lt-ltb n 10 (omega arith)) (omega arith)
within-worth (suc k) n h = go (ltb n 10) refl (within-worth k (n / 10) (omega arith))
  where
    go : (t : Bool) → ltb n 10 ≡ t → worth (figures_within (suc k) (n / 10)) ≡ n / 10 → worth (cond t (n ∷ []) (figures_within (suc k) (n / 10) ++ (n % 10 ∷ []))) ≡ n
    go true e w = omega arith
    go false e w = worth-last 0 (figures_within (suc k) (n / 10)) (n % 10) ∙ ap (λ (w : ℕ). w * 10 + n % 10) w ∙ omega arith

figures-worth : (n : ℕ) → worth (figures n) ≡ n
unfolding figures
figures-worth n = within-worth n n (omega arith)

some-last : (ds es : List ℕ) (d : ℕ) → some ((ds ++ (d ∷ [])) ++ es) ≡ true
some-last [] es d = refl
some-last (e ∷ ds) es d = refl

figures-some : (n : ℕ) (es : List ℕ) → some (figures n ++ es) ≡ true
unfolding figures figures_within
figures-some n es = go (ltb n 10)
  where
    go : (t : Bool) → some (cond t (n ∷ []) (figures_within n (n / 10) ++ (n % 10 ∷ [])) ++ es) ≡ true
    go true = refl
    go false = some-last (figures_within n (n / 10)) es (n % 10)

-- ---- the whole number

pub numeral_of : ℤ → Numeral
numeral_of (pos n) = record { sign = bare; whole = figures n; fraction = none }
numeral_of (negsuc n) = record { sign = minus; whole = figures (suc n); fraction = none }

-- its text is the one that is written, but for the byte after it
plain : (n : ℕ) → digits_text (figures n) ++ [] ≡ decimal n
plain n = append-nil (digits_text (figures n)) ∙ figures-text n

pub numeral-text : (z : ℤ) (byte : ℕ) → text (numeral_of z) ++ (byte ∷ []) ≡ whole z byte
unfolding numeral_of whole natural
numeral-text (pos n) byte = ap (λ (l : List ℕ). l ++ (byte ∷ [])) (plain n)
numeral-text (negsuc n) byte = ap (λ (l : List ℕ). code "-" ∷ (l ++ (byte ∷ []))) (plain (suc n))

-- in ten-thousandths
abbrev pub kept : ℤ → ℤ
kept z = z *ℤ pos 10000

-- a whole number of times the divisor
pub multiple : (z d : ℤ) → pos 0 <ᶻ d → nearest_div (z *ℤ d) d ≡ z
multiple z d h = sym (nearest-only (z *ℤ d) d z h (low z d h) (high z d h))
  where
    low : (z d : ℤ) → pos 0 <ᶻ d → pos 2 *ℤ d *ℤ z ≤ᶻ pos 2 *ℤ (z *ℤ d) +ℤ d
    low z d = rw (is z, is d) (simp Z (omega arith))

    high : (z d : ℤ) → pos 0 <ᶻ d → pos 2 *ℤ (z *ℤ d) +ℤ d <ᶻ pos 2 *ℤ d *ℤ (z +ℤ pos 1)
    high z d = rw (is z, is d) (simp Z (omega arith))

pub exactly : (z : ℤ) → nearest_div z (pos 1) ≡ z
exactly z = ap (λ (y : ℤ). nearest_div y (pos 1)) (once z) ∙ multiple z (pos 1) (omega (arith, ord))
  where
    once : (z : ℤ) → z ≡ z *ℤ pos 1
    once (pos n) = simp Z (omega arith)
    once (negsuc n) = simp Z (omega arith)

pub rounded-kept : (z : ℤ) → nearest_div (kept z) (pos 10000) ≡ z
rounded-kept z = multiple z (pos 10000) (omega (arith, ord))

signed-kept : (z : ℤ) → signed (numeral_of z).sign (worth ((numeral_of z).whole ++ []) * 10000) ≡ kept z
unfolding numeral_of
signed-kept (pos n) = ap (λ (k : ℕ). pos (k * 10000)) (ap worth (append-nil (figures n)) ∙ figures-worth n) ∙ go n
  where
    go : (n : ℕ) → pos (n * 10000) ≡ pos n *ℤ pos 10000
    go n = simp Z (omega arith)
signed-kept (negsuc n) = ap (λ (k : ℕ). neg_ℤ (pos (k * 10000))) (ap worth (append-nil (figures (suc n))) ∙ figures-worth (suc n)) ∙ go n
  where
    go : (n : ℕ) → neg_ℤ (pos (suc n * 10000)) ≡ negsuc n *ℤ pos 10000
    go n = simp Z (omega arith)

numeral-nearest : (z : ℤ) → nearest (numeral_of z) ≡ kept z
unfolding numeral_of
numeral-nearest (pos n) = ap (λ (y : ℤ). nearest_div y (pos 1)) (signed-kept (pos n)) ∙ exactly (kept (pos n))
numeral-nearest (negsuc n) = ap (λ (y : ℤ). nearest_div y (pos 1)) (signed-kept (negsuc n)) ∙ exactly (kept (negsuc n))

kept-range : (z : ℤ) → int16 z ≡ true → in_range (kept z) ≡ true
kept-range z h =
    let b = (int16-iff z).0 h in
    rw (le-le_z {a = least16 *ℤ pos 10000} {b = kept z} (low z b.0), le-le_z {a = kept z} {b = most16 *ℤ pos 10000 +ℤ pos 9999} (high z b.1)) refl
  where
    low : (z : ℤ) → least16 ≤ᶻ z → least16 *ℤ pos 10000 ≤ᶻ z *ℤ pos 10000
    low z = rw (is z) (simp Z (omega arith))

    high : (z : ℤ) → z ≤ᶻ most16 → z *ℤ pos 10000 ≤ᶻ most16 *ℤ pos 10000 +ℤ pos 9999
    high z = rw (is z) (simp Z (omega arith))

numeral-some : (z : ℤ) → some ((numeral_of z).whole ++ []) ≡ true
unfolding numeral_of
numeral-some (pos n) = figures-some n []
numeral-some (negsuc n) = figures-some (suc n) []

judged : (z : ℤ) → int16 z ≡ true → cond true (cond (in_range (kept z)) (Some (kept z)) None) None ≡ Some (kept z)
judged z h = rw (kept-range z h) refl

pub numeral-value : (z : ℤ) → int16 z ≡ true → value_of (numeral_of z) ≡ Some (kept z)
unfolding value_of numeral_of
numeral-value (pos n) h =
    (λ i. cond (numeral-some (pos n) i) (cond (in_range (numeral-nearest (pos n) i)) (Some (numeral-nearest (pos n) i)) None) None) ∙ judged (pos n) h
numeral-value (negsuc n) h =
    (λ i. cond (numeral-some (negsuc n) i) (cond (in_range (numeral-nearest (negsuc n) i)) (Some (numeral-nearest (negsuc n) i)) None) None) ∙ judged (negsuc n) h

-- as the reader's laws want it
digits-some : (ds : List ℕ) → some (ds ++ []) ≡ true → T (some (digits_text ds ++ []))
digits-some [] e = absurd (no e)
  where
    no : false ≡ true → ⊥
    no e = let z : ◌≡◌ {A = ℕ} 0 1 = cc in omega arith
digits-some (d ∷ ds) e = tt

pub numeral-written : (z : ℤ) → T (some (text (numeral_of z)))
unfolding numeral_of
numeral-written (pos n) = digits-some (figures n) (figures-some n [])
numeral-written (negsuc n) = tt

pub numeral-whole : (z : ℤ) → Digits (numeral_of z).whole
unfolding numeral_of
numeral-whole (pos n) = figures-digits n
numeral-whole (negsuc n) = figures-digits (suc n)

pub numeral-fraction : (z : ℤ) → Digits (decimals (numeral_of z).fraction)
unfolding numeral_of
numeral-fraction (pos n) = tt
numeral-fraction (negsuc n) = tt

abbrev pub literal : (z : ℤ) → int16 z ≡ true → Literal
literal z h = record {
  numeral = numeral_of z;
  value = kept z;
  written = numeral-written z;
  whole = numeral-whole z;
  fraction = numeral-fraction z;
  good = numeral-value z h;
}
