-- Decimals past the fourth, however many: where they stand against a half of the fourth, one digit after the other, and that rounding by it gives the nearest
-- ten-thousandth of the whole text, "a half going to the larger number".
-- Why: with v what they are worth and 10^k, a digit more makes them 10 v + d and 10^(k+1), and of 2 v against 10^k only a half so far can still change.
use Rattle.std.specs.Prelude.{◌≡◌, refl, Bool, true, false, cond, ℕ, zero, suc, ◌+◌, ◌*◌, ◌≤◌, ◌<◌, ltb, eqb, pos, neg_ℤ, ◌*ℤ◌, length, drop}
use Rattle.std.proofs.Common.{sym, ◌∙◌, subst, mul-le-mul, le_refl, add-mul, mul_assoc, suc-mul, ltb-true, ltb-false, eqb-true}
use Rattle.std.proofs.Math.Path.{ap}
use mathlib.Core.List.{List, [], ◌∷◌}
use native.Mathlib.Omega.{arith}
use Rattle.std.proofs.lemmas.Bool.{eqb-false}
use Rattle.exact.specs.Whole.{Z, ord}
use Rattle.exact.specs.Laws.{neg-*ℤ}
use Rattle.exact.specs.Divide.{nearest_div}
use Rattle.exact.specs.Nearest.{nearest-only}
use Rattle.exact.proofs.NearestLaws.{nearest-times}
use Rattle.numerals.specs.Number.{places, past_of, signed_of, carry_of}
use Rattle.numerals.specs.Numeral.{Digits, worth, worth_from, ten}

-- Exactly k digits: places that are not written hold zeros.
abbrev pub exactly : ℕ → List ℕ → List ℕ
exactly zero ds = []
exactly (suc k) [] = 0 ∷ exactly k []
exactly (suc k) (d ∷ ds) = d ∷ exactly k ds

-- ---- where the decimals past the fourth stand

unfoldable pub tail_from : ℕ → List ℕ → ℕ
tail_from t [] = t
tail_from t (d ∷ ds) = tail_from (past_of t d) ds

-- v / 10^k against a half
pub data Stands (v k : ℕ) : ℕ → Type 0 where
  none : v ≡ 0 → k ≡ 0 → Stands v k 4
  below : 2 * v + 2 ≤ ten k → Stands v k 5
  equal : 2 * v ≡ ten k → Stands v k 6
  above : ten k < 2 * v → Stands v k 7

step : (v k t d : ℕ) → d < 10 → Stands v k t → Stands (v * 10 + d) (suc k) (past_of t d)
unfolding past_of
step v k t d h (none e f) = go (ltb d 5) (eqb d 5) refl refl
  where
    go : (a b : Bool) → ltb d 5 ≡ a → eqb d 5 ≡ b → Stands (v * 10 + d) (suc k) (cond a 5 (cond b 6 7))
    go true b p q = let l = ltb-true d 5 p in let z = ap ten f in below (omega (arith, l, e, z))
    go false true p q = let l = eqb-true d 5 q in let z = ap ten f in equal (omega (arith, l, e, z))
    go false false p q = let l = ltb-false d 5 p in let n = eqb-false d 5 q in let z = ap ten f in above (omega (arith, l, n, e, z))
step v k t d h (below l) = below (omega (arith, l, h))
step v k t d h (equal e) = go (eqb d 0) refl
  where
    go : (a : Bool) → eqb d 0 ≡ a → Stands (v * 10 + d) (suc k) (cond a 6 7)
    go true p = let z = eqb-true d 0 p in equal (omega (arith, z, e))
    go false p = let z = eqb-false d 0 p in above (omega (arith, z, e))
step v k t d h (above l) = above (omega (arith, l))

-- after any digits, from any tail that stands
pub tail-stands : (v k t : ℕ) (ds : List ℕ) → Digits ds → Stands v k t → Stands (worth_from v ds) (k + length ds) (tail_from t ds)
unfolding tail_from
tail-stands v k t [] h s = let e : k ≡ k + 0 = omega arith in subst (λ (j : ℕ). Stands v j t) e s
tail-stands v k t (d ∷ ds) h s =
    let e : suc k + length ds ≡ k + suc (length ds) = omega arith in
    subst (λ (j : ℕ). Stands (worth_from (v * 10 + d) ds) j (tail_from (past_of t d) ds)) e (tail-stands (v * 10 + d) (suc k) (past_of t d) ds h.1 (step v k t d h.0 s))

-- ---- rounding by the tail

ten-pos : (k : ℕ) → 1 ≤ ten k
ten-pos zero = omega arith
ten-pos (suc k) = let h = ten-pos k in omega (arith, h)

-- both bounds of the nearest, in naturals
module _ (m v p c : ℕ) where
  rises : 1 ≤ p → p * (2 * c) ≤ 2 * v + p → 2 * v < p * (2 * c) + p → pos (m + c) ≡ nearest_div (pos (m * p + v)) (pos p)
  rises o l u = nearest-only (pos (m * p + v)) (pos p) (pos (m + c)) (simp Z (omega (arith, o))) (simp Z (omega (arith, l))) (simp Z (omega (arith, u)))

  falls : 1 ≤ p → 2 * v ≤ p * (2 * c) + p → p * (2 * c) < 2 * v + p → neg_ℤ (pos (m + c)) ≡ nearest_div (neg_ℤ (pos (m * p + v))) (pos p)
  falls o l u = nearest-only (neg_ℤ (pos (m * p + v))) (pos p) (neg_ℤ (pos (m + c))) (simp Z (omega (arith, o))) (simp Z (omega (arith, l))) (simp Z (omega (arith, u)))

-- m ten-thousandths and the tail v / 10^k, rounded
pub tail-nearest : (negative : Bool) (m v k t : ℕ) → v < ten k → Stands v k t →
    signed_of negative (m + carry_of negative t) ≡ nearest_div (signed_of negative (m * ten k + v)) (pos (ten k))
unfolding signed_of carry_of
tail-nearest false m v k t h (none e f) = let o = ten-pos k in rises m v (ten k) 0 o (omega (arith, e)) (omega (arith, e, o))
tail-nearest false m v k t h (below l) = let o = ten-pos k in rises m v (ten k) 0 o (omega arith) (omega (arith, l))
tail-nearest false m v k t h (equal e) = let o = ten-pos k in rises m v (ten k) 1 o (omega (arith, e)) (omega (arith, e, o))
tail-nearest false m v k t h (above l) = let o = ten-pos k in rises m v (ten k) 1 o (omega (arith, l)) (omega (arith, h))
tail-nearest true m v k t h (none e f) = let o = ten-pos k in falls m v (ten k) 0 o (omega (arith, e)) (omega (arith, o))
tail-nearest true m v k t h (below l) = let o = ten-pos k in falls m v (ten k) 0 o (omega (arith, l)) (omega (arith, o))
tail-nearest true m v k t h (equal e) = let o = ten-pos k in falls m v (ten k) 0 o (omega (arith, e)) (omega (arith, o))
tail-nearest true m v k t h (above l) = let o = ten-pos k in falls m v (ten k) 1 o (omega (arith, h)) (omega (arith, l))

-- ---- a whole text

-- digits before and after
spread : (v : ℕ) (ds : List ℕ) → worth_from v ds ≡ v * ten (length ds) + worth_from 0 ds
spread v [] = omega arith
spread v (d ∷ ds) =
    let p = ten (length ds) in
    let e : (v * 10 + d) * p + worth_from 0 ds ≡ v * (10 * p) + worth_from (0 + d) ds = omega (arith, spread (0 + d) ds, add-mul 0 d p, add-mul (v * 10) d p, mul_assoc v 10 p) in
    spread (v * 10 + d) ds ∙ e

worth-small : (ds : List ℕ) → Digits ds → worth_from 0 ds < ten (length ds)
worth-small [] h = omega arith
worth-small (d ∷ ds) h =
    let p = ten (length ds) in
    let e : worth_from (0 + d) ds < 10 * p = omega (arith, mul-le-mul h.0 (le_refl p), spread (0 + d) ds, worth-small ds h.1, suc-mul d p, add-mul 0 d p) in
    e

-- nothing to round
sharp : (negative : Bool) (m p : ℕ) → 1 ≤ p → signed_of negative m ≡ nearest_div (signed_of negative (m * p)) (pos p)
unfolding signed_of
sharp negative m p o =
    let e : m ≡ m + 0 = omega arith in
    let f : m * p + 0 ≡ m * p = omega arith in
    ap (signed_of negative) e ∙ go negative ∙ ap (λ (n : ℕ). nearest_div (signed_of negative n) (pos p)) f
  where
    go : (negative : Bool) → signed_of negative (m + 0) ≡ nearest_div (signed_of negative (m * p + 0)) (pos p)
    go false = rises m 0 p 0 o (omega arith) (omega (arith, o))
    go true = falls m 0 p 0 o (omega arith) (omega (arith, o))

signed-times : (negative : Bool) (n k : ℕ) → signed_of negative n *ℤ pos k ≡ signed_of negative (n * k)
unfolding signed_of
signed-times false n k = refl
signed-times true n k = neg-*ℤ (pos n) (pos k)

-- "the nearest ten-thousandth": of w before the point and these decimals after it, (all digits × 10,000) / 10^decimals
module _ (negative : Bool) (w : ℕ) where
  abbrev Nearest : ℕ → List ℕ → Type 0
  Nearest m ds = signed_of negative m ≡ nearest_div (signed_of negative (worth_from w ds * 10000)) (pos (ten (length ds)))

  short : (m : ℕ) (ds : List ℕ) → worth_from w ds * 10000 ≡ m * ten (length ds) → Nearest m ds
  short m ds e = sharp negative m (ten (length ds)) (ten-pos (length ds)) ∙ ap (λ (n : ℕ). nearest_div (signed_of negative n) (pos (ten (length ds)))) (sym e)

  long : (a b c d : ℕ) (ds : List ℕ) → Digits ds →
      Nearest ((((w * 10 + a) * 10 + b) * 10 + c) * 10 + d + carry_of negative (tail_from places ds)) (a ∷ b ∷ c ∷ d ∷ ds)
  long a b c d ds h =
      let m = (((w * 10 + a) * 10 + b) * 10 + c) * 10 + d in
      let p = ten (length ds) in
      let v = worth_from 0 ds in
      let n : (m * p + v) * 10000 ≡ worth_from m ds * 10000 = omega (arith, spread m ds) in
      let q : p * 10000 ≡ 10 * (10 * (10 * (10 * p))) = omega arith in
      let k : 0 + length ds ≡ length ds = omega arith in
      let t : Stands v (length ds) (tail_from places ds) = subst (λ (j : ℕ). Stands v j (tail_from places ds)) k (tail-stands 0 0 places ds h (none refl refl)) in
      tail-nearest negative m v (length ds) (tail_from places ds) (worth-small ds h) t
      ∙ nearest-times (signed_of negative (m * p + v)) (pos p) (pos 10000) (λ e. omega (arith, ord, ten-pos (length ds), e)) (omega (arith, ord))
      ∙ (λ i. nearest_div ((signed-times negative (m * p + v) 10000 ∙ ap (signed_of negative) n) i) (pos (q i)))

  -- for texts of any length: four places, and one more or not by the tail
  pub text-nearest : (ds : List ℕ) → Digits ds → Nearest (w * 10000 + worth (exactly 4 ds) + carry_of negative (tail_from places (drop 4 ds))) ds
  unfolding carry_of tail_from
  text-nearest [] h = short _ [] (omega arith)
  text-nearest (a ∷ []) h = short _ (a ∷ []) (omega arith)
  text-nearest (a ∷ b ∷ []) h = short _ (a ∷ b ∷ []) (omega arith)
  text-nearest (a ∷ b ∷ c ∷ []) h = short _ (a ∷ b ∷ c ∷ []) (omega arith)
  text-nearest (a ∷ b ∷ c ∷ d ∷ ds) h =
      let e : w * 10000 + ((((0 + a) * 10 + b) * 10 + c) * 10 + d) ≡ (((w * 10 + a) * 10 + b) * 10 + c) * 10 + d = omega arith in
      ap (λ (n : ℕ). signed_of negative (n + carry_of negative (tail_from places ds))) e ∙ long a b c d ds h.1.1.1.1
