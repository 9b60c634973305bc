-- How a word is read, byte by byte.
use Rattle.std.specs.Prelude.{◌≡◌, ℕ, ◌+◌, ◌-◌, ◌*◌, ◌<◌, ◌≤◌, Bool, true, false, cond, List, [], ◌∷◌, length, drop, ◌≢◌, nat_le, nat_lt, slice_index, refl, None, Some}
use Rattle.std.proofs.lemmas.Bool.{false≢true}
use Prim.Native.Char.{code}
use Rattle.std.proofs.Common.{arith, add-one, drop-cons}
use borrow.Author.Tests.{lt-ltb, le-ltb, ltb-false, leb-true, eq-eqb, ne_eqb}
use Rattle.std.proofs.Math.Seq.{drop-length}
use Rattle.textlines.specs.Word.{is_digit, too_large, signed, value_from, digits_of, whole_of}

pub digit-range : (b : ℕ) → is_digit b ≡ true → (code "0" ≤ b) × (b ≤ code "9")
unfolding is_digit
digit-range b e = go (nat_lt b (code "0")) refl e
  where
    go : (t : Bool) → nat_lt b (code "0") ≡ t → cond t false (nat_le b (code "9")) ≡ true → (code "0" ≤ b) × (b ≤ code "9")
    go true l h = absurd (false≢true h)
    go false l h = (ltb-false b (code "0") l, leb-true b (code "9") h)

-- at the byte of a word at a place
module _ (minus : Bool) (word : List ℕ) (n at : ℕ) (within : at < length word) where
  pub value-more : is_digit (slice_index word at) ≡ true → n < too_large
      → value_from minus n (drop at word) ≡ value_from minus (n * 10 + (slice_index word at - code "0")) (drop (at + 1) word)
  unfolding value_from
  value-more e l = rw (drop-cons word at 0 within, add-one) (rw (e, lt-ltb n too_large l) refl)

  pub value-other : is_digit (slice_index word at) ≡ false → value_from minus n (drop at word) ≡ None
  unfolding value_from
  value-other e = rw (drop-cons word at 0 within) (rw e refl)

  pub value-large : too_large ≤ n → is_digit (slice_index word at) ≡ true → value_from minus n (drop at word) ≡ None
  unfolding value_from
  value-large l e = rw (drop-cons word at 0 within) (rw (e, le-ltb n too_large l) refl)

  pub digits-some : digits_of minus (drop at word) ≡ value_from minus 0 (drop at word)
  unfolding digits_of
  digits-some = rw (drop-cons word at 0 within)

pub value-end : (minus : Bool) (word : List ℕ) (n : ℕ) → value_from minus n (drop (length word) word) ≡ Some (signed minus n)
unfolding value_from
value-end minus word n = rw (drop-length word)

pub whole-empty : (word : List ℕ) → length word ≡ 0 → whole_of word ≡ None
unfolding whole_of
whole-empty [] e = refl
whole-empty (b ∷ bs) e = absurd (omega arith)

pub whole-minus : (word : List ℕ) → slice_index word 0 ≡ code "-" → whole_of word ≡ digits_of true (drop 1 word)
unfolding whole_of
whole-minus [] e = absurd (omega arith)
whole-minus (b ∷ bs) e = rw (eq-eqb b (code "-") e)

pub whole_plain : (word : List ℕ) → (length word ≢ 0) → (slice_index word 0 ≢ code "-") → whole_of word ≡ digits_of false word
unfolding whole_of
whole_plain [] some e = absurd (some refl)
whole_plain (b ∷ bs) some e = rw (ne_eqb b (code "-") e)
