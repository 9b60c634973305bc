-- One byte after another of texts that are compared, and the lines of a text.
use Rattle.std.specs.Prelude.{◌≡◌, ◌==◌, ℕ, suc, ◌+◌, ◌<◌, ◌≤◌, cond, List, length, drop, ◌≢◌, slice_index, slice_index_or, count_by}
use Rattle.std.proofs.Math.Path.{refl, ap}
use Rattle.std.proofs.Common.{add-one, arith, eq-eqb, ne_eqb}
use Rattle.std.proofs.lemmas.List.Recursion.{is_count_by}
use Rattle.std.proofs.Math.ListN.{drop_of_length-le}
use Rattle.std.proofs.Math.Seq.{drop-cons}
use Rattle.textlines.specs.Text.{line_end}
use Rattle.delivery.specs.Compared.{common, line_ends}

module _ (a b : List ℕ) (i : ℕ) (h : i < length a) where
  pub common-more : i < length b → slice_index a i ≡ slice_index b i → common (drop i a) (drop i b) ≡ suc (common (drop (i + 1) a) (drop (i + 1) b))
  unfolding common
  common-more k e = rw (drop-cons a i 0 h, drop-cons b i 0 k, add-one) (rw (eq-eqb (slice_index a i) (slice_index b i) e) refl)

  pub common-end : length b ≤ i → common (drop i a) (drop i b) ≡ 0
  unfolding common
  common-end k = rw (drop-cons a i 0 h, drop_of_length-le b k) refl

  pub common-other : i < length b → (slice_index a i ≢ slice_index b i) → common (drop i a) (drop i b) ≡ 0
  unfolding common
  common-other k e = rw (drop-cons a i 0 h, drop-cons b i 0 k) (rw (ne_eqb (slice_index a i) (slice_index b i) e) refl)

pub common-done : (a b : List ℕ) (i : ℕ) → length a ≤ i → common (drop i a) (drop i b) ≡ 0
unfolding common
common-done a b i h = rw (drop_of_length-le a h) refl

-- lines are counted as std counts
pub line_ends-is : (text : List ℕ) → line_ends text ≡ count_by (λ b. b == line_end) text
unfolding line_ends
line_ends-is =
    is_count_by line_ends (λ b. b == line_end) refl
    (λ b bs. let e : suc (line_ends bs) ≡ 1 + line_ends bs = omega arith in ap (λ (n : ℕ). cond (b == line_end) n (line_ends bs)) e)

module _ (text : List ℕ) (i : ℕ) (h : i < length text) where
  pub ends_more : slice_index_or text i 0 ≡ line_end → line_ends (drop i text) ≡ suc (line_ends (drop (i + 1) text))
  unfolding line_ends
  ends_more e = rw (drop-cons text i 0 h, add-one) (rw (eq-eqb (slice_index text i) line_end e) refl)

  pub ends-other : (slice_index text i ≢ line_end) → line_ends (drop i text) ≡ line_ends (drop (i + 1) text)
  unfolding line_ends
  ends-other e = rw (drop-cons text i 0 h, add-one) (rw (ne_eqb (slice_index text i) line_end e) refl)

pub ends-done : (text : List ℕ) (i : ℕ) → length text ≤ i → line_ends (drop i text) ≡ 0
unfolding line_ends
ends-done text i h = rw (drop_of_length-le text h) refl
