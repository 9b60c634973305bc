-- What the loops of counting go by: letters from the end of a block, bytes up to a letter, groups one by one.
use Rattle.std.specs.Prelude.{Option, Some, None, Bool, true, false, not, ◌||◌, ◌==◌, cond, ◌≡◌, eqb, ltb, length, take, drop, get_or, set}
use Rattle.std.specs.List.{prefix_len, take_while, position, position_or_len}
use Rattle.std.specs.Option.{is_some}
use Rattle.std.proofs.lemmas.List.Folds.{length-prefix_len}
use Rattle.std.proofs.lemmas.List.Quantifiers.{position-Some}
use Rattle.std.proofs.lemmas.Option.{none-some}
use Rattle.std.proofs.lemmas.Bool.{false≢true}
use mathlib.Core.List.{List, [], ◌∷◌}
use Rattle.std.proofs.Math.Path.{refl}
use Prim.Native.Nat.{ℕ, zero, suc, ◌+◌, ◌-◌, ◌<◌, ◌≤◌}
use Rattle.std.proofs.Common.{sym, ap, ◌∙◌, ltb-false, add-one, drop_of_length-le, drop-cons}
use native.Mathlib.Omega.{arith}
use borrow.Author.Tests.{eq-eqb, ne_eqb, eqb-true, lt-ltb, le-ltb}
use Rattle.hpgl.specs.Valid.{Every, none, more}
use Rattle.console.specs.Sums.{added}
use Rattle.counting.specs.declared.names.Letters.{Letters}
use Rattle.counting.specs.declared.refusals.Group.{Group}
use Rattle.counting.specs.declared.refusals.Refusals.{Refusals}
use Rattle.counting.specs.Names.{letter_of, letter_before, letter_end, letterless, seen, last_letter, letters, two_letters, letters_before}
use Rattle.counting.specs.Refusals.{groups, no_group, key_of, group_in, one_more, in_group, noted_of, noted_all, harm_of, harm_in}
use Rattle.counting.specs.Verdict.{total_of}

here : (list : List ℕ) (i : ℕ) → i < length list → drop i list ≡ get_or list i 0 ∷ drop (i + 1) list
here list i h = rw (add-one, drop-cons list i 0)

-- what an option holds, 0 where it holds nothing
abbrev value : Option ℕ → ℕ
value None = 0
value (Some n) = n

-- ---- the last letter

pub some-seen : (n k : ℕ) → seen n ≡ Some k → (n ≡ k) × (n ≡ 0 → ⊥)
unfolding seen
some-seen zero k e = absurd (none-some k e)
some-seen (suc n) k e = (ap value e, λ z. omega (arith, z))

pub none-seen : (n : ℕ) → seen n ≡ None → n ≡ 0
unfolding seen
none-seen zero e = refl
none-seen (suc n) e = absurd (none-some (suc n) (sym e))

past : (l : List ℕ) (n : ℕ) → length l ≤ n → get_or l n 0 ≡ 0
past [] n h = refl
past (a ∷ l) zero h = absurd (omega arith)
past (a ∷ l) (suc n) h = past l n (omega arith)

module _ (bytes : List ℕ) where
  pub letter_at : (n : ℕ) → (n ≡ 0 → ⊥) → letter_before bytes n ≡ letter_of (get_or bytes (n - 1) 0)
  unfolding letter_before
  letter_at zero h = absurd (h refl)
  letter_at (suc n) h = let p : suc n - 1 ≡ n = omega arith in rw p refl

  pub letter-past : (n : ℕ) → length bytes < n → letter_before bytes n ≡ 0
  unfolding letter_before letter_of
  letter-past zero h = absurd (omega arith)
  letter-past (suc n) h = rw (past bytes n (omega arith)) refl

  pub at-letter : (n : ℕ) → 0 < n → (letter_before bytes n ≡ 0 → ⊥) → letter_end bytes n ≡ n
  unfolding letter_end
  at-letter zero h e = absurd (omega arith)
  at-letter (suc n) h e = rw (ne_eqb (letter_before bytes (suc n)) 0 e) refl

  pub at_other : (n : ℕ) → 0 < n → letter_before bytes n ≡ 0 → letter_end bytes n ≡ letter_end bytes (n - 1)
  unfolding letter_end
  at_other zero h e = absurd (omega arith)
  at_other (suc n) h e = let p : suc n - 1 ≡ n = omega arith in rw p (rw (eq-eqb (letter_before bytes (suc n)) 0 e) refl)

-- ---- the last letter as the code finds it, and the last two by it

abbrev place-of : Option (ℕ × ℕ) → ℕ
place-of None = 0
place-of (Some p) = p.0

abbrev letter-of : Option (ℕ × ℕ) → ℕ
letter-of None = 0
letter-of (Some p) = p.1

module _ (bytes : List ℕ) where
  last-end : (n : ℕ) → last_letter bytes n ≡ cond (eqb (letter_end bytes n) 0) None (Some (letter_end bytes n - 1, letter_before bytes (letter_end bytes n)))
  unfolding last_letter letter_end
  last-end zero = refl
  last-end (suc n) = go (eqb (letter_before bytes (suc n)) 0) (last-end n)
    where
      go : (t : Bool) → last_letter bytes n ≡ cond (eqb (letter_end bytes n) 0) None (Some (letter_end bytes n - 1, letter_before bytes (letter_end bytes n)))
          → cond t (last_letter bytes n) (Some (n, letter_before bytes (suc n)))
          ≡ cond (eqb (cond t (letter_end bytes n) (suc n)) 0) None (Some (cond t (letter_end bytes n) (suc n) - 1, letter_before bytes (cond t (letter_end bytes n) (suc n))))
      go true e = e
      go false e = let p : suc n - 1 ≡ n = omega arith in rw (ne_eqb (suc n) 0 (λ z. omega arith), p) refl

  end-none : (n : ℕ) → last_letter bytes n ≡ None → letter_end bytes n ≡ 0
  end-none n e = eqb-true (letter_end bytes n) 0 (go (eqb (letter_end bytes n) 0) (sym (last-end n) ∙ e))
    where
      go : (t : Bool) → cond {A = Option (ℕ × ℕ)} t None (Some (letter_end bytes n - 1, letter_before bytes (letter_end bytes n))) ≡ None → t ≡ true
      go true e = refl
      go false e = absurd (none-some _ (sym e))

  module _ (n m k : ℕ) (e : last_letter bytes n ≡ Some (m, k)) where
    end-some : (letter_end bytes n ≡ 0 → ⊥) × (letter_end bytes n - 1 ≡ m) × (letter_before bytes (letter_end bytes n) ≡ k)
    end-some = go (eqb (letter_end bytes n) 0) refl (sym (last-end n) ∙ e)
      where
        go : (t : Bool) → eqb (letter_end bytes n) 0 ≡ t → cond {A = Option (ℕ × ℕ)} t None (Some (letter_end bytes n - 1, letter_before bytes (letter_end bytes n))) ≡ Some (m, k)
            → (letter_end bytes n ≡ 0 → ⊥) × (letter_end bytes n - 1 ≡ m) × (letter_before bytes (letter_end bytes n) ≡ k)
        go true s e = absurd (none-some _ e)
        go false s e = (λ z. false≢true (sym s ∙ eq-eqb (letter_end bytes n) 0 z), ap place-of e, ap letter-of e)

    pub letters-one : (l : Letters) → last_letter bytes m ≡ None → letters_before l bytes n ≡ letters l.second k
    unfolding letters_before two_letters
    letters-one l f =
        let s = end-some in
        rw (ne_eqb (letter_end bytes n) 0 s.0, s.1, eq-eqb (letter_end bytes m) 0 (end-none m f), s.2) refl

  pub letters-two : (n m k i j : ℕ) (l : Letters) → last_letter bytes n ≡ Some (m, k) → last_letter bytes m ≡ Some (i, j) → letters_before l bytes n ≡ letters j k
  unfolding letters_before two_letters
  letters-two n m k i j l e f =
      let s = end-some n m k e in
      let t = end-some m i j f in
      rw (ne_eqb (letter_end bytes n) 0 s.0, s.1, ne_eqb (letter_end bytes m) 0 t.0, s.2, t.2) refl

  pub letters-none : (n : ℕ) (l : Letters) → last_letter bytes n ≡ None → letters_before l bytes n ≡ l
  unfolding letters_before
  letters-none n l e = rw (eq-eqb (letter_end bytes n) 0 (end-none n e)) refl

-- ---- bytes without letters

module _ (n : ℕ) (bytes : List ℕ) where
  pub letterless-more : (from : ℕ) → 0 < n → from < length bytes → letter_of (get_or bytes from 0) ≡ 0
      → letterless n (drop from bytes) ≡ suc (letterless (n - 1) (drop (from + 1) bytes))
  unfolding letterless
  letterless-more from h k e = go n h
    where
      go : (n : ℕ) → 0 < n → letterless n (drop from bytes) ≡ suc (letterless (n - 1) (drop (from + 1) bytes))
      go zero h = absurd (omega arith)
      go (suc n) h =
          let p : suc n - 1 ≡ n = omega arith in
          rw (p, here bytes from k) (rw (eq-eqb (letter_of (get_or bytes from 0)) 0 e) refl)

  pub letterless-letter : (from : ℕ) → from < length bytes → (letter_of (get_or bytes from 0) ≡ 0 → ⊥) → letterless n (drop from bytes) ≡ 0
  unfolding letterless
  letterless-letter from k e = go n
    where
      go : (n : ℕ) → letterless n (drop from bytes) ≡ 0
      go zero = refl
      go (suc n) = rw (here bytes from k) (rw (ne_eqb (letter_of (get_or bytes from 0)) 0 e) refl)

  pub letterless-end : (from : ℕ) → length bytes ≤ from → letterless n (drop from bytes) ≡ 0
  unfolding letterless
  letterless-end from k = rw (drop_of_length-le bytes k) (go n)
    where
      go : (n : ℕ) → letterless n [] ≡ 0
      go zero = refl
      go (suc n) = refl

pub letterless-none : (bytes : List ℕ) → letterless 0 bytes ≡ 0
unfolding letterless
letterless-none bytes = refl

-- so many bytes there are, and none of them is a letter
pub letterless-few : (n : ℕ) (bytes : List ℕ) → (letterless n bytes ≤ n) × (letterless n bytes ≤ length bytes)
unfolding letterless
letterless-few zero bytes = (omega arith, omega arith)
letterless-few (suc n) [] = (omega arith, omega arith)
letterless-few (suc n) (b ∷ bytes) = go (eqb (letter_of b) 0) (letterless-few n bytes)
  where
    go : (t : Bool) → (letterless n bytes ≤ n) × (letterless n bytes ≤ length bytes)
        → (cond t (suc (letterless n bytes)) 0 ≤ suc n) × (cond t (suc (letterless n bytes)) 0 ≤ suc (length bytes))
    go true h = (omega (arith, h.0), omega (arith, h.1))
    go false h = (omega arith, omega arith)

pub letterless-plain : (n : ℕ) (bytes : List ℕ) → Every (λ (b : ℕ). letter_of b ≡ 0) (take (letterless n bytes) bytes)
unfolding letterless
letterless-plain zero bytes = none
letterless-plain (suc n) [] = none
letterless-plain (suc n) (b ∷ bytes) = go (eqb (letter_of b) 0) refl (letterless-plain n bytes)
  where
    go : (t : Bool) → eqb (letter_of b) 0 ≡ t → Every (λ (b : ℕ). letter_of b ≡ 0) (take (letterless n bytes) bytes)
        → Every (λ (b : ℕ). letter_of b ≡ 0) (take (cond t (suc (letterless n bytes)) 0) (b ∷ bytes))
    go true e h = more (eqb-true (letter_of b) 0 e) h
    go false e h = none

pub letterless_taken : (n : ℕ) (bytes : List ℕ) → length (take_while (λ b. not (is_some (seen (letter_of b)))) (take n bytes)) ≡ letterless n bytes
unfolding letterless seen
letterless_taken n bytes = length-prefix_len (λ b. not (is_some (seen (letter_of b)))) (take n bytes) ∙ go n bytes
  where
    more : (k : ℕ) {m o : ℕ} → m ≡ o → cond (not (is_some (seen k))) (1 + m) 0 ≡ cond (eqb k 0) (suc o) 0
    more zero e = omega (arith, e)
    more (suc k) e = rw (ne_eqb (suc k) 0 (λ z. omega arith)) refl

    go : (n : ℕ) (bytes : List ℕ) → prefix_len (λ b. not (is_some (seen (letter_of b)))) (take n bytes) ≡ letterless n bytes
    go zero bytes = refl
    go (suc n) [] = refl
    go (suc n) (b ∷ bs) = more (letter_of b) (go n bs)

-- ---- groups

module _ (list : List Group) (key i : ℕ) (h : i < length list) where
  group-here : drop i list ≡ get_or list i no_group ∷ drop (i + 1) list
  group-here = rw (add-one, drop-cons list i no_group h) refl

  pub group-same : (get_or list i no_group).key ≡ key → group_in (drop i list) key ≡ 0
  unfolding group_in
  group-same e = rw group-here (rw (eq-eqb (get_or list i no_group).key key e) refl)

  module _ (other : (get_or list i no_group).key ≡ key → ⊥) where
    pub group-free : (get_or list i no_group).key ≡ 0 → group_in (drop i list) key ≡ 0
    unfolding group_in
    group-free e = rw group-here (rw (ne_eqb (get_or list i no_group).key key other, eq-eqb (get_or list i no_group).key 0 e) refl)

    pub group-later : ((get_or list i no_group).key ≡ 0 → ⊥) → group_in (drop i list) key ≡ suc (group_in (drop (i + 1) list) key)
    unfolding group_in
    group-later e = rw group-here (rw (ne_eqb (get_or list i no_group).key key other, ne_eqb (get_or list i no_group).key 0 e) refl)

pub group-none : (list : List Group) (key i : ℕ) → length list ≤ i → group_in (drop i list) key ≡ 0
unfolding group_in
group-none list key i h = rw (drop_of_length-le list h) refl

-- the group of a key, as the search of the list finds it
module _ (key : ℕ) where
  group-place : (list : List Group) → group_in list key ≡ position_or_len (λ (g : Group). (g.key == key) || (g.key == 0)) list
  unfolding group_in
  group-place [] = refl
  group-place (g ∷ list) = go (eqb g.key key) (eqb g.key 0) (group-place list)
    where
      go : (s t : Bool) {m n : ℕ} → m ≡ n → cond s 0 (cond t 0 (suc m)) ≡ cond (not (s || t)) (1 + n) 0
      go true t e = refl
      go false true e = refl
      go false false e = omega (arith, e)

  pub group-found : (list : List Group) (i : ℕ) → position (λ (g : Group). (g.key == key) || (g.key == 0)) list ≡ Some i → (i < length list) × (i ≡ group_in list key)
  group-found list i e =
      let p = λ (g : Group). (g.key == key) || (g.key == 0) in
      ((position-Some p list i no_group e).0, go (ltb (position_or_len p list) (length list)) e ∙ sym (group-place list))
    where
      go : (t : Bool) {n : ℕ} → cond t (Some n) None ≡ Some i → i ≡ n
      go true e = sym (ap value e)
      go false e = absurd (none-some i e)

  pub group-nowhere : (list : List Group) → position (λ (g : Group). (g.key == key) || (g.key == 0)) list ≡ None → length list ≤ group_in list key
  group-nowhere list e =
      let p = λ (g : Group). (g.key == key) || (g.key == 0) in
      rw (group-place list) (ltb-false (position_or_len p list) (length list) (go (ltb (position_or_len p list) (length list)) e))
    where
      go : (t : Bool) → cond t (Some (position_or_len (λ (g : Group). (g.key == key) || (g.key == 0)) list)) None ≡ None → t ≡ false
      go true e = absurd (none-some _ (sym e))
      go false e = refl

-- one more refusal, with its lists written out: its group is found, or there is none
abbrev pub lists : List Group → ℕ → Refusals
lists list others = record { groups = list; others = others }

module _ (list : List Group) (others number : ℕ) (name : Letters) (place : ℕ) {key group : ℕ} (k : key ≡ key_of number name) (g : group ≡ group_in list key) where
  pub noted_in : group < groups → noted_of (lists list others) number name place ≡ lists (set list group (one_more (get_or list group no_group) key place)) others
  unfolding noted_of in_group
  noted_in h = rw (← k, ← g, lt-ltb group groups h) refl

  pub noted-beside : groups ≤ group → noted_of (lists list others) number name place ≡ lists list (added others 1)
  unfolding noted_of in_group
  noted-beside h = rw (← k, ← g, le-ltb group groups h) refl

-- refusals at places one after the other
module _ (r : Refusals) (number : ℕ) (name : Letters) (places : List ℕ) (i : ℕ) where
  pub noted_one : i < length places → noted_all r number name (drop i places) ≡ noted_all (noted_of r number name (get_or places i 0)) number name (drop (i + 1) places)
  unfolding noted_all
  noted_one h = rw (here places i h) refl

  pub noted-none : length places ≤ i → noted_all r number name (drop i places) ≡ r
  unfolding noted_all
  noted-none h = rw (drop_of_length-le places h) refl

-- the sum of what is harmful, and of lengths, one more from the front
pub harm-one : (list : List Group) (others i : ℕ) → i < length list → harm_in (drop i list) others ≡ added (harm_of (get_or list i no_group).key (get_or list i no_group).count) (harm_in (drop (i + 1) list) others)
unfolding harm_in
harm-one list others i h = rw (add-one, drop-cons list i no_group h) refl

pub harm-none : (list : List Group) (others i : ℕ) → length list ≤ i → harm_in (drop i list) others ≡ others
unfolding harm_in
harm-none list others i h = rw (drop_of_length-le list h) refl

pub total-none : (list : List ℕ) (i : ℕ) → length list ≤ i → total_of (drop i list) ≡ 0
unfolding total_of
total-none list i h = rw (drop_of_length-le list h) refl

pub total-one : (list : List ℕ) (i : ℕ) → i < length list → total_of (drop i list) ≡ added (get_or list i 0) (total_of (drop (i + 1) list))
unfolding total_of
total-one list i h = rw (here list i h) refl
