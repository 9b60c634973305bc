-- The list of numbers counts the lines that are painted twice (Said): the slots have the last 4096 lines, and marks lose none of them.
use Rattle.std.specs.Prelude.{Bool, ◌≡◌, eqb, ℤ, replicate}
use Rattle.std.proofs.Math.Bool.{true, false, cond}
use Rattle.std.proofs.lemmas.Bool.{false≢true}
use mathlib.Core.List.{List, [], ◌∷◌}
use Rattle.std.proofs.Math.Path.{refl, ap}
use Rattle.std.proofs.Common.{sym, ◌∙◌, subst, get_or-set_same}
use Prim.Native.Nat.{ℕ, zero, suc, ◌+◌, ◌-◌, ◌*◌, ◌%◌, ◌≤◌, ◌<◌}
use native.Mathlib.Omega.{arith}
use Rattle.std.proofs.Math.Dec.{ltb}
use Rattle.std.proofs.Math.IntN.{pos, nat_abs}
use Rattle.std.proofs.Math.ListN.{length, get_or, set, length-set}
use Rattle.std.proofs.lemmas.List.{length-replicate, get_or-replicate}
use Rattle.std.proofs.Math.Seq.{get_or-set_other}
use borrow.Author.Tests.{ltb-true, ltb-false, eqb-true, eqb-false, eq-eqb, ne_eqb, le-ltb, le-leb}
use Rattle.console.specs.Sums.{largest, added}
use Rattle.rows.specs.declared.Row.{Row}
use Rattle.rows.specs.Rows.{row, row_at, with_row}
use Rattle.repeats.specs.Repeats.{most, count_at, twice_at, first_at, marked_at, room, size_at, other_way, same, mark_of, kept_of, among, sought_in, number_of, kept_with, again_of, painted_of, painted_all, told_of}
use Rattle.repeats.specs.Laws.{mark-below, mark-same, sought-never, sought-kept, sought-gone}
use Rattle.repeats.specs.Said.{within, recent, twice_in, first_in}

-- ---- what is found, in the slots and among the lines before

abbrev pub no_line : Row
no_line = row (pos 0) (pos 0) (pos 0) (pos 0) (pos 0)

or_later : (s t : Bool) → t ≡ true → cond s true t ≡ true
or_later true t e = refl
or_later false t e = e

or_else : {P : Type 0} (s t : Bool) → (s ≡ true → P) → (t ≡ true → P) → cond s true t ≡ true → P
or_else true t f g e = f refl
or_else false t f g e = g e

never_true : (t : Bool) → (t ≡ true → ⊥) → t ≡ false
never_true true h = absurd (h refl)
never_true false h = refl

alike : (s t : Bool) → (s ≡ true → t ≡ true) → (t ≡ true → s ≡ true) → s ≡ t
alike true t f g = sym (f refl)
alike false true f g = g refl
alike false false f g = refl

module _ (l : Row) where
  within-here : (n : ℕ) (past : List Row) (i : ℕ) → i < n → i < length past → same l (get_or past i no_line) ≡ true → within n past l ≡ true
  unfolding within
  within-here zero past i h k e = absurd (omega (arith, h))
  within-here (suc n) [] i h k e = absurd (omega (arith, k))
  within-here (suc n) (m ∷ past) zero h k e = rw e refl
  within-here (suc n) (m ∷ past) (suc i) h k e = or_later (same l m) (within n past l) (within-here n past i (omega (arith, h)) (omega (arith, k)) e)

  within-found : {P : Type 0} (n : ℕ) (past : List Row) → ((i : ℕ) → i < n → i < length past → same l (get_or past i no_line) ≡ true → P) → within n past l ≡ true → P
  unfolding within
  within-found zero past f e = absurd (false≢true e)
  within-found (suc n) [] f e = absurd (false≢true e)
  within-found (suc n) (m ∷ past) f e =
      or_else (same l m) (within n past l) (f 0 (omega arith) (omega arith)) (within-found n past (λ i h k. f (suc i) (omega (arith, h)) (omega (arith, k)))) e

  among-here : (kept : List ℤ) (n j : ℕ) → j < n → same l (row_at kept (j * 5)) ≡ true → among kept n l ≡ true
  unfolding among
  among-here kept zero j h e = absurd (omega (arith, h))
  among-here kept (suc n) j h e = go (ltb j n) refl (λ q. among-here kept n j q e)
    where
      go : (t : Bool) → ltb j n ≡ t → (j < n → among kept n l ≡ true) → cond (same l (row_at kept (n * 5))) true (among kept n l) ≡ true
      go true q f = or_later (same l (row_at kept (n * 5))) (among kept n l) (f (ltb-true j n q))
      go false q f =
          let is : j ≡ n = omega (arith, h, ltb-false j n q) in
          let here : same l (row_at kept (n * 5)) ≡ true = ap (λ (k : ℕ). same l (row_at kept (k * 5))) (sym is) ∙ e in
          rw here refl

  among-found : {P : Type 0} (kept : List ℤ) (n : ℕ) → ((j : ℕ) → j < n → same l (row_at kept (j * 5)) ≡ true → P) → among kept n l ≡ true → P
  unfolding among
  among-found kept zero f e = absurd (false≢true e)
  among-found kept (suc n) f e =
      or_else (same l (row_at kept (n * 5))) (among kept n l) (f n (omega arith)) (among-found kept n (λ j h. f j (omega (arith, h)))) e

-- ---- the list of numbers against the lines before, newest first

-- each of the last 4096 is in its slot; and the last line of a mark, counted from 1, is no older than any line that has it
record Holds (kept : List ℤ) (past : List Row) : Type 0 where
  pub long : room ≤ length kept
  pub count : size_at kept count_at ≡ length past
  pub few : size_at kept twice_at ≤ length past
  pub slots : (i : ℕ) → i < most → i < length past → row_at kept ((length past - 1 - i) % most * 5) ≡ get_or past i no_line
  pub marked : (i : ℕ) → i < length past → length past - i ≤ size_at kept (marked_at + mark_of (get_or past i no_line))

abbrev most_lines : ℕ
most_lines = 9223372036854775807

-- a line is found if it is one of the recent ones
module _ (kept : List ℤ) (past : List Row) (l : Row) (h : Holds kept past) where
  slot-there : (n i : ℕ) → i < most → i < n → (n - 1 - i) % most < kept_of n
  unfolding kept_of
  slot-there n i a b = go (ltb n most) refl
    where
      go : (t : Bool) → ltb n most ≡ t → (n - 1 - i) % most < cond t n most
      go true e = omega (arith, b, ltb-true n most e)
      go false e = omega arith

  slot-few : (n j : ℕ) → j < kept_of n → (j < n) × (j < most)
  unfolding kept_of
  slot-few n j = go (ltb n most) refl
    where
      go : (t : Bool) → ltb n most ≡ t → j < cond t n most → (j < n) × (j < most)
      go true e k = (k, omega (arith, k, ltb-true n most e))
      go false e k = (omega (arith, k, ltb-false n most e), k)

  all_slots : among kept (kept_of (length past)) l ≡ recent past l
  unfolding recent
  all_slots =
      alike (among kept (kept_of (length past)) l) (within most past l)
      (among-found l kept (kept_of (length past)) (λ j k e.
      let f = slot-few (length past) j k in
      let n = length past in
      let i = (n - 1 - j) % most in
      let few : i < most = omega arith in
      let old : i < length past = omega (arith, f.0, f.1) in
      let is : (n - 1 - i) % most ≡ j = omega (arith, f.0, f.1) in
      within-here l most past i few old (ap (same l) (sym (h.slots i few old) ∙ ap (λ (s : ℕ). row_at kept (s * 5)) is) ∙ e)))
      (within-found l most past (λ i a b e.
      among-here l kept (kept_of (length past)) ((length past - 1 - i) % most) (slot-there (length past) i a b) (ap (same l) (h.slots i a b) ∙ e)))

  abbrev last : ℕ
  last = size_at kept (marked_at + mark_of l)

  -- lines with these ends have this mark, and the last of it is at least as young
  module _ (small : length past ≤ most_lines) where
    since : (i : ℕ) → i < length past → same l (get_or past i no_line) ≡ true → length past - i ≤ last
    since i b e = rw (mark-same l (get_or past i no_line) e) (h.marked i b)

    plain : added last most ≤ length past → last + most ≤ length past
    unfolding added
    plain = go (ltb (largest - last) most) refl
      where
        go : (t : Bool) → ltb (largest - last) most ≡ t → cond t largest (last + most) ≤ length past → last + most ≤ length past
        go true e k = absurd (omega (arith, k, small))
        go false e k = k

    not-recent : ((i : ℕ) → i < most → i < length past → length past - i ≤ last → ⊥) → recent past l ≡ false
    unfolding recent
    not-recent f = never_true (within most past l) (within-found l most past (λ i a b e. f i a b (since i b e)))

    sought-recent : sought_in kept l ≡ recent past l
    sought-recent = go (eqb last 0) refl (ltb (length past) (added last most)) refl
      where
        go : (s : Bool) → eqb last 0 ≡ s → (t : Bool) → ltb (length past) (added last most) ≡ t → sought_in kept l ≡ recent past l
        go true e t g =
            let z = eqb-true last 0 e in
            sought-never kept l (sym h.count) refl z ∙ sym (not-recent (λ i a b k. omega (arith, b, k, z)))
        go false e true g =
            sought-kept kept l (sym h.count) refl (eqb-false last 0 e) (ltb-true (length past) (added last most) g) ∙ all_slots
        go false e false g =
            let old = ltb-false (length past) (added last most) g in
            sought-gone kept l (sym h.count) refl (eqb-false last 0 e) old ∙ sym (not-recent (λ i a b k. omega (arith, a, k, plain old)))

-- ---- numbers that are written, and those that stay

-- a place that is none of the row's
row_other : (r : Row) (i : ℕ) (zs : List ℤ) (j : ℕ) → (i ≤ j → j < i + 5 → ⊥) → get_or (with_row r i zs) j (pos 0) ≡ get_or zs j (pos 0)
unfolding with_row
row_other r i zs j out =
    let z1 = set zs i r.a in
    let z2 = set z1 (i + 1) r.b in
    let z3 = set z2 (i + 2) r.c in
    let z4 = set z3 (i + 3) r.d in
    get_or-set_other z4 (i + 4) j r.e (pos 0) (λ q. out (omega (arith, q)) (omega (arith, q)))
    ∙ get_or-set_other z3 (i + 3) j r.d (pos 0) (λ q. out (omega (arith, q)) (omega (arith, q)))
    ∙ get_or-set_other z2 (i + 2) j r.c (pos 0) (λ q. out (omega (arith, q)) (omega (arith, q)))
    ∙ get_or-set_other z1 (i + 1) j r.b (pos 0) (λ q. out (omega (arith, q)) (omega (arith, q)))
    ∙ get_or-set_other zs i j r.a (pos 0) (λ q. out (omega (arith, q)) (omega (arith, q)))

row-length : (r : Row) (i : ℕ) (zs : List ℤ) → length (with_row r i zs) ≡ length zs
unfolding with_row
row-length r i zs = simp length-set

row_same : (r : Row) (i : ℕ) (zs : List ℤ) → i + 5 ≤ length zs → row_at (with_row r i zs) i ≡ r
unfolding with_row row_at
row_same r i zs h =
    let z1 = set zs i r.a in
    let z2 = set z1 (i + 1) r.b in
    let z3 = set z2 (i + 2) r.c in
    let z4 = set z3 (i + 3) r.d in
    let l1 : length z1 ≡ length zs = length-set zs i r.a in
    let l2 : length z2 ≡ length zs = length-set z1 (i + 1) r.b ∙ l1 in
    let l3 : length z3 ≡ length zs = length-set z2 (i + 2) r.c ∙ l2 in
    let l4 : length z4 ≡ length zs = length-set z3 (i + 3) r.d ∙ l3 in
    let from4 : (j : ℕ) → j < i + 4 → get_or (set z4 (i + 4) r.e) j (pos 0) ≡ get_or z4 j (pos 0) = λ j k. get_or-set_other z4 (i + 4) j r.e (pos 0) (λ q. omega (arith, q, k)) in
    let from3 : (j : ℕ) → j < i + 3 → get_or (set z4 (i + 4) r.e) j (pos 0) ≡ get_or z3 j (pos 0) = λ j k. from4 j (omega (arith, k)) ∙ get_or-set_other z3 (i + 3) j r.d (pos 0) (λ q. omega (arith, q, k)) in
    let from2 : (j : ℕ) → j < i + 2 → get_or (set z4 (i + 4) r.e) j (pos 0) ≡ get_or z2 j (pos 0) = λ j k. from3 j (omega (arith, k)) ∙ get_or-set_other z2 (i + 2) j r.c (pos 0) (λ q. omega (arith, q, k)) in
    let a = from2 i (omega arith) ∙ get_or-set_other z1 (i + 1) i r.b (pos 0) (λ q. omega (arith, q)) ∙ get_or-set_same zs i r.a (pos 0) (omega (arith, h)) in
    let b = from2 (i + 1) (omega arith) ∙ get_or-set_same z1 (i + 1) r.b (pos 0) (omega (arith, h, l1)) in
    let c = from3 (i + 2) (omega arith) ∙ get_or-set_same z2 (i + 2) r.c (pos 0) (omega (arith, h, l2)) in
    let d = from4 (i + 3) (omega arith) ∙ get_or-set_same z3 (i + 3) r.d (pos 0) (omega (arith, h, l3)) in
    let e = get_or-set_same z4 (i + 4) r.e (pos 0) (omega (arith, h, l4)) in
    λ x. row (a x) (b x) (c x) (d x) (e x)

-- two lists that have the same numbers from i on
rows_alike : (ys zs : List ℤ) (i : ℕ) → ((j : ℕ) → i ≤ j → j < i + 5 → get_or ys j (pos 0) ≡ get_or zs j (pos 0)) → row_at ys i ≡ row_at zs i
unfolding row_at
rows_alike ys zs i f =
    λ x. row (f i (omega arith) (omega arith) x) (f (i + 1) (omega arith) (omega arith) x) (f (i + 2) (omega arith) (omega arith) x) (f (i + 3) (omega arith) (omega arith) x)
    (f (i + 4) (omega arith) (omega arith) x)

number-plain : (n : ℕ) → n < most_lines → number_of (added n 1) ≡ pos (suc n)
unfolding number_of added
number-plain n h = rw (le-ltb (largest - n) 1 (omega (arith, h)), le-leb (n + 1) most_lines (omega (arith, h))) (ap pos (omega arith))

-- ---- one painted again: the count of these, and the first

module _ (kept : List ℤ) (l : Row) where
  abbrev more : List ℤ
  more = set kept twice_at (number_of (added (size_at kept twice_at) 1))

  again-other : (j : ℕ) → (twice_at ≤ j → j < marked_at → ⊥) → get_or (again_of kept l) j (pos 0) ≡ get_or kept j (pos 0)
  unfolding again_of
  again-other j out = go (eqb (size_at kept twice_at) 0)
    where
      unlike : get_or more j (pos 0) ≡ get_or kept j (pos 0)
      unlike = get_or-set_other kept twice_at j (number_of (added (size_at kept twice_at) 1)) (pos 0) (λ q. out (omega (arith, q)) (omega (arith, q)))

      go : (t : Bool) → get_or (cond t (with_row l first_at more) more) j (pos 0) ≡ get_or kept j (pos 0)
      go true = row_other l first_at more j (λ p q. out (omega (arith, p)) (omega (arith, q))) ∙ unlike
      go false = unlike

  again-length : length (again_of kept l) ≡ length kept
  unfolding again_of
  again-length = go (eqb (size_at kept twice_at) 0)
    where
      go : (t : Bool) → length (cond t (with_row l first_at more) more) ≡ length kept
      go true = row-length l first_at more ∙ length-set kept twice_at (number_of (added (size_at kept twice_at) 1))
      go false = length-set kept twice_at (number_of (added (size_at kept twice_at) 1))

  again-twice : room ≤ length kept → size_at kept twice_at < most_lines → size_at (again_of kept l) twice_at ≡ suc (size_at kept twice_at)
  unfolding again_of
  again-twice h few = go (eqb (size_at kept twice_at) 0)
    where
      here : size_at more twice_at ≡ suc (size_at kept twice_at)
      here = ap nat_abs (get_or-set_same kept twice_at (number_of (added (size_at kept twice_at) 1)) (pos 0) (omega (arith, h)) ∙ number-plain (size_at kept twice_at) few)

      go : (t : Bool) → size_at (cond t (with_row l first_at more) more) twice_at ≡ suc (size_at kept twice_at)
      go true = ap nat_abs (row_other l first_at more twice_at (λ p q. omega (arith, p))) ∙ here
      go false = here

holds-again : (kept : List ℤ) (past : List Row) (l : Row) → Holds kept past → size_at kept twice_at < length past → length past ≤ most_lines → Holds (again_of kept l) past
holds-again kept past l h less small = record {
  long = omega (arith, h.long, again-length kept l);
  count = ap nat_abs (again-other kept l count_at (λ p q. omega (arith, p))) ∙ h.count;
  few = omega (arith, less, again-twice kept l h.long (omega (arith, less, small)));
  slots = λ i a b.
      let at = (length past - 1 - i) % most * 5 in
      rows_alike (again_of kept l) kept at (λ j p q. again-other kept l j (λ u v. omega (arith, q, u))) ∙ h.slots i a b;
  marked = λ i b.
      let at = marked_at + mark_of (get_or past i no_line) in
      omega (arith, h.marked i b, ap nat_abs (again-other kept l at (λ u v. omega (arith, v))));
}

-- ---- one line more is kept

slots_apart : (s t j : ℕ) → (s ≡ t → ⊥) → s * 5 ≤ j → j < s * 5 + 5 → t * 5 ≤ j → j < t * 5 + 5 → ⊥
slots_apart s t j ne a b c d = ne (omega (arith, a, b, c, d))

module _ (kept : List ℤ) (past : List Row) (l : Row) (h : Holds kept past) (small : length past < most_lines) where
  abbrev number : ℕ
  number = length past

  abbrev slot : ℕ
  slot = number % most

  abbrev place : ℕ
  place = marked_at + mark_of l

  abbrev laid : List ℤ
  laid = with_row l (slot * 5) kept

  abbrev numbered : List ℤ
  numbered = set laid count_at (pos (suc number))

  abbrev after : List ℤ
  after = set numbered place (pos (suc number))

  kept-is : kept_with kept l ≡ after
  unfolding kept_with
  kept-is =
      let next = ap (λ (k : ℕ). number_of (added k 1)) h.count ∙ number-plain number small in
      λ x. set (set (with_row l (h.count x % most * 5) kept) count_at (next x)) place (next x)

  laid-length : length laid ≡ length kept
  laid-length = row-length l (slot * 5) kept

  numbered-length : length numbered ≡ length kept
  numbered-length = length-set laid count_at (pos (suc number)) ∙ laid-length

  after-length : length after ≡ length kept
  after-length = length-set numbered place (pos (suc number)) ∙ numbered-length

  stays : (j : ℕ) → (j ≡ count_at → ⊥) → (j ≡ place → ⊥) → get_or after j (pos 0) ≡ get_or laid j (pos 0)
  stays j c m = get_or-set_other numbered place j (pos (suc number)) (pos 0) m ∙ get_or-set_other laid count_at j (pos (suc number)) (pos 0) c

  beyond : (j : ℕ) → count_at < j → (j ≡ place → ⊥) → get_or after j (pos 0) ≡ get_or kept j (pos 0)
  beyond j c m = stays j (λ q. omega (arith, c, q)) m ∙ row_other l (slot * 5) kept j (λ u v. omega (arith, c, v))

  after-twice : size_at after twice_at ≡ size_at kept twice_at
  after-twice = ap nat_abs (beyond twice_at (omega arith) (λ q. omega (arith, q)))

  after-place : size_at after place ≡ suc number
  after-place = ap nat_abs (get_or-set_same numbered place (pos (suc number)) (pos 0) (omega (arith, h.long, numbered-length, mark-below l)))

  after-count : size_at after count_at ≡ suc number
  after-count =
      ap nat_abs
      (get_or-set_other numbered place count_at (pos (suc number)) (pos 0) (λ q. omega (arith, q))
      ∙ get_or-set_same laid count_at (pos (suc number)) (pos 0) (omega (arith, h.long, laid-length)))

  after-slots : (i : ℕ) → i < most → i < suc number → row_at after ((suc number - 1 - i) % most * 5) ≡ get_or (l ∷ past) i no_line
  after-slots zero a b =
      let is : suc number - 1 - 0 ≡ number = omega arith in
      ap (λ (k : ℕ). row_at after (k % most * 5)) is
      ∙ rows_alike after laid (slot * 5) (λ j p q. stays j (λ e. omega (arith, q, e)) (λ e. omega (arith, q, e)))
      ∙ row_same l (slot * 5) kept (omega (arith, h.long))
  after-slots (suc i) a b =
      let s = (suc number - 1 - suc i) % most in
      let is : s ≡ (number - 1 - i) % most = omega (arith, b) in
      let apart : s ≡ slot → ⊥ = λ e. omega (arith, a, b, e) in
      rows_alike after kept (s * 5) (λ j p q.
      stays j (λ e. omega (arith, q, e)) (λ e. omega (arith, q, e)) ∙ row_other l (slot * 5) kept j (λ u v. slots_apart s slot j apart p q u v))
      ∙ ap (λ (k : ℕ). row_at kept (k * 5)) is
      ∙ h.slots i (omega (arith, a)) (omega (arith, b))

  after-marked : (i : ℕ) → i < suc number → suc number - i ≤ size_at after (marked_at + mark_of (get_or (l ∷ past) i no_line))
  after-marked zero b = omega (arith, after-place)
  after-marked (suc i) b = go (eqb (mark_of (get_or past i no_line)) (mark_of l)) refl
    where
      go : (t : Bool) → eqb (mark_of (get_or past i no_line)) (mark_of l) ≡ t → suc number - suc i ≤ size_at after (marked_at + mark_of (get_or past i no_line))
      go true e =
          let same_place = ap (λ (k : ℕ). size_at after (marked_at + k)) (eqb-true (mark_of (get_or past i no_line)) (mark_of l) e) ∙ after-place in
          omega (arith, same_place)
      go false e =
          let other = eqb-false (mark_of (get_or past i no_line)) (mark_of l) e in
          let old = ap nat_abs (beyond (marked_at + mark_of (get_or past i no_line)) (omega arith) (λ q. other (omega (arith, q)))) in
          omega (arith, old, h.marked i (omega (arith, b)))

  holds_kept : Holds (kept_with kept l) (l ∷ past)
  holds_kept = subst (λ (ks : List ℤ). Holds ks (l ∷ past)) (sym kept-is) (record {
    long = omega (arith, h.long, after-length);
    count = after-count;
    few = omega (arith, h.few, after-twice);
    slots = after-slots;
    marked = after-marked;
  })

  kept-twice : size_at (kept_with kept l) twice_at ≡ size_at kept twice_at
  kept-twice = ap (λ (ks : List ℤ). size_at ks twice_at) kept-is ∙ after-twice

-- ---- one stroke more

and_none : (n : ℕ) → n ≡ n + 0
and_none n = omega arith

and_one : (n : ℕ) → suc n ≡ n + 1
and_one n = omega arith

-- the lines before the next stroke, and what this one adds
abbrev past_with : Bool → List Row → Row → List Row
past_with dot past l = cond dot past (l ∷ past)

abbrev more_twice : Bool → Bool → ℕ
more_twice dot found = cond dot 0 (cond found 1 0)

module _ (kept : List ℤ) (past : List Row) (l : Row) (h : Holds kept past) (small : length past < most_lines) where
  painted-dot : other_way l l ≡ true → painted_of kept l ≡ kept
  unfolding painted_of
  painted-dot e = rw (le-ltb (length kept) room h.long, e) refl

  painted-line : (t : Bool) → other_way l l ≡ false → recent past l ≡ t → painted_of kept l ≡ cond t (again_of (kept_with kept l) l) (kept_with kept l)
  unfolding painted_of
  painted-line t e r = rw (le-ltb (length kept) room h.long, e, sought-recent kept past l h (omega (arith, small)) ∙ r) refl

  abbrev Stepped : Bool → Bool → List ℤ → Type 0
  Stepped dot found after = Holds after (past_with dot past l) × (size_at after twice_at ≡ size_at kept twice_at + more_twice dot found)

  stepped : Stepped (other_way l l) (recent past l) (painted_of kept l)
  stepped = go (other_way l l) (recent past l) refl refl
    where
      go : (dot found : Bool) → other_way l l ≡ dot → recent past l ≡ found → Stepped dot found (painted_of kept l)
      go true found e r = subst (Stepped true found) (sym (painted-dot e)) (h, and_none (size_at kept twice_at))
      go false true e r =
          let k = holds_kept kept past l h small in
          let t = kept-twice kept past l h small in
          let less : size_at (kept_with kept l) twice_at < suc (length past) = omega (arith, h.few, t) in
          subst (Stepped false true) (sym (painted-line true e r))
          (holds-again (kept_with kept l) (l ∷ past) l k less (omega (arith, small)), again-twice (kept_with kept l) l k.long (omega (arith, less, small)) ∙ ap suc t ∙ and_one (size_at kept twice_at))
      go false false e r = subst (Stepped false false) (sym (painted-line false e r)) (holds_kept kept past l h small, kept-twice kept past l h small ∙ and_none (size_at kept twice_at))

past-few : (dot : Bool) (past : List Row) (l : Row) → length (past_with dot past l) ≤ suc (length past)
past-few true past l = omega arith
past-few false past l = omega arith

twice-one : (past : List Row) (l : Row) (ls : List Row) → twice_in past (l ∷ ls) ≡ more_twice (other_way l l) (recent past l) + twice_in (past_with (other_way l l) past l) ls
unfolding twice_in
twice-one past l ls = go (other_way l l)
  where
    go : (t : Bool) → cond t (twice_in past ls) (cond (recent past l) 1 0 + twice_in (l ∷ past) ls) ≡ more_twice t (recent past l) + twice_in (past_with t past l) ls
    go true = omega arith
    go false = refl

-- ---- all strokes

told-from : (kept : List ℤ) (past ls : List Row) → Holds kept past → length past + length ls ≤ most_lines → (told_of (painted_all kept ls)).twice ≡ size_at kept twice_at + twice_in past ls
unfolding painted_all told_of twice_in
told-from kept past [] h few = rw (le-ltb (length kept) room h.long) (and_none (size_at kept twice_at))
told-from kept past (l ∷ ls) h few =
    let s = stepped kept past l h (omega (arith, few)) in
    told-from (painted_of kept l) (past_with (other_way l l) past l) ls s.0 (omega (arith, few, past-few (other_way l l) past l))
    ∙ omega (arith, s.1, twice-one past l ls)

-- ---- the first of them

again-first : (kept : List ℤ) (l : Row) → room ≤ length kept → row_at (again_of kept l) first_at ≡ cond (eqb (size_at kept twice_at) 0) l (row_at kept first_at)
unfolding again_of
again-first kept l h = go (eqb (size_at kept twice_at) 0)
  where
    go : (t : Bool) → row_at (cond t (with_row l first_at (more kept l)) (more kept l)) first_at ≡ cond t l (row_at kept first_at)
    go true = row_same l first_at (more kept l) (omega (arith, h, length-set kept twice_at (number_of (added (size_at kept twice_at) 1))))
    go false = rows_alike (more kept l) kept first_at (λ j p q. get_or-set_other kept twice_at j (number_of (added (size_at kept twice_at) 1)) (pos 0) (λ e. omega (arith, p, e)))

-- the first that is told after some strokes more
abbrev first_from : List ℤ → List Row → List Row → Row
first_from kept past ls = cond (eqb (size_at kept twice_at) 0) (first_in (row_at kept first_at) past ls) (row_at kept first_at)

module _ (kept : List ℤ) (past : List Row) (l : Row) (h : Holds kept past) (small : length past < most_lines) where
  kept-first : row_at (kept_with kept l) first_at ≡ row_at kept first_at
  kept-first =
      ap (λ (ks : List ℤ). row_at ks first_at) (kept-is kept past l h small)
      ∙ rows_alike (after kept past l h small) kept first_at (λ j p q. beyond kept past l h small j (omega (arith, p)) (λ e. omega (arith, q, e)))

  first_one : (ls : List Row) → first_from (painted_of kept l) (past_with (other_way l l) past l) ls ≡ first_from kept past (l ∷ ls)
  unfolding first_in
  first_one ls = go (other_way l l) (recent past l) refl refl
    where
      go : (dot found : Bool) → other_way l l ≡ dot → recent past l ≡ found →
          first_from (painted_of kept l) (past_with dot past l) ls
          ≡ cond (eqb (size_at kept twice_at) 0) (cond dot (first_in (row_at kept first_at) past ls) (cond found l (first_in (row_at kept first_at) (l ∷ past) ls))) (row_at kept first_at)
      go true found e r = ap (λ (ks : List ℤ). first_from ks past ls) (painted-dot kept past l h small e)
      go false false e r =
          ap (λ (ks : List ℤ). first_from ks (l ∷ past) ls) (painted-line kept past l h small false e r)
          ∙ (λ x. cond (eqb (kept-twice kept past l h small x) 0) (first_in (kept-first x) (l ∷ past) ls) (kept-first x))
      go false true e r =
          let k = holds_kept kept past l h small in
          let t = kept-twice kept past l h small in
          let some = again-twice (kept_with kept l) l k.long (omega (arith, t, h.few, small)) in
          let told : row_at (again_of (kept_with kept l) l) first_at ≡ cond (eqb (size_at kept twice_at) 0) l (row_at kept first_at) = again-first (kept_with kept l) l k.long ∙ (λ x. cond (eqb (t x) 0) l (kept-first x)) in
          ap (λ (ks : List ℤ). first_from ks (l ∷ past) ls) (painted-line kept past l h small true e r)
          ∙ ap (λ (b : Bool). cond b (first_in (row_at (again_of (kept_with kept l) l) first_at) (l ∷ past) ls) (row_at (again_of (kept_with kept l) l) first_at)) (ne_eqb (size_at (again_of (kept_with kept l) l) twice_at) 0 (λ z. omega (arith, some, z)))
          ∙ told

first-from : (kept : List ℤ) (past ls : List Row) → Holds kept past → length past + length ls ≤ most_lines → (told_of (painted_all kept ls)).first ≡ first_from kept past ls
unfolding painted_all told_of first_in
first-from kept past [] h few = rw (le-ltb (length kept) room h.long) (either (eqb (size_at kept twice_at) 0))
  where
    either : (t : Bool) → row_at kept first_at ≡ cond t (row_at kept first_at) (row_at kept first_at)
    either true = refl
    either false = refl
first-from kept past (l ∷ ls) h few =
    let s = stepped kept past l h (omega (arith, few)) in
    first-from (painted_of kept l) (past_with (other_way l l) past l) ls s.0 (omega (arith, few, past-few (other_way l l) past l))
    ∙ first_one kept past l h (omega (arith, few)) ls

-- ---- what surveying starts with: a list of zeros that has room
module _ (n : ℕ) (enough : room ≤ n) where
  abbrev zeros : List ℤ
  zeros = replicate n (pos 0)

  number-zero : (i : ℕ) → i < room → get_or zeros i (pos 0) ≡ pos 0
  number-zero i h = get_or-replicate n i (pos 0) (pos 0) (omega (arith, h, enough))

  none-twice : size_at zeros twice_at ≡ 0
  none-twice = ap nat_abs (number-zero twice_at (omega arith))

  holds-zeros : Holds zeros []
  holds-zeros = record {
    long = omega (arith, enough, length-replicate n (pos 0));
    count = ap nat_abs (number-zero count_at (omega arith));
    few = omega (arith, none-twice);
    slots = λ i a b. absurd (omega (arith, b));
    marked = λ i b. absurd (omega (arith, b));
  }

  none_first : row_at zeros first_at ≡ no_line
  unfolding row_at
  none_first =
      let z : (i : ℕ) → i < room → get_or zeros i (pos 0) ≡ pos 0 = number-zero in
      λ x. row (z first_at (omega arith) x) (z (first_at + 1) (omega arith) x) (z (first_at + 2) (omega arith) x) (z (first_at + 3) (omega arith) x) (z (first_at + 4) (omega arith) x)

  pub told-twice : (ls : List Row) → length ls ≤ most_lines → (told_of (painted_all zeros ls)).twice ≡ twice_in [] ls
  told-twice ls few = told-from zeros [] ls holds-zeros (omega (arith, few)) ∙ omega (arith, none-twice)

  pub told-first : (ls : List Row) → length ls ≤ most_lines → (told_of (painted_all zeros ls)).first ≡ first_in no_line [] ls
  told-first ls few =
      first-from zeros [] ls holds-zeros (omega (arith, few))
      ∙ ap (λ (b : Bool). cond b (first_in (row_at zeros first_at) [] ls) (row_at zeros first_at)) (eq-eqb (size_at zeros twice_at) 0 none-twice)
      ∙ ap (λ (r : Row). first_in r [] ls) none_first
