-- Sorting and then rounding is rounding and then sorting, so the code sorts whole numbers; and its way to insert is the insertion.
-- Why it holds: rounding keeps the order. Where two fractions are rounded alike, they may be exchanged, and all between them are rounded alike too.
use Rattle.std.specs.Prelude.{◌≡◌, Bool, ℕ, ◌<◌, ℤ, pos, ◌*ℤ◌}
use Rattle.std.proofs.Math.Path.{refl, sym, ap}
use Rattle.std.proofs.Common.{ap₂, ◌∙◌, subst, arith}
use Rattle.std.proofs.Math.Bool.{true, false, cond}
use mathlib.Core.List.{List, [], ◌∷◌, map}
use Rattle.std.proofs.Math.IntN.{*ℤ_comm}
use Rattle.exact.specs.Whole.{◌≤ᶻ◌, ◌<ᶻ◌, ord, ◌≤?◌, ≤?-true, ≤?-false, le-≤?, ◌<?◌, lt-<?, le-<?, <?-false}
use Rattle.exact.specs.Divide.{nearest_div}
use Rattle.exact.specs.Nearest.{nearest-mono}
use Rattle.exact.proofs.NearestLaws.{nearest-times}
use Rattle.exact.specs.Laws.{mul-posᶻ}
use Rattle.exact.specs.Steps.{not-zero}
use Rattle.clip.specs.Line.{Frac, nearest_whole}
use Rattle.turns.specs.Turn.{lesser_of, greater_of}
use Rattle.turns.proofs.BoxLaws.{lesser-≤}
use Rattle.filling.specs.Filling.{Pair, crossings, insert_by, sort_by, at_most, paired, rounded, row_pairs}
use Rattle.filling.specs.declared.Side.{Side}
use Rattle.filling.specs.Sink.{sink}

-- ---- numbers that rise: each at least z, and so on
pub data Rising : ℤ → List ℤ → Type 0 where
  none : {z : ℤ} → Rising z []
  more : {z y : ℤ} {ys : List ℤ} → z ≤ᶻ y → Rising y ys → Rising z (y ∷ ys)

equal : {a b : ℤ} → a ≤ᶻ b → b ≤ᶻ a → a ≡ b
equal h k = omega (arith, ord)

weak : {a b : ℤ} → a <ᶻ b → a ≤ᶻ b
weak h = omega (arith, ord)

trans : {a b c : ℤ} → a ≤ᶻ b → b ≤ᶻ c → a ≤ᶻ c
trans h k = omega (arith, ord)

clash : {X : Type 0} {a b : ℤ} → a ≤ᶻ b → b <ᶻ a → X
clash h k = absurd (omega (arith, ord))

-- a number that is at most all comes first
first : (x : ℤ) (ys : List ℤ) → Rising x ys → insert_by ◌≤?◌ x ys ≡ x ∷ ys
unfolding insert_by
first x [] none = refl
first x (y ∷ ys) (more h r) = rw (le-≤? h) refl

pub insert-rises : (z x : ℤ) (ys : List ℤ) → z ≤ᶻ x → Rising z ys → Rising z (insert_by ◌≤?◌ x ys)
unfolding insert_by
insert-rises z x [] h none = more h none
insert-rises z x (y ∷ ys) h (more k r) = go (x ≤? y) refl (λ l. insert-rises y x ys l r)
  where
    go : (t : Bool) → (x ≤? y) ≡ t → (y ≤ᶻ x → Rising y (insert_by ◌≤?◌ x ys)) → Rising z (cond t (x ∷ y ∷ ys) (y ∷ insert_by ◌≤?◌ x ys))
    go true e n = more h (more (≤?-true x y e) r)
    go false e n = more k (n (weak (≤?-false x y e)))

-- ---- for any test, and any number that goes with it
module _ {A : Type 0} (le : A → A → Bool) (f : A → ℤ) (up : (x y : A) → le x y ≡ true → f x ≤ᶻ f y) (down : (x y : A) → le x y ≡ false → f y ≤ᶻ f x) where
  inserted : (z : ℤ) (x : A) (ys : List A) → Rising z (map f ys) → map f (insert_by le x ys) ≡ insert_by ◌≤?◌ (f x) (map f ys)
  unfolding insert_by
  inserted z x [] r = refl
  inserted z x (y ∷ ys) (more h r) = go (le x y) (f x ≤? f y) refl refl (inserted (f y) x ys r)
    where
      go : (s t : Bool) → le x y ≡ s → (f x ≤? f y) ≡ t → map f (insert_by le x ys) ≡ insert_by ◌≤?◌ (f x) (map f ys) →
          map f (cond s (x ∷ y ∷ ys) (y ∷ insert_by le x ys)) ≡ cond t (f x ∷ f y ∷ map f ys) (f y ∷ insert_by ◌≤?◌ (f x) (map f ys))
      go true true e g n = refl
      go true false e g n = clash (up x y e) (≤?-false (f x) (f y) g)
      go false false e g n = ap (λ (l : List ℤ). f y ∷ l) n
      go false true e g n =
          let q : f x ≡ f y = equal (≤?-true (f x) (f y) g) (down x y e) in
          ap (λ (l : List ℤ). f y ∷ l) (n ∙ first (f x) (map f ys) (rw q r)) ∙ (λ i. sym q i ∷ q i ∷ map f ys)

  -- each is at least z
  abbrev Least : (z : ℤ) (xs : List A) → Type 0
  Least z [] = Unit {0}
  Least z (x ∷ xs) = (z ≤ᶻ f x) × Least z xs

  sorted_rises : (z : ℤ) (xs : List A) → Least z xs → Rising z (map f (sort_by le xs))
  unfolding sort_by
  sorted_rises z [] h = none
  sorted_rises z (x ∷ xs) h = let r = sorted_rises z xs h.1 in rw (inserted z x (sort_by le xs) r) (insert-rises z (f x) (map f (sort_by le xs)) h.0 r)

  map-sorted : (z : ℤ) (xs : List A) → Least z xs → map f (sort_by le xs) ≡ sort_by ◌≤?◌ (map f xs)
  unfolding sort_by
  map-sorted z [] h = refl
  map-sorted z (x ∷ xs) h = inserted z x (sort_by le xs) (sorted_rises z xs h.1) ∙ ap (insert_by ◌≤?◌ (f x)) (map-sorted z xs h.1)

  -- and some number is at most each
  abbrev floor_of : List A → ℤ
  floor_of [] = pos 0
  floor_of (x ∷ xs) = lesser_of (f x) (floor_of xs)

  least-weak : (z w : ℤ) (xs : List A) → z ≤ᶻ w → Least w xs → Least z xs
  least-weak z w [] h l = tt
  least-weak z w (x ∷ xs) h l = (trans h l.0, least-weak z w xs h l.1)

  has-floor : (xs : List A) → Least (floor_of xs) xs
  has-floor [] = tt
  has-floor (x ∷ xs) = let l = lesser-≤ (f x) (floor_of xs) in (l.0, least-weak (lesser_of (f x) (floor_of xs)) (floor_of xs) xs l.1 (has-floor xs))

-- ---- rounding keeps the order of fractions
positive : {n : ℕ} → 0 < n → pos 0 <ᶻ pos n
positive h = omega (arith, ord)

rounds-up : (f g : Frac) → pos g.den *ℤ f.num ≤ᶻ pos f.den *ℤ g.num → nearest_whole f ≤ᶻ nearest_whole g
rounds-up f g h =
    let F = pos f.den in
    let G = pos g.den in
    let pf = positive f.above in
    let pg = positive g.above in
    let ef : nearest_whole f ≡ nearest_div (G *ℤ f.num) (F *ℤ G) = nearest-times f.num F G (not-zero pf) pg ∙ ap (λ (z : ℤ). nearest_div z (F *ℤ G)) (*ℤ_comm f.num G) in
    let eg : nearest_whole g ≡ nearest_div (F *ℤ g.num) (F *ℤ G) = nearest-times g.num G F (not-zero pg) pf ∙ ap₂ nearest_div (*ℤ_comm g.num F) (*ℤ_comm G F) in
    subst (λ (z : ℤ). z ≤ᶻ nearest_whole g) (sym ef)
    (subst (λ (z : ℤ). nearest_div (G *ℤ f.num) (F *ℤ G) ≤ᶻ z) (sym eg) (nearest-mono (G *ℤ f.num) (F *ℤ g.num) (F *ℤ G) (mul-posᶻ pf pg) h))

up : (f g : Frac) → at_most f g ≡ true → nearest_whole f ≤ᶻ nearest_whole g
unfolding at_most
up f g e = rounds-up f g (≤?-true _ _ e)

down : (f g : Frac) → at_most f g ≡ false → nearest_whole g ≤ᶻ nearest_whole f
unfolding at_most
down f g e = rounds-up g f (weak (≤?-false _ _ e))

pub rounded-sorted : (fs : List Frac) → map nearest_whole (sort_by at_most fs) ≡ sort_by ◌≤?◌ (map nearest_whole fs)
rounded-sorted fs = map-sorted at_most nearest_whole up down (floor_of at_most nearest_whole up down fs) fs (has-floor at_most nearest_whole up down fs)

-- ---- a row's pairs, rounded, are the pairs of its rounded crossings, sorted
rounded-pairs : (y : ℤ) (fs : List Frac) → map rounded (paired y fs) ≡ paired y (map nearest_whole fs)
unfolding paired rounded
rounded-pairs y [] = refl
rounded-pairs y (a ∷ []) = refl
rounded-pairs y (a ∷ b ∷ rest) = ap (λ (l : List (Pair ℤ)). record { y = y; from = nearest_whole a; to = nearest_whole b } ∷ l) (rounded-pairs y rest)

pub rounded-row : (y : ℤ) (es : List Side) → map rounded (row_pairs y es) ≡ paired y (sort_by ◌≤?◌ (map nearest_whole (crossings y es)))
unfolding row_pairs
rounded-row y es = rounded-pairs y (sort_by at_most (crossings y es)) ∙ ap (paired y) (rounded-sorted (crossings y es))

-- ---- the code's way, into numbers that rise
sink-first : (x : ℤ) (ys : List ℤ) → Rising x ys → sink x ys ≡ x ∷ ys
unfolding sink lesser_of greater_of
sink-first x [] none = refl
sink-first x (y ∷ ys) (more h r) = go (x <? y) refl (sink-first y ys r)
  where
    go : (t : Bool) → (x <? y) ≡ t → sink y ys ≡ y ∷ ys → cond (y <? x) y x ∷ sink (cond t y x) ys ≡ x ∷ y ∷ ys
    go true e n = rw (le-<? h) (ap (λ (l : List ℤ). x ∷ l) n)
    go false e n = rw (le-<? h) (ap (λ (l : List ℤ). x ∷ l) (ap (λ (z : ℤ). sink z ys) (equal h (<?-false x y e)) ∙ n))

pub sink-inserts : (z x : ℤ) (ys : List ℤ) → Rising z ys → sink x ys ≡ insert_by ◌≤?◌ x ys
unfolding sink lesser_of greater_of insert_by
sink-inserts z x [] none = refl
sink-inserts z x (y ∷ ys) (more h r) = go (x ≤? y) refl (sink-first x (y ∷ ys)) (sink-inserts y x ys r)
  where
    go : (t : Bool) → (x ≤? y) ≡ t → (Rising x (y ∷ ys) → sink x (y ∷ ys) ≡ x ∷ y ∷ ys) → sink x ys ≡ insert_by ◌≤?◌ x ys →
        lesser_of x y ∷ sink (greater_of x y) ys ≡ cond t (x ∷ y ∷ ys) (y ∷ insert_by ◌≤?◌ x ys)
    go true e f n = f (more (≤?-true x y e) r)
    go false e f n = let l = ≤?-false x y e in rw (lt-<? l, le-<? (weak l)) (ap (λ (l : List ℤ). y ∷ l) n)

-- so the code's way keeps numbers sorted
map_same : (xs : List ℤ) → map (λ (z : ℤ). z) xs ≡ xs
map_same [] = refl
map_same (x ∷ xs) = ap (λ (l : List ℤ). x ∷ l) (map_same xs)

test-up : (x y : ℤ) → (x ≤? y) ≡ true → x ≤ᶻ y
test-up x y e = ≤?-true x y e

test-down : (x y : ℤ) → (x ≤? y) ≡ false → y ≤ᶻ x
test-down x y e = weak (≤?-false x y e)

pub sink-sorted : (x : ℤ) (xs : List ℤ) → sink x (sort_by ◌≤?◌ xs) ≡ sort_by ◌≤?◌ (x ∷ xs)
unfolding sort_by
sink-sorted x xs =
    let z = floor_of ◌≤?◌ (λ (z : ℤ). z) test-up test-down xs in
    let r = sorted_rises ◌≤?◌ (λ (z : ℤ). z) test-up test-down z xs (has-floor ◌≤?◌ (λ (z : ℤ). z) test-up test-down xs) in
    sink-inserts z x (sort_by ◌≤?◌ xs) (subst (λ (l : List ℤ). Rising z l) (map_same (sort_by ◌≤?◌ xs)) r)
