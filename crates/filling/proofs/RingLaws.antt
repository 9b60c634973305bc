-- A row has an even number of crossings with closed subpolygons, so all of them are taken in pairs. Why it holds: a side meets the row exactly if one of its ends is
-- at or below the row and the other is not; round a closed subpolygon that changes an even number of times.
use Rattle.std.specs.Prelude.{◌≡◌, refl, Bool, true, false, not, cond, ◌&&◌, List, [], ◌∷◌, ◌++◌, ℕ, zero, suc, ◌+◌, ◌*◌, ℤ, length}
use Rattle.std.proofs.Common.{ap, ◌∙◌, arith}
use Rattle.exact.specs.Whole.{◌≤ᶻ◌, ◌<ᶻ◌, ord, ◌≤?◌, ≤?-true, ≤?-false, le-≤?, lt-≤?, ◌<?◌, lt-<?, le-<?}
use Rattle.clip.specs.Line.{Frac}
use Rattle.clip.specs.declared.Point.{Point}
use Rattle.turns.specs.Turn.{lesser_of, greater_of}
use Rattle.turns.proofs.BoxLaws.{lesser-by, greater-by, lesser-≤, greater-≥}
use Rattle.filling.specs.Filling.{sides_from, ring_sides, all_sides, lower, upper, meets, crossing, crossings, insert_by, sort_by, at_most, paired, row_pairs}
use Rattle.filling.specs.declared.Side.{Side}

abbrev pub one : Bool → ℕ
one true = 1
one false = 0

abbrev pub differ : Bool → Bool → Bool
differ true b = not b
differ false b = b

-- ---- which rows a side meets
trans : {a b c : ℤ} → a ≤ᶻ b → b ≤ᶻ c → a ≤ᶻ c
trans h k = omega (arith, ord)

trans-< : {a b c : ℤ} → a <ᶻ b → b ≤ᶻ c → a <ᶻ c
trans-< h k = omega (arith, ord)

-- as a side between two heights does
between : (a b y : ℤ) → ((lesser_of a b ≤? y) && (y <? greater_of a b)) ≡ differ (a ≤? y) (b ≤? y)
between a b y = go (a ≤? y) (b ≤? y) refl refl
  where
    go : (p q : Bool) → (a ≤? y) ≡ p → (b ≤? y) ≡ q → ((lesser_of a b ≤? y) && (y <? greater_of a b)) ≡ differ p q
    go true true e f =
        rw (le-≤? (trans (lesser-≤ a b).0 (≤?-true a y e)), le-<? (greater-by (λ (z : ℤ). z ≤ᶻ y) a b (λ h. ≤?-true a y e) (λ h. ≤?-true b y f))) refl
    go true false e f = rw (le-≤? (trans (lesser-≤ a b).0 (≤?-true a y e)), lt-<? (trans-< (≤?-false b y f) (greater-≥ a b).1)) refl
    go false true e f = rw (le-≤? (trans (lesser-≤ a b).1 (≤?-true b y f)), lt-<? (trans-< (≤?-false a y e) (greater-≥ a b).0)) refl
    go false false e f = rw (lt-≤? (lesser-by (λ (z : ℤ). y <ᶻ z) a b (λ h. ≤?-false a y e) (λ h. ≤?-false b y f))) refl

pub meets-by : (y : ℤ) (e : Side) → meets y e ≡ differ (e.from.y ≤? y) (e.to.y ≤? y)
unfolding meets lower upper
meets-by y e = between e.from.y e.to.y y

same : (b : Bool) → differ b b ≡ false
same true = refl
same false = refl

-- a level side meets none, so one of no length may as well be left out
pub level-unmet : (y : ℤ) (e : Side) → e.from.y ≡ e.to.y → meets y e ≡ false
level-unmet y e h = meets-by y e ∙ ap (λ (z : ℤ). differ (z ≤? y) (e.to.y ≤? y)) h ∙ same (e.to.y ≤? y)

-- ---- crossings counted
pub none-crosses : (y : ℤ) → length (crossings y []) ≡ 0
unfolding crossings
none-crosses y = refl

pub one_more : (y : ℤ) (e : Side) (es : List Side) → length (crossings y (e ∷ es)) ≡ one (meets y e) + length (crossings y es)
unfolding crossings
one_more y e es = go (meets y e)
  where
    go : (t : Bool) → length (cond t (crossing y e ∷ crossings y es) (crossings y es)) ≡ one t + length (crossings y es)
    go true = omega arith
    go false = omega arith

both : (y : ℤ) (es fs : List Side) → length (crossings y (es ++ fs)) ≡ length (crossings y es) + length (crossings y fs)
both y [] fs = omega (arith, none-crosses y)
both y (e ∷ es) fs = omega (arith, one_more y e (es ++ fs), one_more y e es, both y es fs)

-- ---- parity
record Parity (n : ℕ) (odd : Bool) : Type 0 where
  half : ℕ
  is : n ≡ 2 * half + one odd

pub record Even (n : ℕ) : Type 0 where
  pub half : ℕ
  pub is : n ≡ 2 * half

-- from p to the first: even where both are at or below the row, or both are not
parity : (y : ℤ) (first p : Point) (qs : List Point) → Parity (length (crossings y (sides_from first p qs))) (differ (p.y ≤? y) (first.y ≤? y))
unfolding sides_from
parity y first p [] =
    let e : Side = record { from = p; to = first } in
    record { half = 0; is = omega (arith, one_more y e [], none-crosses y, ap one (meets-by y e)) }
parity y first p (q ∷ qs) =
    let e : Side = record { from = p; to = q } in
    go (p.y ≤? y) (q.y ≤? y) (first.y ≤? y) (one_more y e (sides_from first q qs) ∙ ap (λ (t : Bool). one t + length (crossings y (sides_from first q qs))) (meets-by y e)) (parity y first q qs)
  where
    go : (b c l : Bool) {n m : ℕ} → n ≡ one (differ b c) + m → Parity m (differ c l) → Parity n (differ b l)
    go true true true e h = record { half = h.half; is = omega (arith, e, h.is) }
    go true true false e h = record { half = h.half; is = omega (arith, e, h.is) }
    go true false true e h = record { half = h.half + 1; is = omega (arith, e, h.is) }
    go true false false e h = record { half = h.half; is = omega (arith, e, h.is) }
    go false true true e h = record { half = h.half; is = omega (arith, e, h.is) }
    go false true false e h = record { half = h.half + 1; is = omega (arith, e, h.is) }
    go false false true e h = record { half = h.half; is = omega (arith, e, h.is) }
    go false false false e h = record { half = h.half; is = omega (arith, e, h.is) }

-- every row crosses the sides an even number of times
abbrev pub Closed : List Side → Type 0
Closed es = (y : ℤ) → Even (length (crossings y es))

pub ring-even : (ps : List Point) → Closed (ring_sides ps)
unfolding ring_sides
ring-even [] y = record { half = 0; is = none-crosses y }
ring-even (p ∷ ps) y = let h = parity y p p ps in record { half = h.half; is = omega (arith, h.is, ap one (same (p.y ≤? y))) }

pub rings-even : (rings : List (List Point)) → Closed (all_sides rings)
unfolding all_sides
rings-even [] y = record { half = 0; is = none-crosses y }
rings-even (ps ∷ rings) y =
    let h = ring-even ps y in
    let k = rings-even rings y in
    record { half = h.half + k.half; is = omega (arith, both y (ring_sides ps) (all_sides rings), h.is, k.is) }

-- ---- so no crossing is left over
insert-length : (x : Frac) (ys : List Frac) → length (insert_by at_most x ys) ≡ suc (length ys)
unfolding insert_by
insert-length x [] = refl
insert-length x (y ∷ ys) = go (at_most x y) (insert-length x ys)
  where
    go : (t : Bool) → length (insert_by at_most x ys) ≡ suc (length ys) → length (cond t (x ∷ y ∷ ys) (y ∷ insert_by at_most x ys)) ≡ suc (suc (length ys))
    go true n = refl
    go false n = ap suc n

sort-length : (xs : List Frac) → length (sort_by at_most xs) ≡ length xs
unfolding sort_by
sort-length [] = refl
sort-length (x ∷ xs) = insert-length x (sort_by at_most xs) ∙ ap suc (sort-length xs)

pairs-half : (y : ℤ) (fs : List Frac) (h : ℕ) → length fs ≡ 2 * h → length (paired y fs) ≡ h
unfolding paired
pairs-half y [] h e = omega (arith, e)
pairs-half y (a ∷ []) h e = absurd (omega (arith, e))
pairs-half y (a ∷ b ∷ rest) zero e = absurd (omega (arith, e))
pairs-half y (a ∷ b ∷ rest) (suc h) e = ap suc (pairs-half y rest h (omega (arith, e)))

pub all-paired : (y : ℤ) (es : List Side) → Closed es → 2 * length (row_pairs y es) ≡ length (crossings y es)
unfolding row_pairs
all-paired y es c = let h = c y in omega (arith, h.is, pairs-half y (sort_by at_most (crossings y es)) h.half (sort-length (crossings y es) ∙ h.is))
