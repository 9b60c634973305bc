-- The pairs are half as many as the rows that the sides meet, each side's counted by itself. Why it holds: crossings counted row by row are as many as counted side
-- by side, and in each row the pairs are half the crossings.
use Rattle.std.specs.Prelude.{◌≡◌, refl, Bool, true, false, ◌&&◌, List, [], ◌∷◌, ◌++◌, ◌⊎◌, ℕ, zero, suc, ◌+◌, ◌*◌, ◌-◌, ◌≤◌, ◌<◌, ℤ, pos, negsuc, neg_ℤ, ◌+ℤ◌, ◌-ℤ◌, ◌*ℤ◌, length, get_or}
use Rattle.std.proofs.Common.{sym, ap, ap₂, ◌∙◌, subst, append_assoc, inl, inr, arith, length-append}
use Rattle.std.proofs.Math.ListN.{get_or-append}
use Rattle.exact.specs.Whole.{◌≤ᶻ◌, ◌<ᶻ◌, is, Z, ord, up, dn, add_parts, ◌≤?◌, ≤?-true, ≤?-false, le-≤?, lt-≤?, ◌<?◌, <?-true, <?-false, lt-<?, le-<?}
use Rattle.exact.specs.Parts.{v, ◌⊖◌}
use Rattle.exact.specs.Fit.{abs}
use Rattle.exact.specs.Laws.{≤-total, sub-nonneg, mul-≤}
use Rattle.exact.specs.Divide.{floor_div}
use Rattle.exact.specs.Nearest.{floor-law}
use Rattle.clip.specs.Line.{Frac}
use Rattle.turns.specs.Turn.{lesser_of, greater_of}
use Rattle.turns.proofs.BoxLaws.{lesser-by, lesser-≤, greater-≥}
use Rattle.filling.specs.Filling.{Pair, row_at, lower, upper, meets, crossings, row_pairs, row_from, first_row, past_row, least_row, past_rows, pairs_from, fill_pairs, rows_met, all_met, pair_count, met_below, all_below, pairs_below}
use Rattle.filling.proofs.RingLaws.{one, one_more, none-crosses, Closed, all-paired}
use Rattle.filling.specs.declared.Side.{Side}

weak : {a b : ℤ} → a <ᶻ b → a ≤ᶻ b
weak h = omega (arith, ord)

trans : {a b c : ℤ} → a ≤ᶻ b → b ≤ᶻ c → a ≤ᶻ c
trans h k = omega (arith, ord)

same : (a : ℤ) → a ≤ᶻ a
same a = omega (arith, ord)

clash : {X : Type 0} {a b : ℤ} → a ≤ᶻ b → b <ᶻ a → X
clash h k = absurd (omega (arith, ord))

-- ---- the first row at or above y
row-above : (s y k : ℤ) → pos 0 <ᶻ s → row_from s y ≤ᶻ k → y ≤ᶻ row_at s k
unfolding row_from row_at
row-above s y k h l = go (floor_div (neg_ℤ y) s) (floor-law (neg_ℤ y) s h).0 (mul-≤ {c = s} (weak h) (turn (floor_div (neg_ℤ y) s) l))
  where
    turn : (q : ℤ) → neg_ℤ q ≤ᶻ k → neg_ℤ k ≤ᶻ q
    turn q = rw (is q, is k) (simp Z (omega arith))

    go : (q : ℤ) → s *ℤ q ≤ᶻ neg_ℤ y → s *ℤ neg_ℤ k ≤ᶻ s *ℤ q → y ≤ᶻ k *ℤ s
    go q = rw (is q, is k, is s, is y) (simp Z (omega arith))

row_below : (s y k : ℤ) → pos 0 <ᶻ s → k <ᶻ row_from s y → row_at s k <ᶻ y
unfolding row_from row_at
row_below s y k h l = go (floor_div (neg_ℤ y) s) (floor-law (neg_ℤ y) s h).1 (mul-≤ {c = s} (weak h) (turn (floor_div (neg_ℤ y) s) l))
  where
    turn : (q : ℤ) → k <ᶻ neg_ℤ q → q +ℤ pos 1 ≤ᶻ neg_ℤ k
    turn q = rw (is q, is k) (simp Z (omega arith))

    go : (q : ℤ) → neg_ℤ y <ᶻ s *ℤ (q +ℤ pos 1) → s *ℤ (q +ℤ pos 1) ≤ᶻ s *ℤ neg_ℤ k → k *ℤ s <ᶻ y
    go q = rw (is q, is k, is s, is y) (simp Z (omega arith))

-- a side meets the rows from `first_row` on, below `past_row`
pub meets-rows : (s k : ℤ) (e : Side) → pos 0 <ᶻ s → meets (row_at s k) e ≡ ((first_row s e ≤? k) && (k <? past_row s e))
unfolding meets first_row past_row
meets-rows s k e h = ap₂ ◌&&◌ (at-or-above (lower e)) (below (upper e))
  where
    at-or-above : (y : ℤ) → (y ≤? row_at s k) ≡ (row_from s y ≤? k)
    at-or-above y = go (row_from s y ≤? k) refl
      where
        go : (t : Bool) → (row_from s y ≤? k) ≡ t → (y ≤? row_at s k) ≡ t
        go true f = le-≤? (row-above s y k h (≤?-true _ _ f))
        go false f = lt-≤? (row_below s y k h (≤?-false _ _ f))

    below : (y : ℤ) → (row_at s k <? y) ≡ (k <? row_from s y)
    below y = go (k <? row_from s y) refl
      where
        go : (t : Bool) → (k <? row_from s y) ≡ t → (row_at s k <? y) ≡ t
        go true f = lt-<? (row_below s y k h (<?-true _ _ f))
        go false f = le-<? (row-above s y k h (<?-false _ _ f))

-- ---- a side's first row is not past its last
pub natural : {z : ℤ} → pos 0 ≤ᶻ z → z ≡ pos (up z)
natural {z = pos n} h = refl
natural {z = negsuc n} h = absurd (omega (arith, ord))

pub no-natural : {z : ℤ} → z <ᶻ pos 0 → pos 0 ≡ pos (up z)
no-natural {z = pos n} h = absurd (omega (arith, ord))
no-natural {z = negsuc n} h = refl

row-mono : (s y z : ℤ) → pos 0 <ᶻ s → y ≤ᶻ z → row_from s y ≤ᶻ row_from s z
row-mono s y z h l = go (≤-total (row_from s y) (row_from s z))
  where
    go : (row_from s y ≤ᶻ row_from s z) ⊎ (row_from s z <ᶻ row_from s y) → row_from s y ≤ᶻ row_from s z
    go (inl k) = k
    go (inr k) = clash (trans l (row-above s z (row_from s z) h (same (row_from s z)))) (row_below s y (row_from s z) h k)

pub rows-natural : (s : ℤ) (e : Side) → pos 0 <ᶻ s → past_row s e -ℤ first_row s e ≡ pos (rows_met s e)
unfolding rows_met first_row past_row lower upper
rows-natural s e h =
    natural (sub-nonneg (row-mono s (lesser_of e.from.y e.to.y) (greater_of e.from.y e.to.y) h (trans (lesser-≤ e.from.y e.to.y).0 (greater-≥ e.from.y e.to.y).0)))

-- ---- of n rows from row k on, those that a side meets
unfoldable met_from : ℤ → Side → ℤ → ℕ → ℕ
met_from s e k zero = 0
met_from s e k (suc n) = one (meets (row_at s k) e) + met_from s e (k +ℤ pos 1) n

-- the parts of a difference, and of one more
gap : (a b : ℤ) → up (a -ℤ b) ≡ up a + dn b - (dn a + up b)
gap a b = omega (arith, (v a ⊖ v b).eq, abs (a -ℤ b))

-- from f on, below p: how many are at least k
abbrev left : ℤ → ℤ → ℤ → ℕ
left f p k = up (p -ℤ k) - up (f -ℤ k)

step : (f p k : ℤ) → one ((f ≤? k) && (k <? p)) + left f p (k +ℤ pos 1) ≡ left f p k
step f p k = go (f ≤? k) (k <? p) refl refl (gap p k) (gap f k) (gap p (k +ℤ pos 1)) (gap f (k +ℤ pos 1)) (add_parts k (pos 1))
  where
    go : (a b : Bool) → (f ≤? k) ≡ a → (k <? p) ≡ b → up (p -ℤ k) ≡ up p + dn k - (dn p + up k) → up (f -ℤ k) ≡ up f + dn k - (dn f + up k) →
        up (p -ℤ (k +ℤ pos 1)) ≡ up p + dn (k +ℤ pos 1) - (dn p + up (k +ℤ pos 1)) → up (f -ℤ (k +ℤ pos 1)) ≡ up f + dn (k +ℤ pos 1) - (dn f + up (k +ℤ pos 1)) →
        up (k +ℤ pos 1) + (dn k + 0) ≡ dn (k +ℤ pos 1) + (up k + 1) → one (a && b) + left f p (k +ℤ pos 1) ≡ left f p k
    go true true d e pk fk pk1 fk1 k1 = let x = ≤?-true f k d in let y = <?-true k p e in omega (arith, ord, x, y, pk, fk, pk1, fk1, k1)
    go true false d e pk fk pk1 fk1 k1 = let x = ≤?-true f k d in let y = <?-false k p e in omega (arith, ord, x, y, pk, fk, pk1, fk1, k1)
    go false b d e pk fk pk1 fk1 k1 = let x = ≤?-false f k d in omega (arith, ord, x, pk, fk, pk1, fk1, k1)

none_left : (f p k : ℤ) → p ≤ᶻ k +ℤ pos 0 → left f p k ≡ 0
none_left f p k h = omega (arith, ord, h, gap p k, add_parts k (pos 0))

further : (t k : ℤ) (n : ℕ) → t ≡ k +ℤ pos (suc n) → t ≡ k +ℤ pos 1 +ℤ pos n
further t k n e = omega (arith, ord, e, add_parts k (pos (suc n)), add_parts k (pos 1), add_parts (k +ℤ pos 1) (pos n))

later : (t k : ℤ) (n : ℕ) → t ≡ k +ℤ pos (suc n) → k <ᶻ t
later t k n e = omega (arith, ord, e, add_parts k (pos (suc n)))

-- below t, rows below p are those below the lesser
cut : (t p k : ℤ) → k <ᶻ t → (k <? p) ≡ (k <? lesser_of t p)
cut t p k h = go (k <? p) refl
  where
    go : (b : Bool) → (k <? p) ≡ b → b ≡ (k <? lesser_of t p)
    go true e = sym (lt-<? (lesser-by (λ (z : ℤ). k <ᶻ z) t p (λ l. h) (λ l. <?-true k p e)))
    go false e = sym (le-<? (trans (lesser-≤ t p).1 (<?-false k p e)))

met-left : (s : ℤ) (e : Side) (t k : ℤ) (n : ℕ) → pos 0 <ᶻ s → t ≡ k +ℤ pos n → met_from s e k n ≡ left (first_row s e) (lesser_of t (past_row s e)) k
unfolding met_from
met-left s e t k zero h q = sym (none_left (first_row s e) (lesser_of t (past_row s e)) k (subst (λ (z : ℤ). lesser_of t (past_row s e) ≤ᶻ z) q (lesser-≤ t (past_row s e)).0))
met-left s e t k (suc n) h q =
    ap₂ (λ (b : Bool) (m : ℕ). one b + m) (meets-rows s k e h ∙ ap (λ (b : Bool). (first_row s e ≤? k) && b) (cut t (past_row s e) k (later t k n q)))
    (met-left s e t (k +ℤ pos 1) n h (further t k n q))
    ∙ step (first_row s e) (lesser_of t (past_row s e)) k

-- from a row on that is not past the side's first
met-below : (s : ℤ) (e : Side) (k : ℤ) (n : ℕ) → pos 0 <ᶻ s → k ≤ᶻ first_row s e → met_from s e k n ≡ met_below s (k +ℤ pos n) e
unfolding met_below
met-below s e k n h l = met-left s e (k +ℤ pos n) k n h refl ∙ go (first_row s e) (lesser_of (k +ℤ pos n) (past_row s e)) l
  where
    go : (f p : ℤ) → k ≤ᶻ f → left f p k ≡ up (p -ℤ f)
    go f p l = omega (arith, ord, l, gap p k, gap f k, gap p f)

-- and past its last: all
all-below : (s k : ℤ) (e : Side) → past_row s e ≤ᶻ k → met_below s k e ≡ rows_met s e
unfolding met_below rows_met
all-below s k e h = ap (λ (z : ℤ). up (z -ℤ first_row s e)) (lesser-by (λ (z : ℤ). z ≡ past_row s e) k (past_row s e) (λ l. same-as l h) (λ l. refl))
  where
    same-as : {a b : ℤ} → a ≤ᶻ b → b ≤ᶻ a → a ≡ b
    same-as l m = omega (arith, ord)

-- ---- the crossings of n rows, counted by rows and by sides
unfoldable by_rows : ℤ → List Side → ℤ → ℕ → ℕ
by_rows s es k zero = 0
by_rows s es k (suc n) = length (crossings (row_at s k) es) + by_rows s es (k +ℤ pos 1) n

unfoldable by_sides : ℤ → List Side → ℤ → ℕ → ℕ
by_sides s [] k n = 0
by_sides s (e ∷ es) k n = met_from s e k n + by_sides s es k n

sides-none : (s : ℤ) (es : List Side) (k : ℤ) → by_sides s es k 0 ≡ 0
unfolding by_sides met_from
sides-none s [] k = refl
sides-none s (e ∷ es) k = omega (arith, sides-none s es k)

sides-more : (s : ℤ) (es : List Side) (k : ℤ) (n : ℕ) → by_sides s es k (suc n) ≡ length (crossings (row_at s k) es) + by_sides s es (k +ℤ pos 1) n
unfolding by_sides met_from
sides-more s [] k n = omega (arith, none-crosses (row_at s k))
sides-more s (e ∷ es) k n = omega (arith, one_more (row_at s k) e es, sides-more s es k n)

counted : (s : ℤ) (es : List Side) (k : ℤ) (n : ℕ) → by_rows s es k n ≡ by_sides s es k n
unfolding by_rows
counted s es k zero = sym (sides-none s es k)
counted s es k (suc n) = omega (arith, counted s es (k +ℤ pos 1) n, sides-more s es k n)

pairs-rows : (s : ℤ) (es : List Side) (k : ℤ) (n : ℕ) → Closed es → 2 * length (pairs_from s es k n) ≡ by_rows s es k n
unfolding pairs_from by_rows
pairs-rows s es k zero c = refl
pairs-rows s es k (suc n) c =
    omega (arith, length-append (row_pairs (row_at s k) es) (pairs_from s es (k +ℤ pos 1) n), all-paired (row_at s k) es c, pairs-rows s es (k +ℤ pos 1) n c)

-- ---- no row that a side meets is left out

-- each side's rows are among those from lo on, below hi
abbrev Spans : ℤ → ℤ → ℤ → List Side → Type 0
Spans s lo hi [] = Unit {0}
Spans s lo hi (e ∷ es) = (lo ≤ᶻ first_row s e) × (past_row s e ≤ᶻ hi) × Spans s lo hi es

wider : (s lo hi lo' hi' : ℤ) (es : List Side) → lo' ≤ᶻ lo → hi ≤ᶻ hi' → Spans s lo hi es → Spans s lo' hi' es
wider s lo hi lo' hi' [] h k p = tt
wider s lo hi lo' hi' (e ∷ es) h k p = (trans h p.0, trans p.1 k, wider s lo hi lo' hi' es h k p.2)

spans : (s : ℤ) (es : List Side) → Spans s (least_row s es) (past_rows s es) es
unfolding least_row past_rows
spans s [] = tt
spans s (e ∷ es) =
    let l = lesser-≤ (first_row s e) (least_row s es) in
    let g = greater-≥ (past_row s e) (past_rows s es) in
    (l.0, g.0, wider s (least_row s es) (past_rows s es) _ _ es l.1 g.1 (spans s es))

unmet : (s lo hi k : ℤ) (e : Side) → pos 0 <ᶻ s → (k <ᶻ lo) ⊎ (hi ≤ᶻ k) → lo ≤ᶻ first_row s e → past_row s e ≤ᶻ hi → meets (row_at s k) e ≡ false
unmet s lo hi k e h o l m = meets-rows s k e h ∙ go o (first_row s e ≤? k) refl
  where
    before : k <ᶻ lo → k <ᶻ first_row s e
    before o = omega (arith, ord, o, l)

    go : (k <ᶻ lo) ⊎ (hi ≤ᶻ k) → (b : Bool) → (first_row s e ≤? k) ≡ b → ((first_row s e ≤? k) && (k <? past_row s e)) ≡ false
    go (inl o) b q = ap (λ (c : Bool). c && (k <? past_row s e)) (lt-≤? (before o))
    go (inr o) true q = ap₂ ◌&&◌ q (le-<? (trans m o))
    go (inr o) false q = ap (λ (c : Bool). c && (k <? past_row s e)) q

outside : (s lo hi k : ℤ) (es : List Side) → pos 0 <ᶻ s → (k <ᶻ lo) ⊎ (hi ≤ᶻ k) → Spans s lo hi es → length (crossings (row_at s k) es) ≡ 0
outside s lo hi k [] h o p = none-crosses (row_at s k)
outside s lo hi k (e ∷ es) h o p = omega (arith, one_more (row_at s k) e es, ap one (unmet s lo hi k e h o p.0 p.1), outside s lo hi k es h o p.2)

pub none-outside : (s k : ℤ) (es : List Side) → pos 0 <ᶻ s → (k <ᶻ least_row s es) ⊎ (past_rows s es ≤ᶻ k) → length (crossings (row_at s k) es) ≡ 0
none-outside s k es h o = outside s (least_row s es) (past_rows s es) k es h o (spans s es)

-- ---- what each side adds
below-sum : (s : ℤ) (es : List Side) (k hi : ℤ) (n : ℕ) → pos 0 <ᶻ s → Spans s k hi es → by_sides s es k n ≡ all_below s (k +ℤ pos n) es
unfolding by_sides all_below
below-sum s [] k hi n h p = refl
below-sum s (e ∷ es) k hi n h p = omega (arith, met-below s e k n h p.0, below-sum s es k hi n h p.2)

met-sum : (s lo k : ℤ) (es : List Side) → Spans s lo k es → all_below s k es ≡ all_met s es
unfolding all_below all_met
met-sum s lo k [] p = refl
met-sum s lo k (e ∷ es) p = omega (arith, all-below s k e p.1, met-sum s lo k es p.2)

-- ---- the pairs of the first n rows, and of all
twice-below : (s : ℤ) (es : List Side) (n : ℕ) → pos 0 <ᶻ s → Closed es → 2 * length (pairs_from s es (least_row s es) n) ≡ all_below s (least_row s es +ℤ pos n) es
twice-below s es n h c =
    let lo = least_row s es in
    pairs-rows s es lo n c ∙ counted s es lo n ∙ below-sum s es lo (past_rows s es) n h (spans s es)

pub pairs_from-length : (s : ℤ) (es : List Side) (n : ℕ) → pos 0 <ᶻ s → Closed es → length (pairs_from s es (least_row s es) n) ≡ pairs_below s (least_row s es +ℤ pos n) es
unfolding pairs_below
pairs_from-length s es n h c = omega (arith, twice-below s es n h c)

reaches : (lo hi : ℤ) → hi ≤ᶻ lo +ℤ pos (up (hi -ℤ lo))
reaches lo hi = omega (arith, ord, gap hi lo, add_parts lo (pos (up (hi -ℤ lo))))

pub pair-count : (s : ℤ) (es : List Side) → pos 0 <ᶻ s → Closed es → length (fill_pairs s es) ≡ pair_count s es
unfolding fill_pairs pair_count
pair-count s es h c =
    let lo = least_row s es in
    let hi = past_rows s es in
    let n = up (hi -ℤ lo) in
    let e : all_below s (lo +ℤ pos n) es ≡ all_met s es = met-sum s lo (lo +ℤ pos n) es (wider s lo hi lo (lo +ℤ pos n) es (same lo) (reaches lo hi) (spans s es)) in
    omega (arith, twice-below s es n h c, e)

-- ---- the pair that stands at a place, by its row
beyond : {A : Type 0} (xs ys : List A) (i : ℕ) (d : A) → length xs ≤ i → get_or (xs ++ ys) i d ≡ get_or ys (i - length xs) d
beyond [] ys i d h = ap (λ (k : ℕ). get_or ys k d) (omega arith)
beyond (x ∷ xs) ys zero d h = absurd (omega (arith, h))
beyond (x ∷ xs) ys (suc i) d h = beyond xs ys i d (omega (arith, h)) ∙ ap (λ (k : ℕ). get_or ys k d) (omega arith)

next_row : (k : ℤ) (m : ℕ) → k +ℤ pos 1 +ℤ pos m ≡ k +ℤ pos (suc m)
next_row k m = sym (further (k +ℤ pos (suc m)) k m refl)

-- the rows before row k + m, that row, and the others
split : (s : ℤ) (es : List Side) (k : ℤ) (m r : ℕ) →
    pairs_from s es k (m + suc r) ≡ pairs_from s es k m ++ (row_pairs (row_at s (k +ℤ pos m)) es ++ pairs_from s es (k +ℤ pos m +ℤ pos 1) r)
unfolding pairs_from
split s es k zero r = ap (λ (n : ℕ). pairs_from s es k n) (one-row r) ∙ ap (λ (z : ℤ). row_pairs (row_at s z) es ++ pairs_from s es (z +ℤ pos 1) r) (itself k)
  where
    one-row : (r : ℕ) → 0 + suc r ≡ suc r
    one-row r = omega arith

    itself : (z : ℤ) → z ≡ z +ℤ pos 0
    itself z = rw (is z) (simp Z (omega arith))
split s es k (suc m) r =
    ap (λ (n : ℕ). pairs_from s es k n) (one_less m r)
    ∙ ap (λ (l : List (Pair Frac)). row_pairs (row_at s k) es ++ l) (split s es (k +ℤ pos 1) m r)
    ∙ sym (append_assoc (row_pairs (row_at s k) es) (pairs_from s es (k +ℤ pos 1) m) _)
    ∙ ap (λ (z : ℤ). (row_pairs (row_at s k) es ++ pairs_from s es (k +ℤ pos 1) m) ++ (row_pairs (row_at s z) es ++ pairs_from s es (z +ℤ pos 1) r)) (next_row k m)
  where
    one_less : (m r : ℕ) → suc m + suc r ≡ suc (m + suc r)
    one_less m r = omega arith

no_rows : (s : ℤ) (es : List Side) (k : ℤ) → length (pairs_from s es k 0) ≡ 0
unfolding pairs_from
no_rows s es k = refl

-- the pairs of one row more
row_more : (s : ℤ) (es : List Side) (k : ℤ) (m : ℕ) → length (pairs_from s es k (suc m)) ≡ length (pairs_from s es k m) + length (row_pairs (row_at s (k +ℤ pos m)) es)
row_more s es k m = ap (λ (n : ℕ). length (pairs_from s es k n)) (one m) ∙ ap length (split s es k m 0) ∙ length-append (pairs_from s es k m) _ ∙ ap (λ (n : ℕ). length (pairs_from s es k m) + n) (length-append (row_pairs (row_at s (k +ℤ pos m)) es) _ ∙ last (k +ℤ pos m +ℤ pos 1) (length (row_pairs (row_at s (k +ℤ pos m)) es)))
  where
    one : (m : ℕ) → suc m ≡ m + suc 0
    one m = omega arith

    last : (z : ℤ) (n : ℕ) → n + length (pairs_from s es z 0) ≡ n
    last z n = omega (arith, no_rows s es z)

pub pair-at : (s : ℤ) (es : List Side) (m i : ℕ) (d : Pair Frac) → pos 0 <ᶻ s → Closed es → least_row s es +ℤ pos m <ᶻ past_rows s es →
    pairs_below s (least_row s es +ℤ pos m) es ≤ i → i < pairs_below s (least_row s es +ℤ pos (suc m)) es →
    get_or (fill_pairs s es) i d ≡ get_or (row_pairs (row_at s (least_row s es +ℤ pos m)) es) (i - pairs_below s (least_row s es +ℤ pos m) es) d
unfolding fill_pairs
pair-at s es m i d h c in_rows low high =
    let lo = least_row s es in
    let hi = past_rows s es in
    let n = up (hi -ℤ lo) in
    let r = n - suc m in
    let before = pairs_from s es lo m in
    let row = row_pairs (row_at s (lo +ℤ pos m)) es in
    let eb : length before ≡ pairs_below s (lo +ℤ pos m) es = pairs_from-length s es m h c in
    let ea : length before + length row ≡ pairs_below s (lo +ℤ pos (suc m)) es = sym (row_more s es lo m) ∙ pairs_from-length s es (suc m) h c in
    let en : n ≡ m + suc r = enough lo hi m in_rows in
    ap (λ (k : ℕ). get_or (pairs_from s es lo k) i d) en
    ∙ ap (λ (l : List (Pair Frac)). get_or l i d) (split s es lo m r)
    ∙ beyond before _ i d (omega (arith, eb, low))
    ∙ get_or-append row _ d (i - length before) (omega (arith, eb, ea, low, high))
    ∙ ap (λ (k : ℕ). get_or row (i - k) d) eb
  where
    enough : (lo hi : ℤ) (m : ℕ) → lo +ℤ pos m <ᶻ hi → up (hi -ℤ lo) ≡ m + suc (up (hi -ℤ lo) - suc m)
    enough lo hi m l = omega (arith, ord, l, gap hi lo, add_parts lo (pos m))
