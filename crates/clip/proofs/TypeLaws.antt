-- Each segment is of exactly one of the manual's four types, and is painted as its type says: for every box and every two points.
-- Why an end outside comes to lie on an edge: the box is entered after as many steps as one axis asks, on which the place is then the edge itself, a
-- whole number; and it is entered after at least one step, since a shown segment that needs none has its end in the box.
use Rattle.std.specs.Prelude.{◌≡◌, refl, Bool, true, false, cond, ◌⊎◌, ℕ, zero, suc, ◌+◌, ◌*◌, ◌-◌, ◌≤◌, ◌<◌, ℤ, pos, neg_ℤ, ◌+ℤ◌, ◌-ℤ◌, ◌*ℤ◌, Some, None}
use Rattle.std.proofs.Common.{sym, ap, subst, ◌∙◌, true≢false, inl, inr, arith}
use Rattle.exact.specs.Whole.{◌≤ᶻ◌, ◌<ᶻ◌, is, Z, ord, ◌<?◌, le-<?, up}
use Rattle.exact.specs.Parts.{Is, v, #, ◌⊕◌, ◌⊖◌, ◌⊗◌, ◌⊛◌, le→, →le}
use Rattle.exact.specs.Fit.{abs}
use Rattle.exact.specs.Divide.{nearest_div}
use Rattle.clip.specs.Clip.{extent, axis_entry, toward, axis_place, place, entry, clip, inside}
use Rattle.clip.specs.Line.{whole, between, Inside, exactly, Within}
use Rattle.clip.specs.Axis.{extent-pos, natural}
use Rattle.clip.proofs.Crossing.{all, all-sym, till, till-max, inside-in, entry-is, within, fits, shows, hides}
use Rattle.clip.proofs.Unclipped.{Held, held, whole-nearest, leaves, enters, unclipped}
use Rattle.clip.proofs.Nearness.{clip-inside}
use Rattle.clip.specs.Types.{LineType, inside_to_inside, inside_to_outside, outside_to_inside, outside_to_outside, Inner, OfType, type_by, type_of, OnEdge, Painted}
use Rattle.clip.specs.declared.Point.{Point}
use Rattle.clip.specs.declared.Rect.{Rect}

-- ---- the test `inside` tells who is within

in-range : {lo hi p : ℤ} → lo ≤ᶻ p → p ≤ᶻ hi → Inside lo hi 0 (whole p)
in-range {lo} {hi} {p} l h = record {
  low = record { le = →le (1 ⊛ (v lo ⊕ # 0)) (1 ⊛ v p) (omega (arith, ord)) };
  high = record { le = →le (1 ⊛ v p) (1 ⊛ (v hi ⊖ # 0)) (omega (arith, ord)) };
}

range-low : {lo hi p : ℤ} → Inside lo hi 0 (whole p) → lo ≤ᶻ p
range-low {lo} {hi} {p} i = let h = le→ (1 ⊛ (v lo ⊕ # 0)) (1 ⊛ v p) i.low.le in omega (arith, ord, h)

range-high : {lo hi p : ℤ} → Inside lo hi 0 (whole p) → p ≤ᶻ hi
range-high {lo} {hi} {p} i = let h = le→ (1 ⊛ v p) (1 ⊛ (v hi ⊖ # 0)) i.high.le in omega (arith, ord, h)

pub inside-inner : {r : Rect} {p : Point} → inside r p ≡ true → Inner r p
inside-inner e = let h = held e in record { x = in-range h.left h.right; y = in-range h.bottom h.top }

held-inside : {r : Rect} {p : Point} → Held r p → inside r p ≡ true
unfolding inside
held-inside h = rw (le-<? h.left, le-<? h.right, le-<? h.bottom, le-<? h.top) refl

pub inner-inside : {r : Rect} {p : Point} → Inner r p → inside r p ≡ true
inner-inside w = held-inside (record { left = range-low w.x; right = range-high w.x; bottom = range-low w.y; top = range-high w.y })

pub outside-outer : {r : Rect} {p : Point} → inside r p ≡ false → ¬ Inner r p
outside-outer e w = true≢false (sym (inner-inside w) ∙ e)

outer-outside : {r : Rect} {p : Point} → (¬ Inner r p) → inside r p ≡ false
outer-outside {r} {p} h = go (inside r p) refl
  where
    go : (t : Bool) → inside r p ≡ t → t ≡ false
    go true e = absurd (h (inside-inner e))
    go false e = refl

-- ---- each segment is of one type, and of no other

pub some-type : (r : Rect) (a b : Point) → OfType r a b (type_of r a b)
unfolding type_of
some-type r a b = go (inside r a) (inside r b) refl refl
  where
    go : (x y : Bool) → inside r a ≡ x → inside r b ≡ y → OfType r a b (type_by x y)
    go true true ea eb = (inside-inner ea, inside-inner eb)
    go true false ea eb = (inside-inner ea, outside-outer eb)
    go false true ea eb = (outside-outer ea, inside-inner eb)
    go false false ea eb = (outside-outer ea, outside-outer eb)

type-is : (r : Rect) (a b : Point) (t : LineType) → OfType r a b t → type_of r a b ≡ t
unfolding type_of
type-is r a b inside_to_inside h = rw (inner-inside h.0, inner-inside h.1) refl
type-is r a b inside_to_outside h = rw (inner-inside h.0, outer-outside h.1) refl
type-is r a b outside_to_inside h = rw (outer-outside h.0, inner-inside h.1) refl
type-is r a b outside_to_outside h = rw (outer-outside h.0, outer-outside h.1) refl

pub one_type : (r : Rect) (a b : Point) (t u : LineType) → OfType r a b t → OfType r a b u → t ≡ u
one_type r a b t u h k = sym (type-is r a b t h) ∙ type-is r a b u k

-- ---- after as many steps as lo..hi asks, and at least one but no more than all, the place is lo or hi

axis-edge : (lo hi p q u : ℤ) → pos 0 <ᶻ u → pos 0 <ᶻ axis_entry lo hi p q u → axis_entry lo hi p q u ≤ᶻ u *ℤ extent p q →
    (axis_place p q u (axis_entry lo hi p q u) ≡ lo) ⊎ (axis_place p q u (axis_entry lo hi p q u) ≡ hi)
unfolding axis_entry axis_place toward extent
axis-edge lo hi p q u k = go (p <? q) (q <? p) refl refl
  where
    up_way : u *ℤ p +ℤ (lo -ℤ p) *ℤ u ≡ u *ℤ lo
    up_way = rw (is u, is p, is lo) (simp Z (omega arith))

    down-way : u *ℤ p +ℤ neg_ℤ ((p -ℤ hi) *ℤ u) ≡ u *ℤ hi
    down-way = rw (is u, is p, is hi) (simp Z (omega arith))

    one : u *ℤ pos 1 ≡ u
    one = rw (is u) (simp Z (omega arith))

    more : u <ᶻ u +ℤ pos 1
    more = rw (is u) (simp Z (omega arith))

    past : {X : Type 0} → u +ℤ pos 1 ≤ᶻ u *ℤ pos 1 → X
    past h = let g = subst (λ (z : ℤ). u +ℤ pos 1 ≤ᶻ z) one h in absurd (omega (arith, ord, g, more))

    go : (a b : Bool) → (p <? q) ≡ a → (q <? p) ≡ b →
        let e = cond a ((lo -ℤ p) *ℤ u) (cond b ((p -ℤ hi) *ℤ u) (cond (p <? lo) (u +ℤ pos 1) (cond (hi <? p) (u +ℤ pos 1) (pos 0)))) in
        pos 0 <ᶻ e → e ≤ᶻ u *ℤ cond a (q -ℤ p) (cond b (p -ℤ q) (pos 1)) →
        (nearest_div (u *ℤ p +ℤ cond a e (cond b (neg_ℤ e) (pos 0))) u ≡ lo) ⊎ (nearest_div (u *ℤ p +ℤ cond a e (cond b (neg_ℤ e) (pos 0))) u ≡ hi)
    go true b ea eb h l = inl (ap (λ (z : ℤ). nearest_div z u) up_way ∙ whole-nearest u lo k)
    go false true ea eb h l = inr (ap (λ (z : ℤ). nearest_div z u) down-way ∙ whole-nearest u hi k)
    go false false ea eb h l = out (p <? lo) (hi <? p) h l
      where
        out : (c d : Bool) → let e = cond c (u +ℤ pos 1) (cond d (u +ℤ pos 1) (pos 0)) in
            pos 0 <ᶻ e → e ≤ᶻ u *ℤ pos 1 → (nearest_div (u *ℤ p +ℤ pos 0) u ≡ lo) ⊎ (nearest_div (u *ℤ p +ℤ pos 0) u ≡ hi)
        out true d h l = past l
        out false true h l = past l
        out false false h l = absurd (omega (arith, ord, h))

-- with the entry m of the axis that asks for the most steps
asked : (lo hi p q u m : ℤ) (k : ℕ) → pos 0 <ᶻ u → Is m k 0 → 0 < k → k ≤ up (extent p q) * up u → up (axis_entry lo hi p q u) ≡ k →
    (axis_place p q u m ≡ lo) ⊎ (axis_place p q u m ≡ hi)
asked lo hi p q u m k pu im some l e =
    let n : axis_entry lo hi p q u ≡ m = omega (arith, ord, im.eq, e, abs (axis_entry lo hi p q u), abs m) in
    subst (λ (z : ℤ). (axis_place p q u z ≡ lo) ⊎ (axis_place p q u z ≡ hi)) n
    (axis-edge lo hi p q u pu (omega (arith, ord, e)) (rw n (→le im (natural (above pu) ⊗ natural (above (extent-pos p q))) (omega arith))))
  where
    above : {z : ℤ} → pos 0 <ᶻ z → pos 0 ≤ᶻ z
    above h = omega (arith, ord)

-- ---- an end outside

-- where no step enters, the end is within
entered : (r : Rect) (a b : Point) → till r a b ≡ 0 → till r b a ≤ all a b → inside r a ≡ true
entered r a b z l =
    let w = within r a b 0 1 (omega arith) (omega arith) (record { after = omega (arith, z); before = omega (arith, l) }) in
    let x = inside-in r.left r.right a.x b.x 0 1 (omega arith) (omega arith) w.x in
    let y = inside-in r.bottom r.top a.y b.y 0 1 (omega arith) (omega arith) w.y in
    held-inside (record { left = omega (arith, ord, x.low); right = omega (arith, ord, x.high); bottom = omega (arith, ord, y.low); top = omega (arith, ord, y.high) })

outside-till : (r : Rect) (a b : Point) → inside r a ≡ false → till r a b + till r b a ≤ all a b → 0 < till r a b
outside-till r a b e f = go (till r a b) refl
  where
    go : (n : ℕ) → till r a b ≡ n → 0 < n
    go zero z = absurd (true≢false (sym (entered r a b z (omega (arith, f))) ∙ e))
    go (suc n) z = omega arith

abbrev Edge : Rect → Point → Type 0
Edge r p = ((p.x ≡ r.left) ⊎ (p.x ≡ r.right)) ⊎ ((p.y ≡ r.bottom) ⊎ (p.y ≡ r.top))

edge_at : (r : Rect) (a b : Point) → 0 < till r a b → till r a b ≤ all a b → Edge r (place a b (entry r a b))
unfolding place
edge_at r a b some l = go (x - y) refl
  where
    x : ℕ
    x = up (axis_entry r.left r.right a.x b.x (extent a.y b.y))

    y : ℕ
    y = up (axis_entry r.bottom r.top a.y b.y (extent a.x b.x))

    go : (d : ℕ) → x - y ≡ d → Edge r (place a b (entry r a b))
    go zero e =
        inr (asked _ _ a.y b.y _ _ (till r a b) (extent-pos a.x b.x) (entry-is r a b) some (omega (arith, l)) (omega (arith, till-max r a b, e)))
    go (suc d) e =
        inl (asked _ _ a.x b.x _ _ (till r a b) (extent-pos a.y b.y) (entry-is r a b) some l (omega (arith, till-max r a b, e)))

-- the first end of a stroke, and the last
edge-first : (r : Rect) (a b : Point) → inside r a ≡ false → till r a b + till r b a ≤ all a b → Edge r (place a b (entry r a b))
edge-first r a b e f = edge_at r a b (outside-till r a b e f) (omega (arith, f))

edge-last : (r : Rect) (a b : Point) → inside r b ≡ false → till r a b + till r b a ≤ all a b → Edge r (place b a (entry r b a))
edge-last r a b e f = edge-first r b a e (omega (arith, f, all-sym a b))

-- ---- what is painted

pub by-type : (r : Rect) (a b : Point) → Painted r a b (type_of r a b) (clip r a b)
unfolding type_of
by-type r a b = go (inside r a) (inside r b) refl refl
  where
    go : (x y : Bool) → inside r a ≡ x → inside r b ≡ y → Painted r a b (type_by x y) (clip r a b)
    go true true ea eb = unclipped r a b ea eb
    go true false ea eb =
        let h = leaves r a b ea in
        (_, record { within = (clip-inside r a b _ _ h).1; edge = edge-last r a b eb (fits r a b _ _ h) }, h)
    go false true ea eb =
        let h = enters r a b eb in
        (_, record { within = (clip-inside r a b _ _ h).0; edge = edge-first r a b ea (fits r a b _ _ h) }, h)
    go false false ea eb = both (till r a b + till r b a - all a b) refl
      where
        both : (d : ℕ) → till r a b + till r b a - all a b ≡ d →
            (clip r a b ≡ None) ⊎ ((s : Point) × (t : Point) × OnEdge r s × OnEdge r t × (clip r a b ≡ Some (s, t)))
        both zero e =
            let f : till r a b + till r b a ≤ all a b = omega arith in
            let h = shows r a b f in
            let w = clip-inside r a b _ _ h in
            inr (_, _, record { within = w.0; edge = edge-first r a b ea f }, record { within = w.1; edge = edge-last r a b eb f }, h)
        both (suc d) e = inl (hides r a b (omega arith))
