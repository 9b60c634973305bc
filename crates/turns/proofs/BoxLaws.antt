-- The turn and boxes: an exact point is in a box, at a margin, exactly when the turned point is in the turned box; and what rounds an exact point, turned,
-- rounds the turned one. Each is argued for one row of the table, which makes of an exact point one of its coordinates, or minus that.
use Rattle.std.specs.Prelude.{◌≡◌, refl, ◌↔◌, ◌⊎◌, ℕ, ◌*◌, ◌<◌, ℤ, pos, negsuc, neg_ℤ, ◌+ℤ◌, ◌*ℤ◌}
use Rattle.std.proofs.Common.{sym, ap, ap₂, ◌∙◌, subst, inl, inr, arith}
use Rattle.exact.specs.Whole.{◌≤ᶻ◌, ◌<ᶻ◌, is, Z, ord, lt-<?, le-<?}
use Rattle.exact.specs.Laws.{≤-total}
use Rattle.exact.specs.Fit.{Bd}
use Rattle.clip.specs.Reach.{SmallPoint, SmallRect}
use Rattle.clip.specs.Line.{Frac, Exact, Inside, Within, Rounds, RoundsTo}
use Rattle.clip.specs.declared.Point.{Point}
use Rattle.clip.specs.declared.Rect.{Rect}
use Rattle.turns.specs.Turn.{turn_count, along_of, turned_of, turned_back_of, lesser_of, greater_of, ordered_of, turned_box_of, turned_back_box_of, along_f, turned_exact}
use Rattle.clip.specs.Fractions.{Same}
use Rattle.turns.specs.FractionLaws.{back, inside-same, rounds-same, neg_f, inside-neg, inside-unneg, rounds-neg}
use Rattle.turns.proofs.TurnLaws.{Row, east, north, west, south, Units, units, coord, coord-is, turned-small, back-small}

-- ---- the lesser and the greater: one of the two, and which
weak : {a b : ℤ} → a <ᶻ b → a ≤ᶻ b
weak h = omega (arith, ord)

pub lesser-by : (P : ℤ → Type 0) (a b : ℤ) → (a ≤ᶻ b → P a) → (b ≤ᶻ a → P b) → P (lesser_of a b)
unfolding lesser_of
lesser-by P a b h k = go (≤-total a b)
  where
    go : (a ≤ᶻ b) ⊎ (b <ᶻ a) → P (lesser_of a b)
    go (inl l) = rw (le-<? l) (h l)
    go (inr l) = rw (lt-<? l) (k (weak l))

pub greater-by : (P : ℤ → Type 0) (a b : ℤ) → (b ≤ᶻ a → P a) → (a ≤ᶻ b → P b) → P (greater_of a b)
unfolding greater_of
greater-by P a b h k = go (≤-total b a)
  where
    go : (b ≤ᶻ a) ⊎ (a <ᶻ b) → P (greater_of a b)
    go (inl l) = rw (le-<? l) (h l)
    go (inr l) = rw (lt-<? l) (k (weak l))

same : {a b : ℤ} → a ≤ᶻ b → b ≤ᶻ a → a ≡ b
same h k = omega (arith, ord)

self : (a : ℤ) → a ≤ᶻ a
self a = omega (arith, ord)

pub lesser-≤ : (a b : ℤ) → (lesser_of a b ≤ᶻ a) × (lesser_of a b ≤ᶻ b)
lesser-≤ a b = lesser-by (λ (z : ℤ). (z ≤ᶻ a) × (z ≤ᶻ b)) a b (λ h. (self a, h)) (λ h. (h, self b))

pub greater-≥ : (a b : ℤ) → (a ≤ᶻ greater_of a b) × (b ≤ᶻ greater_of a b)
greater-≥ a b = greater-by (λ (z : ℤ). (a ≤ᶻ z) × (b ≤ᶻ z)) a b (λ h. (self a, h)) (λ h. (h, self b))

-- in order already, or the other way round
record Pair (a b lo hi : ℤ) : Type 0 where
  least : lesser_of a b ≡ lo
  most : greater_of a b ≡ hi

straight : {a b : ℤ} → a ≤ᶻ b → Pair a b a b
straight {a} {b} h = record { least = lesser-by (λ (z : ℤ). z ≡ a) a b (λ k. refl) (λ k. same k h); most = greater-by (λ (z : ℤ). z ≡ b) a b (λ k. same h k) (λ k. refl) }

crossed : {a b : ℤ} → b ≤ᶻ a → Pair a b b a
crossed {a} {b} h = record { least = lesser-by (λ (z : ℤ). z ≡ b) a b (λ k. same k h) (λ k. refl); most = greater-by (λ (z : ℤ). z ≡ a) a b (λ k. refl) (λ k. same h k) }

-- a box whose edges stand in order; one made of two corners is such
pub record Ordered (r : Rect) : Type 0 where
  pub x : r.left ≤ᶻ r.right
  pub y : r.bottom ≤ᶻ r.top

pub ordered-is : (p q : Point) → Ordered (ordered_of p q)
unfolding ordered_of
ordered-is p q = record { x = go p.x q.x; y = go p.y q.y }
  where
    through : {a b c : ℤ} → a ≤ᶻ b → b ≤ᶻ c → a ≤ᶻ c
    through h k = omega (arith, ord)

    go : (a b : ℤ) → lesser_of a b ≤ᶻ greater_of a b
    go a b = through (lesser-≤ a b).0 (greater-≥ a b).0

pub turned-ordered : (r : Rect) (t : ℕ) → Ordered (turned_box_of r t)
unfolding turned_box_of
turned-ordered r t = ordered-is (turned_of (record { x = r.left; y = r.bottom }) t) (turned_of (record { x = r.right; y = r.top }) t)

-- ---- bounds
pub lesser-size : {a b : ℤ} {n : ℕ} → Bd a n → Bd b n → Bd (lesser_of a b) n
lesser-size {a} {b} {n} h k = lesser-by (λ (z : ℤ). Bd z n) a b (λ l. h) (λ l. k)

pub greater-size : {a b : ℤ} {n : ℕ} → Bd a n → Bd b n → Bd (greater_of a b) n
greater-size {a} {b} {n} h k = greater-by (λ (z : ℤ). Bd z n) a b (λ l. h) (λ l. k)

pub ordered-small : {p q : Point} → SmallPoint p → SmallPoint q → SmallRect (ordered_of p q)
unfolding ordered_of
ordered-small h k = record {
  left = lesser-size h.x k.x;
  bottom = lesser-size h.y k.y;
  right = greater-size h.x k.x;
  top = greater-size h.y k.y;
}

pub box-small : {r : Rect} {t : ℕ} → SmallRect r → t < turn_count → SmallRect (turned_box_of r t)
unfolding turned_box_of
box-small {r} {t} h l =
    ordered-small (turned-small {p = record { x = r.left; y = r.bottom }} {t = t} (record { x = h.left; y = h.bottom }) l)
    (turned-small {p = record { x = r.right; y = r.top }} {t = t} (record { x = h.right; y = h.top }) l)

pub back-box-small : {r : Rect} {t : ℕ} → SmallRect r → t < turn_count → SmallRect (turned_back_box_of r t)
unfolding turned_back_box_of
back-box-small {r} {t} h l =
    ordered-small (back-small {p = record { x = r.left; y = r.bottom }} {t = t} (record { x = h.left; y = h.bottom }) l)
    (back-small {p = record { x = r.right; y = r.top }} {t = t} (record { x = h.right; y = h.top }) l)

-- ---- what a row makes of an exact point, and of a box's edges
abbrev coord_f : {a b : ℤ} → Row a b → Exact → Frac
coord_f east e = e.x
coord_f north e = e.y
coord_f west e = neg_f e.x
coord_f south e = neg_f e.y

row_same : {a b : ℤ} (w : Row a b) (e : Exact) → Same (coord_f w e) (along_f a b e)
row_same east e = record { eq = go e.x.den e.y.den e.x.num e.y.num }
  where
    go : (d d' : ℕ) (n n' : ℤ) → pos (d * d') *ℤ n ≡ pos d *ℤ (pos d' *ℤ (pos 1 *ℤ n) +ℤ pos d *ℤ (pos 0 *ℤ n'))
    go d d' n n' = rw (is n, is n') (simp Z (omega arith))
row_same north e = record { eq = go e.x.den e.y.den e.x.num e.y.num }
  where
    go : (d d' : ℕ) (n n' : ℤ) → pos (d * d') *ℤ n' ≡ pos d' *ℤ (pos d' *ℤ (pos 0 *ℤ n) +ℤ pos d *ℤ (pos 1 *ℤ n'))
    go d d' n n' = rw (is n, is n') (simp Z (omega arith))
row_same west e = record { eq = go e.x.den e.y.den e.x.num e.y.num }
  where
    go : (d d' : ℕ) (n n' : ℤ) → pos (d * d') *ℤ neg_ℤ n ≡ pos d *ℤ (pos d' *ℤ (negsuc 0 *ℤ n) +ℤ pos d *ℤ (pos 0 *ℤ n'))
    go d d' n n' = rw (is n, is n') (simp Z (omega arith))
row_same south e = record { eq = go e.x.den e.y.den e.x.num e.y.num }
  where
    go : (d d' : ℕ) (n n' : ℤ) → pos (d * d') *ℤ neg_ℤ n' ≡ pos d' *ℤ (pos d' *ℤ (pos 0 *ℤ n) +ℤ pos d *ℤ (negsuc 0 *ℤ n'))
    go d d' n n' = rw (is n, is n') (simp Z (omega arith))

abbrev lowest : {a b : ℤ} → Row a b → Rect → ℤ
lowest east r = r.left
lowest north r = r.bottom
lowest west r = neg_ℤ r.right
lowest south r = neg_ℤ r.top

abbrev highest : {a b : ℤ} → Row a b → Rect → ℤ
highest east r = r.right
highest north r = r.top
highest west r = neg_ℤ r.left
highest south r = neg_ℤ r.bottom

neg-≤ : {a b : ℤ} → a ≤ᶻ b → neg_ℤ b ≤ᶻ neg_ℤ a
neg-≤ {a} {b} = rw (is a, is b) (simp Z (omega arith))

coord-edges : {a b : ℤ} (w : Row a b) (r : Rect) → Ordered r → Pair (coord w r.left r.bottom) (coord w r.right r.top) (lowest w r) (highest w r)
coord-edges east r o = straight o.x
coord-edges north r o = straight o.y
coord-edges west r o = crossed (neg-≤ o.x)
coord-edges south r o = crossed (neg-≤ o.y)

edges : {a b : ℤ} (w : Row a b) (r : Rect) → Ordered r → Pair (along_of a b r.left r.bottom) (along_of a b r.right r.top) (lowest w r) (highest w r)
edges w r o =
    let h = coord-edges w r o in
    let p = coord-is w r.left r.bottom in
    let q = coord-is w r.right r.top in
    record { least = ap₂ lesser_of p q ∙ h.least; most = ap₂ greater_of p q ∙ h.most }

-- ---- a box turned back, and turned again
abbrev box_along : {a b c d : ℤ} → Row a b → Row c d → Rect → Rect
box_along w v r = record { left = lowest w r; bottom = lowest v r; right = highest w r; top = highest v r }

box-along : {a b c d : ℤ} (w : Row a b) (v : Row c d) (r : Rect) → Ordered r →
    ordered_of (record { x = along_of a b r.left r.bottom; y = along_of c d r.left r.bottom }) (record { x = along_of a b r.right r.top; y = along_of c d r.right r.top }) ≡ box_along w v r
unfolding ordered_of
box-along w v r o =
    let h = edges w r o in
    let k = edges v r o in
    λ i. record { left = h.least i; bottom = k.least i; right = h.most i; top = k.most i }

neg-neg : (z : ℤ) → neg_ℤ (neg_ℤ z) ≡ z
neg-neg z = rw (is z) (simp Z (omega arith))

-- a row and a column of a turn tell which edge comes home
left-home : {a b a' b' : ℤ} (x : Row a a') (y : Row b b') (w : Row a b) (r : Rect) → lowest w (box_along x y r) ≡ r.left
left-home east y east r = refl
left-home west y west r = neg-neg r.left
left-home x east north r = refl
left-home x west south r = neg-neg r.left

right-home : {a b a' b' : ℤ} (x : Row a a') (y : Row b b') (w : Row a b) (r : Rect) → highest w (box_along x y r) ≡ r.right
right-home east y east r = refl
right-home west y west r = neg-neg r.right
right-home x east north r = refl
right-home x west south r = neg-neg r.right

bottom-home : {a b a' b' : ℤ} (x : Row a a') (y : Row b b') (w : Row a' b') (r : Rect) → lowest w (box_along x y r) ≡ r.bottom
bottom-home north y east r = refl
bottom-home south y west r = neg-neg r.bottom
bottom-home x north north r = refl
bottom-home x south south r = neg-neg r.bottom

top-home : {a b a' b' : ℤ} (x : Row a a') (y : Row b b') (w : Row a' b') (r : Rect) → highest w (box_along x y r) ≡ r.top
top-home north y east r = refl
top-home south y west r = neg-neg r.top
top-home x north north r = refl
top-home x south south r = neg-neg r.top

-- "turned back": turned again it is the box itself, for every turn
pub box-home : (r : Rect) (t : ℕ) → t < turn_count → Ordered r → turned_box_of (turned_back_box_of r t) t ≡ r
unfolding turned_box_of turned_back_box_of turned_of turned_back_of
box-home r t l o =
    let u = units t l in
    let x = u.column-x in
    let y = u.column-y in
    let b : Rect = box_along x y r in
    let back : turned_back_box_of r t ≡ b = box-along x y r o in
    let ordered : Ordered b = subst Ordered back (ordered-is _ _) in
    ap (λ (q : Rect). turned_box_of q t) back ∙ box-along u.row-x u.row-y b ordered
    ∙ (λ i. record { left = left-home x y u.row-x r i; bottom = bottom-home x y u.row-y r i; right = right-home x y u.row-x r i; top = top-home x y u.row-y r i })

-- ---- a point in a box
forth : {a b : ℤ} {r : Rect} {c : ℕ} {e : Exact} (w : Row a b) → Within r c e → Inside (lowest w r) (highest w r) c (coord_f w e)
forth east h = h.x
forth north h = h.y
forth west h = inside-neg h.x
forth south h = inside-neg h.y

-- home again: a column tells which row has the coordinate
home-x : {a b a' b' : ℤ} (r : Rect) (c : ℕ) (e : Exact) → Row a a' → (w : Row a b) (v : Row a' b') →
    Inside (lowest w r) (highest w r) c (coord_f w e) → Inside (lowest v r) (highest v r) c (coord_f v e) → Inside r.left r.right c e.x
home-x r c e east east v h k = h
home-x r c e west west v h k = inside-unneg h
home-x r c e north w east h k = k
home-x r c e south w west h k = inside-unneg k

home-y : {a b a' b' : ℤ} (r : Rect) (c : ℕ) (e : Exact) → Row b b' → (w : Row a b) (v : Row a' b') →
    Inside (lowest w r) (highest w r) c (coord_f w e) → Inside (lowest v r) (highest v r) c (coord_f v e) → Inside r.bottom r.top c e.y
home-y r c e east north v h k = h
home-y r c e west south v h k = inside-unneg h
home-y r c e north w north h k = k
home-y r c e south w south h k = inside-unneg k

home : {a b a' b' : ℤ} (r : Rect) (c : ℕ) (e : Exact) (u : Units a b a' b') →
    Inside (lowest u.row-x r) (highest u.row-x r) c (coord_f u.row-x e) → Inside (lowest u.row-y r) (highest u.row-y r) c (coord_f u.row-y e) → Within r c e
home r c e u h k = record { x = home-x r c e u.column-x u.row-x u.row-y h k; y = home-y r c e u.column-y u.row-x u.row-y h k }

moved : {lo lo' hi hi' : ℤ} {c : ℕ} {f : Frac} → lo ≡ lo' → hi ≡ hi' → Inside lo hi c f → Inside lo' hi' c f
moved {lo' = lo'} {hi = hi} {c = c} {f = f} d e h = subst (λ (z : ℤ). Inside lo' z c f) e (subst (λ (z : ℤ). Inside z hi c f) d h)

-- along one row, from the box to the turned box, and home again
outward : {a b : ℤ} {r : Rect} {c : ℕ} {e : Exact} (w : Row a b) → Ordered r → Within r c e →
    Inside (lesser_of (along_of a b r.left r.bottom) (along_of a b r.right r.top)) (greater_of (along_of a b r.left r.bottom) (along_of a b r.right r.top)) c (along_f a b e)
outward {r = r} {e = e} w o h = let k = edges w r o in moved (sym k.least) (sym k.most) (inside-same (row_same w e) (forth w h))

inward : {a b : ℤ} {r : Rect} {c : ℕ} (e : Exact) (w : Row a b) → Ordered r →
    Inside (lesser_of (along_of a b r.left r.bottom) (along_of a b r.right r.top)) (greater_of (along_of a b r.left r.bottom) (along_of a b r.right r.top)) c (along_f a b e) →
    Inside (lowest w r) (highest w r) c (coord_f w e)
inward {r = r} e w o h = let k = edges w r o in inside-same (back (row_same w e)) (moved k.least k.most h)

-- an exact point is in the box, c from its edges, exactly when the turned one is in the turned box
pub turned-within : (r : Rect) (c : ℕ) (e : Exact) (t : ℕ) → t < turn_count → Ordered r → Within r c e ↔ Within (turned_box_of r t) c (turned_exact e t)
unfolding turned_box_of ordered_of turned_of turned_exact
turned-within r c e t l o =
    let u = units t l in (
      (λ h. record { x = outward u.row-x o h; y = outward u.row-y o h }),
      (λ h. home r c e u (inward e u.row-x o h.x) (inward e u.row-y o h.y)),
    )

-- ---- what rounds stays so. A half that went to the larger number may now lie at the smaller: the turn comes after the rounding
coord-rounds : {a b : ℤ} {e : Exact} {p : Point} (w : Row a b) → RoundsTo e p → Rounds (coord_f w e) (coord w p.x p.y)
coord-rounds east h = h.x
coord-rounds north h = h.y
coord-rounds west h = rounds-neg h.x
coord-rounds south h = rounds-neg h.y

row-rounds : {a b : ℤ} (e : Exact) (p : Point) (w : Row a b) → RoundsTo e p → Rounds (along_f a b e) (along_of a b p.x p.y)
row-rounds {a} {b} e p w h = subst (Rounds (along_f a b e)) (sym (coord-is w p.x p.y)) (rounds-same (row_same w e) (coord-rounds w h))

pub turned-rounds : (e : Exact) (p : Point) (t : ℕ) → t < turn_count → RoundsTo e p → RoundsTo (turned_exact e t) (turned_of p t)
unfolding turned_exact turned_of
turned-rounds e p t l h = let u = units t l in record { x = row-rounds e p u.row-x h; y = row-rounds e p u.row-y h }
