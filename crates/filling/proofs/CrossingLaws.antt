-- A rounded crossing is found by one division, and lies between the ends of its side, in x: so it is no larger than they are.
-- Why it holds: the crossing is the ends' mean, weighed by the row's way to the one and to the other, and rounding keeps the order.
use Rattle.std.specs.Prelude.{◌≡◌, refl, Bool, true, false, not, zero, suc, T, ℤ, pos, negsuc, neg_ℤ, ◌+ℤ◌, ◌-ℤ◌, ◌*ℤ◌}
use Rattle.std.proofs.Common.{sym, ap, ap₂, ◌∙◌, subst, arith}
use Rattle.exact.specs.Whole.{◌≤ᶻ◌, ◌<ᶻ◌, is, Z, ord, ◌≤?◌, ≤?-true, ≤?-false}
use Rattle.exact.specs.Fit.{Bd, abs}
use Rattle.exact.specs.Laws.{mul-≤}
use Rattle.exact.specs.Divide.{nearest_div}
use Rattle.exact.specs.Nearest.{nearest-mono, nearest-only}
use Rattle.clip.specs.Line.{whole, based, nearest_whole}
use Rattle.clip.proofs.Based.{based-nearest}
use Rattle.clip.specs.Reach.{reach}
use Rattle.turns.specs.Turn.{lesser_of, greater_of}
use Rattle.turns.proofs.BoxLaws.{lesser-by, greater-by, lesser-≤, greater-≥}
use Rattle.filling.specs.Filling.{meets, crossing}
use Rattle.filling.proofs.RingLaws.{differ, meets-by}
use Rattle.filling.specs.Bounds.{SmallSide}
use Rattle.filling.specs.declared.Side.{Side}

-- ---- one division
pub crossing-nearest : (y : ℤ) (e : Side) → (e.to.y -ℤ e.from.y ≡ pos 0 → ⊥) →
    nearest_whole (crossing y e) ≡ e.from.x +ℤ nearest_div ((y -ℤ e.from.y) *ℤ (e.to.x -ℤ e.from.x)) (e.to.y -ℤ e.from.y)
unfolding crossing
crossing-nearest y e h = based-nearest e.from.x (y -ℤ e.from.y) (e.to.x -ℤ e.from.x) (e.to.y -ℤ e.from.y) h

-- k d / d is k
times-over : (k d : ℤ) → pos 0 <ᶻ d → k ≡ nearest_div (k *ℤ d) d
times-over k d h = nearest-only (k *ℤ d) d k h (low h) (high h)
  where
    low : pos 0 <ᶻ d → pos 2 *ℤ d *ℤ k ≤ᶻ pos 2 *ℤ (k *ℤ d) +ℤ d
    low = rw (is k, is d) (simp Z (omega arith))

    high : pos 0 <ᶻ d → pos 2 *ℤ (k *ℤ d) +ℤ d <ᶻ pos 2 *ℤ d *ℤ (k +ℤ pos 1)
    high = rw (is k, is d) (simp Z (omega arith))

whole-itself : (z : ℤ) → nearest_whole (whole z) ≡ z
whole-itself z = ap (λ (k : ℤ). nearest_div k (pos 1)) (one_time z) ∙ sym (times-over z (pos 1) (omega (arith, ord)))
  where
    one_time : (z : ℤ) → z ≡ z *ℤ pos 1
    one_time z = rw (is z) (simp Z (omega arith))

-- a level side has no crossing; its start stands for one
pub crossing-level : (y : ℤ) (e : Side) → e.to.y -ℤ e.from.y ≡ pos 0 → nearest_whole (crossing y e) ≡ e.from.x
unfolding crossing
crossing-level y e h =
    ap (λ (w : ℤ). nearest_whole (based e.from.x (y -ℤ e.from.y) (e.to.x -ℤ e.from.x) w)) h ∙ whole-itself e.from.x

-- ---- between the ends

-- O is part of the way W
data Along (O W : ℤ) : Type 0 where
  ahead : pos 0 ≤ᶻ O → O ≤ᶻ W → Along O W
  back : O ≤ᶻ pos 0 → W ≤ᶻ O → Along O W

weigh : (lo x y a b : ℤ) → pos 0 ≤ᶻ a → pos 0 ≤ᶻ b → lo ≤ᶻ x → lo ≤ᶻ y → lo *ℤ (a +ℤ b) ≤ᶻ x *ℤ a +ℤ y *ℤ b
weigh lo x y a b ha hb hx hy = go (mul-≤ {c = a} ha hx) (mul-≤ {c = b} hb hy)
  where
    go : a *ℤ lo ≤ᶻ a *ℤ x → b *ℤ lo ≤ᶻ b *ℤ y → lo *ℤ (a +ℤ b) ≤ᶻ x *ℤ a +ℤ y *ℤ b
    go = rw (is lo, is x, is y, is a, is b) (simp Z (omega arith))

weigh-high : (hi x y a b : ℤ) → pos 0 ≤ᶻ a → pos 0 ≤ᶻ b → x ≤ᶻ hi → y ≤ᶻ hi → x *ℤ a +ℤ y *ℤ b ≤ᶻ hi *ℤ (a +ℤ b)
weigh-high hi x y a b ha hb hx hy = go (mul-≤ {c = a} ha hx) (mul-≤ {c = b} hb hy)
  where
    go : a *ℤ x ≤ᶻ a *ℤ hi → b *ℤ y ≤ᶻ b *ℤ hi → x *ℤ a +ℤ y *ℤ b ≤ᶻ hi *ℤ (a +ℤ b)
    go = rw (is hi, is x, is y, is a, is b) (simp Z (omega arith))

-- z is between lo and hi
pub record Between (lo hi z : ℤ) : Type 0 where
  pub low : lo ≤ᶻ z
  pub high : z ≤ᶻ hi

-- the mean of x and y, weighed by a and b, of which not both are 0
mean : (lo hi x y a b : ℤ) → pos 0 <ᶻ a +ℤ b → pos 0 ≤ᶻ a → pos 0 ≤ᶻ b → Between lo hi x → Between lo hi y → Between lo hi (nearest_div (x *ℤ a +ℤ y *ℤ b) (a +ℤ b))
mean lo hi x y a b h ha hb k l = record {
  low =
      subst (λ (z : ℤ). z ≤ᶻ nearest_div (x *ℤ a +ℤ y *ℤ b) (a +ℤ b)) (sym (times-over lo (a +ℤ b) h))
      (nearest-mono (lo *ℤ (a +ℤ b)) (x *ℤ a +ℤ y *ℤ b) (a +ℤ b) h (weigh lo x y a b ha hb k.low l.low));
  high =
      subst (λ (z : ℤ). nearest_div (x *ℤ a +ℤ y *ℤ b) (a +ℤ b) ≤ᶻ z) (sym (times-over hi (a +ℤ b) h))
      (nearest-mono (x *ℤ a +ℤ y *ℤ b) (hi *ℤ (a +ℤ b)) (a +ℤ b) h (weigh-high hi x y a b ha hb k.high l.high));
}

-- the same mean, its numerator and denominator written otherwise
mean-of : (lo hi x y a b n d : ℤ) → n ≡ x *ℤ a +ℤ y *ℤ b → d ≡ a +ℤ b → pos 0 <ᶻ d → pos 0 ≤ᶻ a → pos 0 ≤ᶻ b → Between lo hi x → Between lo hi y → Between lo hi (nearest_div n d)
mean-of lo hi x y a b n d en ed h ha hb k l =
    subst (λ (z : ℤ). Between lo hi z) (sym (ap₂ nearest_div en ed)) (mean lo hi x y a b (subst (λ (z : ℤ). pos 0 <ᶻ z) ed h) ha hb k l)

clash : {X : Type 0} {a b : ℤ} → a ≤ᶻ b → b <ᶻ a → X
clash h k = absurd (omega (arith, ord))

trans : {a b c : ℤ} → a ≤ᶻ b → b ≤ᶻ c → a ≤ᶻ c
trans h k = omega (arith, ord)

based-between : (lo hi B O D W : ℤ) → Along O W → Between lo hi B → Between lo hi (B +ℤ D) → Between lo hi (nearest_whole (based B O D W))
based-between lo hi B O D (pos zero) a k l = subst (λ (z : ℤ). Between lo hi z) (sym (whole-itself B)) k
based-between lo hi B O D (pos (suc w)) (ahead p q) k l =
    mean-of lo hi B (B +ℤ D) (pos (suc w) -ℤ O) O _ _ (over (pos (suc w))) (way (pos (suc w))) (omega (arith, ord)) (rest (pos (suc w)) q) p k l
  where
    over : (W : ℤ) → B *ℤ W +ℤ O *ℤ D ≡ B *ℤ (W -ℤ O) +ℤ (B +ℤ D) *ℤ O
    over W = rw (is B, is O, is D, is W) (simp Z (omega arith))

    way : (W : ℤ) → W ≡ W -ℤ O +ℤ O
    way W = rw (is O, is W) (simp Z (omega arith))

    rest : (W : ℤ) → O ≤ᶻ W → pos 0 ≤ᶻ W -ℤ O
    rest W = rw (is O, is W) (simp Z (omega arith))
based-between lo hi B O D (pos (suc w)) (back p q) k l = clash (trans q p) (omega (arith, ord))
based-between lo hi B O D (negsuc w) (ahead p q) k l = clash (trans p q) (omega (arith, ord))
based-between lo hi B O D (negsuc w) (back p q) k l =
    mean-of lo hi B (B +ℤ D) (pos (suc w) +ℤ O) (neg_ℤ O) _ _ (over (pos (suc w))) (way (pos (suc w))) (omega (arith, ord)) (rest q) (turn p) k l
  where
    over : (W : ℤ) → B *ℤ W -ℤ O *ℤ D ≡ B *ℤ (W +ℤ O) +ℤ (B +ℤ D) *ℤ neg_ℤ O
    over W = rw (is B, is O, is D, is W) (simp Z (omega arith))

    way : (W : ℤ) → W ≡ W +ℤ O +ℤ neg_ℤ O
    way W = rw (is O, is W) (simp Z (omega arith))

    rest : negsuc w ≤ᶻ O → pos 0 ≤ᶻ pos (suc w) +ℤ O
    rest = rw (is O) (simp Z (omega arith))

    turn : O ≤ᶻ pos 0 → pos 0 ≤ᶻ neg_ℤ O
    turn = rw (is O) (simp Z (omega arith))

weak : {a b : ℤ} → a <ᶻ b → a ≤ᶻ b
weak h = omega (arith, ord)

not-below : (a y : ℤ) → a ≤ᶻ y → pos 0 ≤ᶻ y -ℤ a
not-below a y = rw (is a, is y) (simp Z (omega arith))

not-above : (a y : ℤ) → y ≤ᶻ a → y -ℤ a ≤ᶻ pos 0
not-above a y = rw (is a, is y) (simp Z (omega arith))

less : (a p q : ℤ) → p ≤ᶻ q → p -ℤ a ≤ᶻ q -ℤ a
less a p q = rw (is a, is p, is q) (simp Z (omega arith))

never : false ≡ true → ⊥
never e = subst (λ (t : Bool). T (not t)) e tt

-- a row that one end is at or below, and the other is not, is part of the way between them
along : (a b y : ℤ) → differ (a ≤? y) (b ≤? y) ≡ true → Along (y -ℤ a) (b -ℤ a)
along a b y h = go (a ≤? y) (b ≤? y) refl refl h
  where
    go : (s t : Bool) → (a ≤? y) ≡ s → (b ≤? y) ≡ t → differ s t ≡ true → Along (y -ℤ a) (b -ℤ a)
    go true true e f d = absurd (never d)
    go true false e f d = ahead (not-below a y (≤?-true a y e)) (less a y b (weak (≤?-false b y f)))
    go false true e f d = back (not-above a y (weak (≤?-false a y e))) (less a b y (≤?-true b y f))
    go false false e f d = absurd (never d)

pub crossing-between : (y : ℤ) (e : Side) → meets y e ≡ true →
    Between (lesser_of e.from.x e.to.x) (greater_of e.from.x e.to.x) (nearest_whole (crossing y e))
unfolding crossing
crossing-between y e m =
    let a = e.from in
    let b = e.to in
    let l = lesser-≤ a.x b.x in
    let g = greater-≥ a.x b.x in
    based-between (lesser_of a.x b.x) (greater_of a.x b.x) a.x (y -ℤ a.y) (b.x -ℤ a.x) (b.y -ℤ a.y)
    (along a.y b.y y (sym (meets-by y e) ∙ m)) (record { low = l.0; high = g.0 })
    (subst (λ (z : ℤ). Between (lesser_of a.x b.x) (greater_of a.x b.x) z) (there a.x b.x) (record { low = l.1; high = g.1 }))
  where
    there : (p q : ℤ) → q ≡ p +ℤ (q -ℤ p)
    there p q = rw (is p, is q) (simp Z (omega arith))

pub crossing-small : (y : ℤ) (e : Side) → SmallSide e → meets y e ≡ true → Bd (nearest_whole (crossing y e)) reach
crossing-small y e h m =
    let b = crossing-between y e m in
    go (lesser-by (λ (z : ℤ). Bd z reach) e.from.x e.to.x (λ k. h.from.x) (λ k. h.to.x)) (greater-by (λ (z : ℤ). Bd z reach) e.from.x e.to.x (λ k. h.from.x) (λ k. h.to.x)) b
  where
    go : {lo hi z : ℤ} → Bd lo reach → Bd hi reach → Between lo hi z → Bd z reach
    go {lo} {hi} {z} k l b = record { bd = omega (arith, ord, b.low, b.high, k.bd, l.bd, abs lo, abs hi, abs z) }
