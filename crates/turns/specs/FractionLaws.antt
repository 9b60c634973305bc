-- Two fractions of one number are inside the same bounds and rounded by the same whole numbers, for that is linear in num and den; and what minus a fraction is
-- inside of, and rounded by.
use Rattle.std.specs.Prelude.{◌≡◌, ℕ, ◌<◌, ℤ, pos, neg_ℤ, ◌+ℤ◌, ◌-ℤ◌, ◌*ℤ◌}
use Rattle.std.proofs.Common.{sym, ap, ◌∙◌, subst, arith}
use Rattle.exact.specs.Whole.{◌≤ᶻ◌, ◌<ᶻ◌, is, Z, ord}
use Rattle.exact.specs.Laws.{*ℤ-left-comm, le-of-mul, mul-≤}
use Rattle.clip.specs.Line.{Frac, Inside, Rounds}
use Rattle.clip.specs.Fractions.{Same}

pub back : {f g : Frac} → Same f g → Same g f
back s = record { eq = sym s.eq }

nonneg : (k : ℕ) → pos 0 ≤ᶻ pos k
nonneg k = omega (arith, ord)

positive : {k : ℕ} → 0 < k → pos 0 <ᶻ pos k
positive h = omega (arith, ord)

-- y f and y g, over the denominators
times : {f g : Frac} → Same f g → (y : ℤ) → pos g.den *ℤ (y *ℤ f.num) ≡ pos f.den *ℤ (y *ℤ g.num)
times {f} {g} s y = *ℤ-left-comm (pos g.den) y f.num ∙ ap (λ (z : ℤ). y *ℤ z) s.eq ∙ *ℤ-left-comm y (pos f.den) g.num

at_least : {f g : Frac} → Same f g → (x y : ℤ) → pos f.den *ℤ x ≤ᶻ y *ℤ f.num → pos g.den *ℤ x ≤ᶻ y *ℤ g.num
at_least {f} {g} s x y h =
    le-of-mul {c = pos f.den} (positive f.above)
    (subst (λ (z : ℤ). pos f.den *ℤ (pos g.den *ℤ x) ≤ᶻ z) (times s y)
    (subst (λ (z : ℤ). z ≤ᶻ pos g.den *ℤ (y *ℤ f.num)) (*ℤ-left-comm (pos g.den) (pos f.den) x) (mul-≤ (nonneg g.den) h)))

at_most : {f g : Frac} → Same f g → (x y : ℤ) → y *ℤ f.num ≤ᶻ pos f.den *ℤ x → y *ℤ g.num ≤ᶻ pos g.den *ℤ x
at_most {f} {g} s x y h =
    le-of-mul {c = pos f.den} (positive f.above)
    (subst (λ (z : ℤ). z ≤ᶻ pos f.den *ℤ (pos g.den *ℤ x)) (times s y)
    (subst (λ (z : ℤ). pos g.den *ℤ (y *ℤ f.num) ≤ᶻ z) (*ℤ-left-comm (pos g.den) (pos f.den) x) (mul-≤ (nonneg g.den) h)))

pub inside-same : {f g : Frac} {lo hi : ℤ} {c : ℕ} → Same f g → Inside lo hi c f → Inside lo hi c g
inside-same {lo = lo} {hi = hi} {c = c} s h = record { low = record { le = at_least s (lo +ℤ pos c) (pos 1) h.low.le }; high = record { le = at_most s (hi -ℤ pos c) (pos 1) h.high.le } }

pub rounds-same : {f g : Frac} {p : ℤ} → Same f g → Rounds f p → Rounds g p
rounds-same {f} {g} {p} s h = record {
  above = a' (pos g.den) g.num (at_least s (pos 2 *ℤ p -ℤ pos 1) (pos 2) (a (pos f.den) f.num h.above));
  below = b' (pos g.den) g.num (at_most s (pos 2 *ℤ p +ℤ pos 1) (pos 2) (b (pos f.den) f.num h.below));
}
  where
    a : (d n : ℤ) → pos 2 *ℤ (d *ℤ p) ≤ᶻ pos 2 *ℤ n +ℤ d → d *ℤ (pos 2 *ℤ p -ℤ pos 1) ≤ᶻ pos 2 *ℤ n
    a d n = rw (is d, is n, is p) (simp Z (omega arith))

    a' : (d n : ℤ) → d *ℤ (pos 2 *ℤ p -ℤ pos 1) ≤ᶻ pos 2 *ℤ n → pos 2 *ℤ (d *ℤ p) ≤ᶻ pos 2 *ℤ n +ℤ d
    a' d n = rw (is d, is n, is p) (simp Z (omega arith))

    b : (d n : ℤ) → pos 2 *ℤ n ≤ᶻ pos 2 *ℤ (d *ℤ p) +ℤ d → pos 2 *ℤ n ≤ᶻ d *ℤ (pos 2 *ℤ p +ℤ pos 1)
    b d n = rw (is d, is n, is p) (simp Z (omega arith))

    b' : (d n : ℤ) → pos 2 *ℤ n ≤ᶻ d *ℤ (pos 2 *ℤ p +ℤ pos 1) → pos 2 *ℤ n ≤ᶻ pos 2 *ℤ (d *ℤ p) +ℤ d
    b' d n = rw (is d, is n, is p) (simp Z (omega arith))

-- ---- minus a fraction
abbrev pub neg_f : Frac → Frac
neg_f f = record { num = neg_ℤ f.num; den = f.den; above = f.above }

-- over any c: at `pos c` a difference would compute half way
flip_high : (d n hi c : ℤ) → pos 1 *ℤ n ≤ᶻ d *ℤ (hi -ℤ c) → d *ℤ (neg_ℤ hi +ℤ c) ≤ᶻ pos 1 *ℤ neg_ℤ n
flip_high d n hi c = rw (is d, is n, is hi, is c) (simp Z (omega arith))

flip_low : (d n lo c : ℤ) → d *ℤ (lo +ℤ c) ≤ᶻ pos 1 *ℤ n → pos 1 *ℤ neg_ℤ n ≤ᶻ d *ℤ (neg_ℤ lo -ℤ c)
flip_low d n lo c = rw (is d, is n, is lo, is c) (simp Z (omega arith))

unflip-high : (d n lo c : ℤ) → pos 1 *ℤ neg_ℤ n ≤ᶻ d *ℤ (neg_ℤ lo -ℤ c) → d *ℤ (lo +ℤ c) ≤ᶻ pos 1 *ℤ n
unflip-high d n lo c = rw (is d, is n, is lo, is c) (simp Z (omega arith))

unflip-low : (d n hi c : ℤ) → d *ℤ (neg_ℤ hi +ℤ c) ≤ᶻ pos 1 *ℤ neg_ℤ n → pos 1 *ℤ n ≤ᶻ d *ℤ (hi -ℤ c)
unflip-low d n hi c = rw (is d, is n, is hi, is c) (simp Z (omega arith))

pub inside-neg : {f : Frac} {lo hi : ℤ} {c : ℕ} → Inside lo hi c f → Inside (neg_ℤ hi) (neg_ℤ lo) c (neg_f f)
inside-neg {f} {lo} {hi} {c} h = record {
  low = record { le = flip_high (pos f.den) f.num hi (pos c) h.high.le };
  high = record { le = flip_low (pos f.den) f.num lo (pos c) h.low.le };
}

pub inside-unneg : {f : Frac} {lo hi : ℤ} {c : ℕ} → Inside (neg_ℤ hi) (neg_ℤ lo) c (neg_f f) → Inside lo hi c f
inside-unneg {f} {lo} {hi} {c} h = record {
  low = record { le = unflip-high (pos f.den) f.num lo (pos c) h.high.le };
  high = record { le = unflip-low (pos f.den) f.num hi (pos c) h.low.le };
}

pub rounds-neg : {f : Frac} {p : ℤ} → Rounds f p → Rounds (neg_f f) (neg_ℤ p)
rounds-neg {f} {p} h = record { above = a (pos f.den) f.num h.below; below = b (pos f.den) f.num h.above }
  where
    a : (d n : ℤ) → pos 2 *ℤ n ≤ᶻ pos 2 *ℤ (d *ℤ p) +ℤ d → pos 2 *ℤ (d *ℤ neg_ℤ p) ≤ᶻ pos 2 *ℤ neg_ℤ n +ℤ d
    a d n = rw (is d, is n, is p) (simp Z (omega arith))

    b : (d n : ℤ) → pos 2 *ℤ (d *ℤ p) ≤ᶻ pos 2 *ℤ n +ℤ d → pos 2 *ℤ neg_ℤ n ≤ᶻ pos 2 *ℤ (d *ℤ neg_ℤ p) +ℤ d
    b d n = rw (is d, is n, is p) (simp Z (omega arith))
