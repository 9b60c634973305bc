-- The laws of the limits: a point is in them exactly when it is in the hard limits and, unturned, in the window. Argued for one axis, which has two edges.
use Rattle.std.specs.Prelude.{◌≡◌, refl, ◌↔◌, Bool, true, false, ℕ, ◌<◌, ℤ, pos, ◌+ℤ◌, ◌-ℤ◌, ◌*ℤ◌}
use Rattle.std.proofs.Common.{arith}
use Rattle.exact.specs.Whole.{◌≤ᶻ◌, is, Z, ord}
use Rattle.exact.specs.Laws.{mul-≤}
use Rattle.clip.specs.Reach.{SmallRect}
use Rattle.clip.specs.Line.{Frac, Exact, Inside, Within, whole, ◌≤F◌}
use Rattle.clip.specs.declared.Rect.{Rect}
use Rattle.turns.specs.Turn.{turn_count, lesser_of, greater_of, turned_box_of, turned_exact}
use Rattle.turns.proofs.BoxLaws.{Ordered, lesser-by, greater-by, lesser-≤, greater-≥, lesser-size, greater-size, box-small, turned-within}
use Rattle.turns.specs.Limits.{intersection_of, limits_of}

-- ---- one axis
nonneg : (k : ℕ) → pos 0 ≤ᶻ pos k
nonneg k = omega (arith, ord)

wider : {lo lo' hi hi' : ℤ} {c : ℕ} {f : Frac} → lo ≤ᶻ lo' → hi' ≤ᶻ hi → Inside lo' hi' c f → Inside lo hi c f
wider {lo} {lo'} {hi} {hi'} {c} {f} l u h = record {
  low = record { le = low (pos f.den) f.num (pos c) (mul-≤ (nonneg f.den) l) h.low.le };
  high = record { le = high (pos f.den) f.num (pos c) (mul-≤ (nonneg f.den) u) h.high.le };
}
  where
    low : (d n c : ℤ) → d *ℤ lo ≤ᶻ d *ℤ lo' → d *ℤ (lo' +ℤ c) ≤ᶻ pos 1 *ℤ n → d *ℤ (lo +ℤ c) ≤ᶻ pos 1 *ℤ n
    low d n c = rw (is d, is n, is c, is lo, is lo') (simp Z (omega arith))

    high : (d n c : ℤ) → d *ℤ hi' ≤ᶻ d *ℤ hi → pos 1 *ℤ n ≤ᶻ d *ℤ (hi' -ℤ c) → pos 1 *ℤ n ≤ᶻ d *ℤ (hi -ℤ c)
    high d n c = rw (is d, is n, is c, is hi, is hi') (simp Z (omega arith))

inside_both : (lo lo' hi hi' : ℤ) (c : ℕ) (f : Frac) → Inside (greater_of lo lo') (lesser_of hi hi') c f ↔ (Inside lo hi c f × Inside lo' hi' c f)
inside_both lo lo' hi hi' c f =
    let l = greater-≥ lo lo' in
    let u = lesser-≤ hi hi' in (
      (λ h. (wider l.0 u.0 h, wider l.1 u.1 h)),
      (λ h. record {
        low = greater-by (λ (z : ℤ). whole (z +ℤ pos c) ≤F f) lo lo' (λ k. h.0.low) (λ k. h.1.low);
        high = lesser-by (λ (z : ℤ). f ≤F whole (z -ℤ pos c)) hi hi' (λ k. h.0.high) (λ k. h.1.high);
      }),
    )

-- ---- both axes: "of the hard limits and of the turned window"
pub intersection-within : (a b : Rect) (c : ℕ) (e : Exact) → Within (intersection_of a b) c e ↔ (Within a c e × Within b c e)
unfolding intersection_of
intersection-within a b c e =
    let x = inside_both a.left b.left a.right b.right c e.x in
    let y = inside_both a.bottom b.bottom a.top b.top c e.y in (
      (λ w. (record { x = (x.0 w.x).0; y = (y.0 w.y).0 }, record { x = (x.0 w.x).1; y = (y.0 w.y).1 })),
      (λ w. record { x = x.1 (w.0.x, w.1.x); y = y.1 (w.0.y, w.1.y) }),
    )

-- a page point is in the limits when it is in the hard limits "and of the turned window, if set"
pub limits-page : (hard : Rect) (windowed : Bool) (window : Rect) (t c : ℕ) (e : Exact) →
    Within (limits_of hard windowed window t) c e ↔ (Within hard c e × (windowed ≡ true → Within (turned_box_of window t) c e))
unfolding limits_of
limits-page hard true window t c e =
    let m = intersection-within hard (turned_box_of window t) c e in (
      (λ h. ((m.0 h).0, (λ k. (m.0 h).1))),
      (λ h. m.1 (h.0, h.1 refl)),
    )
limits-page hard false window t c e = ((λ h. (h, (λ k. absurd (no k)))), (λ h. h.0))
  where
    no : false ≡ true → ⊥
    no e = let z : ◌≡◌ {A = ℕ} 0 1 = cc in omega arith

-- with the window set: in the hard limits, turned, and in the window, unturned
pub limits-within : (hard window : Rect) (t c : ℕ) (e : Exact) → t < turn_count → Ordered window →
    Within (limits_of hard true window t) c (turned_exact e t) ↔ (Within hard c (turned_exact e t) × Within window c e)
unfolding limits_of
limits-within hard window t c e l o =
    let m = intersection-within hard (turned_box_of window t) c (turned_exact e t) in
    let w = turned-within window c e t l o in (
      (λ h. let k = m.0 h in (k.0, w.1 k.1)),
      (λ h. m.1 (h.0, w.0 h.1)),
    )

-- ---- the limits keep their bounds
pub intersection-small : {a b : Rect} → SmallRect a → SmallRect b → SmallRect (intersection_of a b)
unfolding intersection_of
intersection-small h k = record {
  left = greater-size h.left k.left;
  bottom = greater-size h.bottom k.bottom;
  right = lesser-size h.right k.right;
  top = lesser-size h.top k.top;
}

pub limits-small : {hard window : Rect} {t : ℕ} (windowed : Bool) → SmallRect hard → SmallRect window → t < turn_count → SmallRect (limits_of hard windowed window t)
unfolding limits_of
limits-small true h k l = intersection-small h (box-small k l)
limits-small false h k l = h
