-- What the tests of reader, settings and carriage say: the part that is read is valid, and is written as it was read.
use Rattle.std.specs.Prelude.{◌≡◌, refl, Bool, true, false, cond, ◌&&◌, ℕ, zero, suc, ◌+◌, ◌*◌, ◌/◌, ◌≤◌, ◌<◌, ℤ, pos, negsuc, neg_ℤ, nat_abs, ◌+ℤ◌, ◌*ℤ◌}
use Rattle.std.proofs.Common.{sym, ap, ◌∙◌, le-div_iff_mul-le, arith}
use Rattle.exact.specs.Whole.{◌<?◌, ◌≤?◌, ◌≡?◌, ◌≤ᶻ◌, ◌<ᶻ◌, ord, ≤?-true, <?-true, ≡?-true, ≡?-false, le-≤?, lt-≤?, lt-<?, ne-≡?, up-mul, dn-mul, add_parts}
use Rattle.exact.specs.Fit.{Bd, abs, abs-mul}
use Rattle.rows.specs.declared.Row.{Row}
use Rattle.rows.specs.Rows.{row, flag_number, flag_of, small_of, most_byte, most_short, most_word}
use Rattle.mnemonics.specs.Table.{rows}
use Rattle.reader.specs.declared.Mode.{Mode}
use Rattle.reader.specs.declared.Mode.TheVariants.{Idle, First, Parameters, InNumber, PassOver, Label}
use Rattle.reader.specs.declared.Numbers.{Numbers}
use Rattle.numerals.specs.declared.number.Number.{Number}
use Rattle.reader.specs.Sizes.{SmallMode, SmallNumber, Small}
use Rattle.plane.specs.declared.position.Axis.{Axis}
use Rattle.plane.specs.declared.position.ExactPosition.{ExactPosition}
use Rattle.plane.specs.Bounds.{most_product, AxisBounds, Locatable}
use Rattle.plane.specs.Position.{in_range_of}
use Rattle.plane.proofs.PositionLaws.{in-range, in-range-of}
use Rattle.hpgl.specs.declared.Position.{Position}
use Rattle.hpgl.specs.declared.Polygon.{Polygon}
use Rattle.hpgl.specs.declared.Settings.{Settings}
use Rattle.hpgl.specs.declared.Memory.{Memory}
use Rattle.hpgl.specs.declared.Carriage.{Carriage}
use Rattle.hpgl.specs.Place.{axis_x, axis_y, location, in_range}
use Rattle.hpgl.specs.Valid.{ValidSettings, Placed, KeptPosition, ValidPolygon, Recalled, clear, given, ValidCore}
use Rattle.hpgl.proofs.RepliesKept.{recalled-least}
use Rattle.hpgl.specs.Replies.{remembered}
use Rattle.hpgl.proofs.ValidFacts.{and_both, axis-bounds-x, axis-bounds-y, placed-locatable, placed-kept, located-placed}
use Rattle.saved.specs.SavedReader.{mode_tag, mode_letter, mode_of, place_row, numbers_row, numbers_of, number_row, number_of}
use Rattle.saved.specs.Saved.{flag_in, small_in, limits_row, corners_row, scale_row, window_row, box_of, from_of, to_of, range_x, range_y, settings_of, position_row, pen_row, polygon_row, memory_row, position_of, pen_of, pm0_of, polygon_of, memory_of, carriage_of}
use Rattle.wellformed.specs.Sound.{between_of, four_low, four_high, five_of, last, place_sound, numbers_sound, number_sound, last_turn, limits_sound, corners_sound, scale_sound, box_sound, settings_sound, room_of, locatable_of, placed_of, position_low, position_high, position_sound, pen_sound, polygon_sound, kept_sound, positions_sound, memory_sound, parts_sound, carriage_sound}
use Rattle.wellformed.specs.RowTests.{both, Between, between-true, between-of, bd-of, bd-low, bd-high, Four, four-true, four-of, five-of, zero_same, flag_same, small_is, small_same, small-most, place_is, place_same, flag-bounds, flag-zero}

-- ---- the reader

tags : (n l : ℕ) → n ≤ 5 → l ≤ 255 → ((n ≡ 1 → ⊥) → l ≡ 0) → SmallMode (mode_of n l) × (mode_tag (mode_of n l) ≡ n) × (mode_letter (mode_of n l) ≡ l)
unfolding mode_of mode_tag mode_letter
tags zero l h s k = (tt, refl, sym (k (λ e. omega (arith, e))))
tags (suc zero) l h s k = (s, refl, refl)
tags (suc (suc zero)) l h s k = (tt, refl, sym (k (λ e. omega (arith, e))))
tags (suc (suc (suc zero))) l h s k = (tt, refl, sym (k (λ e. omega (arith, e))))
tags (suc (suc (suc (suc zero)))) l h s k = (tt, refl, sym (k (λ e. omega (arith, e))))
tags (suc (suc (suc (suc (suc zero))))) l h s k = (tt, refl, sym (k (λ e. omega (arith, e))))
tags (suc (suc (suc (suc (suc (suc n)))))) l h s k = absurd (omega (arith, h))

pub record PlaceLaw (r : Row) : Type 0 where
  pub tag : small_of most_byte r.a ≤ 5
  pub mode : SmallMode (mode_of (small_of most_byte r.a) (small_of most_byte r.b))
  pub op : small_of most_byte r.c < rows
  pub same : place_row (mode_of (small_of most_byte r.a) (small_of most_byte r.b)) (small_of most_byte r.c) ≡ r

place-by : (r : Row) (n l : ℕ) → n ≤ 5 → l ≤ 255 → Between (five_of 0 0 0 0 0) r (five_of n l last 0 0) → ((small_of most_byte r.a ≡ 1 → ⊥) → l ≡ 0) → PlaceLaw r
unfolding place_row
place-by r n l hn hl b k =
    let a = small_is r.a most_byte b.low.a b.high.a (omega (arith, hn)) in
    let p = small_is r.b most_byte b.low.b b.high.b (omega (arith, hl)) in
    let o = small_is r.c most_byte b.low.c b.high.c (omega arith) in
    let t = tags (small_of most_byte r.a) (small_of most_byte r.b) (omega (arith, hn, a.1, a.2)) (omega (arith, hl, p.1, p.2)) (λ e. omega (arith, k e, p.1, p.2)) in
    record {
      tag = omega (arith, hn, a.1, a.2);
      mode = t.0;
      op = omega (arith, o.1, o.2);
      same = λ i. row ((ap pos t.1 ∙ a.0) i) ((ap pos t.2 ∙ p.0) i) (place_same r.c b.low.c b.high.c (omega arith) i) (zero_same b.low.d b.high.d i) (zero_same b.low.e b.high.e i);
    }

pub place-law : (r : Row) → place_sound r ≡ true → PlaceLaw r
unfolding place_sound
place-law r = go (r.a ≡? pos 1) refl
  where
    go : (t : Bool) → (r.a ≡? pos 1) ≡ t → cond t (between_of (five_of 1 0 0 0 0) r (five_of 1 255 last 0 0)) (between_of (five_of 0 0 0 0 0) r (five_of 5 0 last 0 0)) ≡ true → PlaceLaw r
    go true e h =
        let b = between-true (five_of 1 0 0 0 0) r (five_of 1 255 last 0 0) h in
        let z : pos 0 ≤ᶻ r.a = omega (arith, ord, b.low.a) in
        let c : Between (five_of 0 0 0 0 0) r (five_of 1 255 last 0 0) = record { low = record { a = z; b = b.low.b; c = b.low.c; d = b.low.d; e = b.low.e }; high = b.high } in
        place-by r 1 255 (omega arith) (omega arith) c (λ f. absurd (f (one e)))
      where
        one : (r.a ≡? pos 1) ≡ true → small_of most_byte r.a ≡ 1
        one e = let q = ≡?-true r.a (pos 1) e in let s = small_is r.a {n = 1} most_byte (omega (arith, ord, q)) (omega (arith, ord, q)) (omega arith) in s.1 ∙ ap nat_abs q
    go false e h = place-by r 5 0 (omega arith) (omega arith) (between-true (five_of 0 0 0 0 0) r (five_of 5 0 last 0 0) h) (λ f. refl)

pub place_of : (m : Mode) (op : ℕ) → SmallMode m → op < rows → place_sound (place_row m op) ≡ true
unfolding place_sound place_row mode_tag mode_letter ◌≡?◌
place_of Idle op s h = rw (place_is op (omega arith)) (five-of (omega arith) (omega arith) (omega arith) (omega arith) (omega arith))
place_of (First a) op s h = rw (place_is op (omega arith)) (five-of (omega arith) (omega (arith, s)) (omega arith) (omega arith) (omega arith))
place_of Parameters op s h = rw (place_is op (omega arith)) (five-of (omega arith) (omega arith) (omega arith) (omega arith) (omega arith))
place_of InNumber op s h = rw (place_is op (omega arith)) (five-of (omega arith) (omega arith) (omega arith) (omega arith) (omega arith))
place_of PassOver op s h = rw (place_is op (omega arith)) (five-of (omega arith) (omega arith) (omega arith) (omega arith) (omega arith))
place_of Label op s h = rw (place_is op (omega arith)) (five-of (omega arith) (omega arith) (omega arith) (omega arith) (omega arith))

pub numbers-law : (r : Row) → numbers_sound r ≡ true → Small (numbers_of r) × (numbers_row (numbers_of r) ≡ r)
unfolding numbers_sound numbers_of numbers_row
numbers-law r t =
    let b = between-true _ r _ t in (
      record {
        count = small-most r.a most_byte b.low.a b.high.a (omega arith);
        first = bd-of b.low.b b.high.b;
        second = bd-of b.low.c b.high.c;
        third = bd-of b.low.d b.high.d;
        fourth = bd-of b.low.e b.high.e;
      },
      (λ i. row (small_same r.a most_byte b.low.a b.high.a (omega arith) i) r.b r.c r.d r.e),
    )

pub numbers_sound-of : (n : Numbers) → Small n → numbers_sound (numbers_row n) ≡ true
unfolding numbers_sound numbers_row
numbers_sound-of n h =
    between-of _ (numbers_row n) _
    (record {
      low = record { a = omega (arith, ord); b = bd-low h.first; c = bd-low h.second; d = bd-low h.third; e = bd-low h.fourth };
      high = record { a = omega (arith, ord, h.count); b = bd-high h.first; c = bd-high h.second; d = bd-high h.third; e = bd-high h.fourth };
    })

pub number-law : (r : Row) → number_sound r ≡ true → SmallNumber (number_of r) × (number_row (number_of r) ≡ r)
unfolding number_sound number_of number_row
number-law r t =
    let b = between-true _ r _ t in (
      record { decimals = small-most r.d most_byte b.low.d b.high.d (omega arith); magnitude = small-most r.e most_word b.low.e b.high.e (omega arith) },
      (λ i. row (flag_same r.a b.low.a b.high.a i) (flag_same r.b b.low.b b.high.b i) (flag_same r.c b.low.c b.high.c i)
          (small_same r.d most_byte b.low.d b.high.d (omega arith) i) (small_same r.e most_word b.low.e b.high.e (omega arith) i)),
    )

pub number-of : (n : Number) → SmallNumber n → number_sound (number_row n) ≡ true
unfolding number_sound number_row
number-of n h =
    let p = flag-bounds n.negative in
    let q = flag-bounds n.filled in
    let r = flag-bounds n.pointed in
    between-of _ (number_row n) _
    (record {
      low = record { a = p.0; b = q.0; c = r.0; d = omega (arith, ord); e = omega (arith, ord) };
      high = record { a = p.1; b = q.1; c = r.1; d = omega (arith, ord, h.decimals); e = omega (arith, ord, h.magnitude) };
    })

-- ---- the settings

pub box-law : (r : Row) → box_sound r ≡ true → Four 1000000 0 1 r
unfolding box_sound
box-law r t = four-true 1000000 0 1 r t

pub box_sound-of : (r : Row) → Four 1000000 0 1 r → box_sound r ≡ true
unfolding box_sound
box_sound-of r f = four-of 1000000 0 1 r f

record LimitsLaw (r : Row) : Type 0 where
  four : Four 32768 0 last_turn r
  across : r.a <ᶻ r.c
  upward : r.b <ᶻ r.d

limits-law : (r : Row) → limits_sound r ≡ true → LimitsLaw r
unfolding limits_sound
limits-law r t =
    let b = and_both (between_of (four_low 32768 0) r (four_high 32768 last_turn)) ((r.a <? r.c) && (r.b <? r.d)) t in
    let o = and_both (r.a <? r.c) (r.b <? r.d) b.1 in
    record { four = four-true 32768 0 last_turn r b.0; across = <?-true r.a r.c o.0; upward = <?-true r.b r.d o.1 }

-- two tests that two pairs differ
differ : (s t : Bool) → cond s false (cond t false true) ≡ true → (s ≡ false) × (t ≡ false)
differ true t e = absurd (let z : ◌≡◌ {A = ℕ} 0 1 = ap (λ (x : Bool). cond x 1 0) e in omega (arith, z))
differ false true e = absurd (let z : ◌≡◌ {A = ℕ} 0 1 = ap (λ (x : Bool). cond x 1 0) e in omega (arith, z))
differ false false e = (refl, refl)

differ_of : {s t : Bool} → s ≡ false → t ≡ false → cond s false (cond t false true) ≡ true
differ_of e f = rw (e, f) refl

record CornersLaw (r : Row) : Type 0 where
  four : Four 32768 0 0 r
  x : r.a ≡ r.c → ⊥
  y : r.b ≡ r.d → ⊥

corners-law : (r : Row) → corners_sound r ≡ true → CornersLaw r
unfolding corners_sound
corners-law r t =
    let b = and_both (between_of (four_low 32768 0) r (four_high 32768 0)) (cond (r.a ≡? r.c) false (cond (r.b ≡? r.d) false true)) t in
    let o = differ (r.a ≡? r.c) (r.b ≡? r.d) b.1 in
    record { four = four-true 32768 0 0 r b.0; x = ≡?-false r.a r.c o.0; y = ≡?-false r.b r.d o.1 }

record ScaleLaw (r : Row) : Type 0 where
  four : Four 327680000 0 1 r
  x : flag_of r.e ≡ true → r.a ≡ r.b → ⊥
  y : flag_of r.e ≡ true → r.c ≡ r.d → ⊥

pub not-both : {P : Type 0} {t : Bool} → t ≡ true → t ≡ false → P
not-both {t = t} e f = absurd (let z : ◌≡◌ {A = ℕ} 0 1 = ap (λ (x : Bool). cond x 1 0) (sym f ∙ e) in omega (arith, z))

scale-law : (r : Row) → scale_sound r ≡ true → ScaleLaw r
unfolding scale_sound
scale-law r t = go (r.e ≡? pos 0) refl b.1
  where
    rest : Bool
    rest = cond (r.a ≡? r.b) false (cond (r.c ≡? r.d) false true)

    b : (between_of (four_low 327680000 0) r (four_high 327680000 1) ≡ true) × (cond (r.e ≡? pos 0) true rest ≡ true)
    b = and_both (between_of (four_low 327680000 0) r (four_high 327680000 1)) (cond (r.e ≡? pos 0) true rest) t

    go : (s : Bool) → (r.e ≡? pos 0) ≡ s → cond s true rest ≡ true → ScaleLaw r
    go true e h = let off = flag-zero (≡?-true r.e (pos 0) e) in record { four = four-true 327680000 0 1 r b.0; x = λ on. not-both on off; y = λ on. not-both on off }
    go false e h =
        let o = differ (r.a ≡? r.b) (r.c ≡? r.d) h in
        record { four = four-true 327680000 0 1 r b.0; x = λ on. ≡?-false r.a r.b o.0; y = λ on. ≡?-false r.c r.d o.1 }

pub record SettingsLaw (l c s w : Row) : Type 0 where
  pub valid : ValidSettings (settings_of l c s w)
  pub limits : limits_row (box_of l) (small_in l) ≡ l
  pub corners : corners_row (from_of c) (to_of c) ≡ c
  pub scale : scale_row (settings_of l c s w).scale ≡ s
  pub window : window_row (settings_of l c s w).window ≡ w

pub settings-law : (l c s w : Row) → settings_sound l c s w ≡ true → SettingsLaw l c s w
unfolding settings_sound settings_of box_of from_of to_of range_x range_y flag_in small_in limits_row corners_row scale_row window_row
settings-law l c s w t =
    let t1 = and_both (limits_sound l) (corners_sound c && (scale_sound s && box_sound w)) t in
    let t2 = and_both (corners_sound c) (scale_sound s && box_sound w) t1.1 in
    let t3 = and_both (scale_sound s) (box_sound w) t2.1 in
    let p = limits-law l t1.0 in
    let q = corners-law c t2.0 in
    let k = scale-law s t3.0 in
    let b = box-law w t3.1 in
    record {
      valid = record {
        hard = record { left = p.four.a; bottom = p.four.b; right = p.four.c; top = p.four.d };
        hard-x = p.across;
        hard-y = p.upward;
        p1 = record { x = q.four.a; y = q.four.b };
        p2 = record { x = q.four.c; y = q.four.d };
        apart-x = q.x;
        apart-y = q.y;
        x = record { min = k.four.a; max = k.four.b; differ = k.x };
        y = record { min = k.four.c; max = k.four.d; differ = k.y };
        turn = let m = small-most l.e most_byte p.four.low p.four.high (omega arith) in omega (arith, m);
        window = record { left = b.a; bottom = b.b; right = b.c; top = b.d };
      };
      limits = λ i. row l.a l.b l.c l.d (place_same l.e p.four.low p.four.high (omega arith) i);
      corners = λ i. row c.a c.b c.c c.d (zero_same q.four.low q.four.high i);
      scale = λ i. row s.a s.b s.c s.d (flag_same s.e k.four.low k.four.high i);
      window = λ i. row w.a w.b w.c w.d (flag_same w.e b.low b.high i);
    }

pub settings-of : (s : Settings) → ValidSettings s → settings_sound (limits_row s.hard s.turn) (corners_row s.p1 s.p2) (scale_row s.scale) (window_row s.window) ≡ true
unfolding settings_sound limits_sound corners_sound scale_sound limits_row corners_row scale_row window_row flag_number ◌≡?◌
settings-of s v =
    both (both (four-of 32768 0 last_turn _ hard) (both (lt-<? v.hard-x) (lt-<? v.hard-y)))
    (both (both (four-of 32768 0 0 _ points) (differ_of (ne-≡? v.apart-x) (ne-≡? v.apart-y)))
    (both (both (four-of 327680000 0 1 _ ranges) (on s.scale.on v.x.differ v.y.differ))
    (box_sound-of _ window)))
  where
    hard : Four 32768 0 last_turn (limits_row s.hard s.turn)
    hard =
        let e = place_is s.turn (omega (arith, v.turn)) in
        record { a = v.hard.left; b = v.hard.bottom; c = v.hard.right; d = v.hard.top; low = rw e (omega (arith, ord)); high = rw e (omega (arith, ord, v.turn)) }

    points : Four 32768 0 0 (corners_row s.p1 s.p2)
    points = record { a = v.p1.x; b = v.p1.y; c = v.p2.x; d = v.p2.y; low = omega (arith, ord); high = omega (arith, ord) }

    ranges : Four 327680000 0 1 (scale_row s.scale)
    ranges = let f = flag-bounds s.scale.on in record { a = v.x.min; b = v.x.max; c = v.y.min; d = v.y.max; low = f.0; high = f.1 }

    window : Four 1000000 0 1 (window_row s.window)
    window = let f = flag-bounds s.window.set in record { a = v.window.left; b = v.window.bottom; c = v.window.right; d = v.window.top; low = f.0; high = f.1 }

    on : (t : Bool) {a b c d : ℤ} → (t ≡ true → a ≡ b → ⊥) → (t ≡ true → c ≡ d → ⊥) → cond (flag_number t ≡? pos 0) true (cond (a ≡? b) false (cond (c ≡? d) false true)) ≡ true
    on true f g = differ_of (ne-≡? (f refl)) (ne-≡? (g refl))
    on false f g = refl

-- ---- positions

some-abs : (z : ℤ) → (z ≡ pos 0 → ⊥) → 0 < nat_abs z
some-abs (pos zero) h = absurd (h refl)
some-abs (pos (suc n)) h = omega arith
some-abs (negsuc n) h = omega arith

pub locatable-true : {a : Axis} {p : ExactPosition} → AxisBounds a → locatable_of a p ≡ true → Locatable a p
unfolding locatable_of room_of
locatable-true {a} {p} s t =
    let q : ℕ = most_product / nat_abs a.span in
    let t1 = and_both (in_range_of p.base) ((neg_ℤ (pos q) ≤? p.offset) && (p.offset ≤? pos q)) t in
    let t2 = and_both (neg_ℤ (pos q) ≤? p.offset) (p.offset ≤? pos q) t1.1 in
    let b : Bd p.offset q = bd-of (≤?-true (neg_ℤ (pos q)) p.offset t2.0) (≤?-true p.offset (pos q) t2.1) in
    let m = (le-div_iff_mul-le {k = nat_abs a.span} {x = nat_abs p.offset} {y = most_product} (some-abs a.span s.moves)).0 b.bd in
    record { base = in-range p.base t1.0; product = record { bd = omega (arith, abs-mul p.offset a.span, m) }; width = s.width; some = s.some }

pub locatable-of : {a : Axis} {p : ExactPosition} → AxisBounds a → Locatable a p → locatable_of a p ≡ true
unfolding locatable_of room_of
locatable-of {a} {p} s h =
    let q : ℕ = most_product / nat_abs a.span in
    let m : nat_abs p.offset * nat_abs a.span ≤ most_product = omega (arith, abs-mul p.offset a.span, h.product.bd) in
    let b : Bd p.offset q = record { bd = (le-div_iff_mul-le {k = nat_abs a.span} {x = nat_abs p.offset} {y = most_product} (some-abs a.span s.moves)).1 m } in
    both (in-range-of p.base h.base) (both (le-≤? (bd-low b)) (le-≤? (bd-high b)))

pub placed-true : {s : Settings} {p : Position} → ValidSettings s → placed_of s p ≡ true → Placed s p
unfolding placed_of
placed-true {s} {p} v t =
    let t1 = and_both (locatable_of (axis_x s) p.x) (locatable_of (axis_y s) p.y && in_range (location s p)) t in
    let t2 = and_both (locatable_of (axis_y s) p.y) (in_range (location s p)) t1.1 in
    located-placed (record { x = locatable-true (axis-bounds-x v) t1.0; y = locatable-true (axis-bounds-y v) t2.0 }) t2.1

pub placed-of : {s : Settings} {p : Position} → ValidSettings s → Placed s p → placed_of s p ≡ true
unfolding placed_of in_range
placed-of {s} {p} v h =
    let l = placed-locatable v h in
    both (locatable-of (axis-bounds-x v) l.x) (both (locatable-of (axis-bounds-y v) l.y) (both (in-range-of (location s p).x h.near.x) (in-range-of (location s p).y h.near.y)))

-- ---- the carriage

-- the two tests "or the mode is off"
pub unless : {t u : Bool} → cond t true u ≡ true → t ≡ false → u ≡ true
unless {t} {u} e f = sym (ap (λ (x : Bool). cond x true u) f) ∙ e

pub unless-of : {t u : Bool} → (t ≡ false → u ≡ true) → cond t true u ≡ true
unless-of {t = true} f = refl
unless-of {t = false} f = f refl

-- a mode that is on is no zero
pub mode-on : (z : ℤ) → flag_of z ≡ true → (z ≡? pos 0) ≡ false
mode-on z on = ne-≡? (λ e. not-both on (flag-zero e))

pub mode-off : (t : Bool) → (flag_number t ≡? pos 0) ≡ false → t ≡ true
unfolding flag_number ◌≡?◌
mode-off true e = refl
mode-off false e = not-both refl e

pub record CarriageLaw (s : Settings) (place pen polygon first saved memory : Row) : Type 0 where
  pub valid : ValidCore (record { settings = s; carriage = carriage_of place pen polygon first saved memory })
  pub pen-low : pos 0 ≤ᶻ pen.a
  pub pen-high : pen.a ≤ᶻ pos 8
  pub position : position_row (position_of place) (flag_in place) ≡ place
  pub its-pen : pen_row (pen_of pen) ≡ pen
  pub its-polygon : polygon_row (polygon_of polygon first saved) ≡ polygon
  pub its-first : position_row (position_of first) (flag_in first) ≡ first
  pub its-saved : position_row (position_of saved) (flag_in saved) ≡ saved
  pub its-memory : memory_row (memory_of memory) ≡ memory

position-same : (r : Row) → position_sound r ≡ true → position_row (position_of r) (flag_in r) ≡ r
unfolding position_sound position_row position_of flag_in
position-same r t = let b = between-true position_low r position_high t in λ i. row r.a r.b r.c r.d (flag_same r.e b.low.e b.high.e i)

position-kept : (r : Row) → position_sound r ≡ true → KeptPosition (position_of r)
unfolding position_sound position_of
position-kept r t =
    let b = between-true position_low r position_high t in
    record { x-base = bd-of b.low.a b.high.a; x-offset = bd-of b.low.b b.high.b; y-base = bd-of b.low.c b.high.c; y-offset = bd-of b.low.d b.high.d }

record PolygonLaw (r : Row) : Type 0 where
  between : Between (five_of 0 0 0 0 0) r (five_of 1 1024 112 1 0)
  room : flag_of r.a ≡ true → 11 + 9 * small_of most_byte r.c ≤ small_of most_short r.b

polygon-law : (r : Row) → polygon_sound r ≡ true → PolygonLaw r
unfolding polygon_sound
polygon-law r t =
    let u = and_both (between_of (five_of 0 0 0 0 0) r (five_of 1 1024 112 1 0)) (cond (r.a ≡? pos 0) true (pos 11 +ℤ pos 9 *ℤ r.c ≤? r.b)) t in
    let b = between-true (five_of 0 0 0 0 0) r (five_of 1 1024 112 1 0) u.0 in
    record {
      between = b;
      room = λ on.
          let l = ≤?-true (pos 11 +ℤ pos 9 *ℤ r.c) r.b (unless u.1 (mode-on r.a on)) in
          let p = small_is r.b most_short b.low.b b.high.b (omega arith) in
          let q = small_is r.c most_byte b.low.c b.high.c (omega arith) in
          omega (arith, ord, l, add_parts (pos 11) (pos 9 *ℤ r.c), up-mul (pos 9) r.c, dn-mul (pos 9) r.c, abs r.b, abs r.c, b.low.b, b.low.c, p.1, q.1);
    }

-- the numbers up to 7 without 4 and 5
recalled-of : (k : ℕ) → k ≤ 7 → ((3 < k) → 6 ≤ k) → Recalled k
unfolding remembered
recalled-of zero h f = clear
recalled-of (suc zero) h f = given refl
recalled-of (suc (suc zero)) h f = given refl
recalled-of (suc (suc (suc zero))) h f = given refl
recalled-of (suc (suc (suc (suc zero)))) h f = absurd (omega (arith, f (omega arith)))
recalled-of (suc (suc (suc (suc (suc zero))))) h f = absurd (omega (arith, f (omega arith)))
recalled-of (suc (suc (suc (suc (suc (suc zero)))))) h f = given refl
recalled-of (suc (suc (suc (suc (suc (suc (suc zero))))))) h f = given refl
recalled-of (suc (suc (suc (suc (suc (suc (suc (suc k)))))))) h f = absurd (omega (arith, h))

memory-law : (r : Row) → memory_sound r ≡ true → Recalled (memory_of r).refusal × (memory_row (memory_of r) ≡ r)
unfolding memory_sound memory_of memory_row
memory-law r t =
    let u = and_both (between_of (five_of 0 0 0 0 0) r (five_of 7 0 0 0 0)) _ t in
    let b = between-true (five_of 0 0 0 0 0) r (five_of 7 0 0 0 0) u.0 in
    let n = small_is r.a most_byte b.low.a b.high.a (omega arith) in (
      recalled-of (small_of most_byte r.a) (omega (arith, n.1, n.2)) (λ f.
          let far : pos 3 <ᶻ r.a = omega (arith, ord, n.1, f, abs r.a, b.low.a) in
          let l = ≤?-true _ r.a (unless u.1 (lt-≤? far)) in
          omega (arith, ord, l, n.1, abs r.a)),
      (λ i. row (n.0 i) (zero_same b.low.b b.high.b i) (zero_same b.low.c b.high.c i) (zero_same b.low.d b.high.d i) (zero_same b.low.e b.high.e i)),
    )

pub carriage-law : {s : Settings} (place pen polygon first saved memory : Row) → ValidSettings s → carriage_sound s place pen polygon first saved memory ≡ true →
    CarriageLaw s place pen polygon first saved memory
unfolding carriage_sound parts_sound positions_sound kept_sound pen_sound carriage_of pen_of pen_row polygon_of polygon_row pm0_of
carriage-law {s} place pen polygon first saved memory v t =
    let kept = cond (polygon.a ≡? pos 0) true (placed_of s (position_of first) && placed_of s (position_of saved)) in
    let here = placed_of s (position_of place) in
    let t0 = and_both (position_sound place && (position_sound first && position_sound saved) && (pen_sound pen && (polygon_sound polygon && memory_sound memory))) (here && kept) t in
    let f0 = and_both (position_sound place && (position_sound first && position_sound saved)) (pen_sound pen && (polygon_sound polygon && memory_sound memory)) t0.0 in
    let t1 = and_both (position_sound place) (position_sound first && position_sound saved) f0.0 in
    let t2 = and_both (position_sound first) (position_sound saved) t1.1 in
    let t4 = and_both (pen_sound pen) (polygon_sound polygon && memory_sound memory) f0.1 in
    let t5 = and_both (polygon_sound polygon) (memory_sound memory) t4.1 in
    let t6 = and_both here kept t0.1 in
    let p = between-true (five_of 0 0 0 0 0) pen (five_of 8 1 1 0 0) t4.0 in
    let g = polygon-law polygon t5.0 in
    let m = memory-law memory t5.1 in
    let b = g.between in
    let two : flag_of polygon.a ≡ true → (placed_of s (position_of first) ≡ true) × (placed_of s (position_of saved) ≡ true) = λ on. and_both (placed_of s (position_of first)) (placed_of s (position_of saved)) (unless t6.1 (mode-on polygon.a on)) in
    record {
      valid = record {
        settings = v;
        position = placed-true v t6.0;
        pen = small-most pen.a most_byte p.low.a p.high.a (omega arith);
        polygon = record {
          bytes = small-most polygon.b most_short b.low.b b.high.b (omega arith);
          edges = small-most polygon.c most_byte b.low.c b.high.c (omega arith);
          room = λ on. let h = g.room on in omega (arith, h);
          first = λ on. placed-true v (two on).0;
          saved = λ on. placed-true v (two on).1;
          first-kept = position-kept first t2.0;
          saved-kept = position-kept saved t2.1;
        };
        memory = m.0;
      };
      pen-low = p.low.a;
      pen-high = p.high.a;
      position = position-same place t1.0;
      its-pen = λ i. row (small_same pen.a most_byte p.low.a p.high.a (omega arith) i) (flag_same pen.b p.low.b p.high.b i) (flag_same pen.c p.low.c p.high.c i) (zero_same p.low.d p.high.d i) (zero_same p.low.e p.high.e i);
      its-polygon = λ i. row (flag_same polygon.a b.low.a b.high.a i) (small_same polygon.b most_short b.low.b b.high.b (omega arith) i) (small_same polygon.c most_byte b.low.c b.high.c (omega arith) i) (flag_same polygon.d b.low.d b.high.d i) (zero_same b.low.e b.high.e i);
      its-first = position-same first t2.0;
      its-saved = position-same saved t2.1;
      its-memory = m.1;
    }

back : (p : Position) (t : Bool) → position_of (position_row p t) ≡ p
unfolding position_of position_row
back p t = refl

kept-sound : {p : Position} (t : Bool) → KeptPosition p → position_sound (position_row p t) ≡ true
unfolding position_sound position_row
kept-sound {p} t h =
    between-of position_low (position_row p t) position_high
    (record {
      low = record { a = bd-low h.x-base; b = bd-low h.x-offset; c = bd-low h.y-base; d = bd-low h.y-offset; e = (flag-bounds t).0 };
      high = record { a = bd-high h.x-base; b = bd-high h.x-offset; c = bd-high h.y-base; d = bd-high h.y-offset; e = (flag-bounds t).1 };
    })

six : (k : ℕ) → pos 6 ≤ᶻ pos (suc (suc (suc (suc (suc (suc k))))))
six k = omega (arith, ord)

recalled-sound : (k : ℕ) → Recalled k → cond (pos k ≤? pos 3) true (pos 6 ≤? pos k) ≡ true
unfolding remembered ◌≤?◌
recalled-sound zero h = refl
recalled-sound (suc zero) h = refl
recalled-sound (suc (suc zero)) h = refl
recalled-sound (suc (suc (suc zero))) h = refl
recalled-sound (suc (suc (suc (suc zero)))) (given e) = not-both e refl
recalled-sound (suc (suc (suc (suc (suc zero))))) (given e) = not-both e refl
recalled-sound (suc (suc (suc (suc (suc (suc k)))))) h = unless-of {t = pos (suc (suc (suc (suc (suc (suc k)))))) ≤? pos 3} (λ off. le-≤? (six k))

memory-of : (n : Memory) → Recalled n.refusal → memory_sound (memory_row n) ≡ true
unfolding memory_sound memory_row
memory-of n h = both (five-of (omega (arith, recalled-least h)) (omega arith) (omega arith) (omega arith) (omega arith)) (recalled-sound n.refusal h)

pub carriage-of : (s : Settings) (k : Carriage) → ValidCore (record { settings = s; carriage = k }) →
    carriage_sound s (position_row k.position k.relative) (pen_row k.pen) (polygon_row k.polygon) (position_row k.polygon.first k.polygon.empty) (position_row k.polygon.saved.position k.polygon.saved.relative) (memory_row k.memory) ≡ true
unfolding carriage_sound parts_sound positions_sound kept_sound pen_sound polygon_sound pen_row polygon_row
carriage-of s k v =
    both
    (both (both (kept-sound k.relative (placed-kept v.settings v.position)) (both (kept-sound k.polygon.empty v.polygon.first-kept) (kept-sound k.polygon.saved.relative v.polygon.saved-kept)))
    (both
    (between-of _ (pen_row k.pen) _
    (record {
      low = record { a = omega (arith, ord); b = (flag-bounds k.pen.down).0; c = (flag-bounds k.pen.changed).0; d = omega (arith, ord); e = omega (arith, ord) };
      high = record { a = omega (arith, ord, v.pen); b = (flag-bounds k.pen.down).1; c = (flag-bounds k.pen.changed).1; d = omega (arith, ord); e = omega (arith, ord) };
    }))
    (both
    (both
    (between-of _ (polygon_row g) _
    (record {
      low = record { a = (flag-bounds g.mode).0; b = omega (arith, ord); c = omega (arith, ord); d = (flag-bounds g.saved.down).0; e = omega (arith, ord) };
      high = record { a = (flag-bounds g.mode).1; b = omega (arith, ord, w.bytes); c = omega (arith, ord, w.edges); d = (flag-bounds g.saved.down).1; e = omega (arith, ord) };
    }))
    (unless-of (λ off. le-≤? (room (w.room (mode-off g.mode off))))))
    (memory-of k.memory v.memory))))
    (both (here k.position k.relative v.position) (unless-of (λ off. both (here g.first g.empty (w.first (mode-off g.mode off))) (here g.saved.position g.saved.relative (w.saved (mode-off g.mode off))))))
  where
    g : Polygon
    g = k.polygon

    w : ValidPolygon s g
    w = v.polygon

    room : 2 + 9 + 9 * g.edges ≤ g.bytes → pos 11 +ℤ pos 9 *ℤ pos g.edges ≤ᶻ pos g.bytes
    room h = omega (arith, ord, add_parts (pos 11) (pos 9 *ℤ pos g.edges), up-mul (pos 9) (pos g.edges), dn-mul (pos 9) (pos g.edges), h)

    here : (p : Position) (t : Bool) → Placed s p → placed_of s (position_of (position_row p t)) ≡ true
    here p t h = ap (placed_of s) (back p t) ∙ placed-of v.settings h
