-- A list that passes is light: its numbers are so small that its sum fits (crate seal). Why: each row stands between two rows of literals.
use Rattle.std.specs.Prelude.{◌≡◌, refl, Bool, true, false, cond, not, ◌&&◌, List, ℕ, zero, suc, ◌+◌, ◌*◌, ◌-◌, ◌<◌, T, ltb, leb, ℤ, pos, nat_abs, ◌+ℤ◌, length}
use Rattle.std.proofs.Common.{sym, subst, arith, ltb-true, ltb-false, leb→le}
use Rattle.exact.specs.Whole.{◌≤?◌, ◌≡?◌, ◌≤ᶻ◌, ord}
use Rattle.exact.specs.Fit.{Bd, abs}
use Rattle.rows.specs.declared.Row.{Row}
use Rattle.rows.specs.Rows.{row_at, small_of, most_short}
use Rattle.seal.specs.Light.{row_count, head_count, most_at, LightRow, Light}
use Rattle.hpgl.proofs.ValidFacts.{and_both}
use Rattle.saved.specs.Places.{limits_place, corners_place, scale_place, window_place, position_place, pen_place, polygon_place, first_place, saved_place, memory_place, work_place, across_place, along_place, start_place, edges_place}
use Rattle.saved.specs.Saved.{state_numbers, position_of, circle_of, settings_at}
use Rattle.wellformed.specs.Sound.{between_of, four_low, four_high, five_of, blank_sound, last, place_sound, numbers_sound, number_sound, reader_sound, last_turn, limits_sound, corners_sound, scale_sound, box_sound, settings_sound, placed_of, position_low, position_high, position_sound, pen_sound, polygon_sound, kept_sound, positions_sound, memory_sound, parts_sound, carriage_sound, known_sound, round_of, centre_low, centre_high, start_low, start_high, start_sound, ring_sound, chords_sound, blanks_sound, line_sound, outline_sound, count_sound, reply_sound, work_sound, inked_sound, edges_sound, sound_of}
use Rattle.wellformed.specs.RowTests.{between-true}

-- the largest number of the rows before the edges
abbrev most : ℕ
most = 2000000001000001

-- ---- one row

abbrev small : ℕ → Row → Bool
small n r = leb (nat_abs r.a) n && (leb (nat_abs r.b) n && (leb (nat_abs r.c) n && (leb (nat_abs r.d) n && leb (nat_abs r.e) n)))

between-size : (n : ℕ) (l z h : ℤ) → leb (nat_abs l) n ≡ true → leb (nat_abs h) n ≡ true → l ≤ᶻ z → z ≤ᶻ h → Bd z n
between-size n l z h s t p q =
    let a = leb→le (nat_abs l) n (subst T (sym s) tt) in
    let b = leb→le (nat_abs h) n (subst T (sym t) tt) in
    record { bd = omega (arith, ord, abs l, abs z, abs h, a, b, p, q) }

record Sizes (n : ℕ) (r : Row) : Type 0 where
  a : leb (nat_abs r.a) n ≡ true
  b : leb (nat_abs r.b) n ≡ true
  c : leb (nat_abs r.c) n ≡ true
  d : leb (nat_abs r.d) n ≡ true
  e : leb (nat_abs r.e) n ≡ true

sizes : (n : ℕ) (r : Row) → small n r ≡ true → Sizes n r
sizes n r t =
    let t1 = and_both (leb (nat_abs r.a) n) (leb (nat_abs r.b) n && (leb (nat_abs r.c) n && (leb (nat_abs r.d) n && leb (nat_abs r.e) n))) t in
    let t2 = and_both (leb (nat_abs r.b) n) (leb (nat_abs r.c) n && (leb (nat_abs r.d) n && leb (nat_abs r.e) n)) t1.1 in
    let t3 = and_both (leb (nat_abs r.c) n) (leb (nat_abs r.d) n && leb (nat_abs r.e) n) t2.1 in
    let t4 = and_both (leb (nat_abs r.d) n) (leb (nat_abs r.e) n) t3.1 in
    record { a = t1.0; b = t2.0; c = t3.0; d = t4.0; e = t4.1 }

light : (n : ℕ) (l r h : Row) → small n l ≡ true → small n h ≡ true → between_of l r h ≡ true → LightRow n r
light n l r h s t e =
    let b = between-true l r h e in
    let p = sizes n l s in
    let q = sizes n h t in
    record {
      a = between-size n l.a r.a h.a p.a q.a b.low.a b.high.a;
      b = between-size n l.b r.b h.b p.b q.b b.low.b b.high.b;
      c = between-size n l.c r.c h.c p.c q.c b.low.c b.high.c;
      d = between-size n l.d r.d h.d p.d q.d b.low.d b.high.d;
      e = between-size n l.e r.e h.e p.e q.e b.low.e b.high.e;
    }

-- ---- the rows before the edges

place-light : (r : Row) → place_sound r ≡ true → LightRow most r
unfolding place_sound
place-light r = go (r.a ≡? pos 1)
  where
    go : (t : Bool) → cond t (between_of (five_of 1 0 0 0 0) r (five_of 1 255 last 0 0)) (between_of (five_of 0 0 0 0 0) r (five_of 5 0 last 0 0)) ≡ true → LightRow most r
    go true e = light most (five_of 1 0 0 0 0) r (five_of 1 255 last 0 0) refl refl e
    go false e = light most (five_of 0 0 0 0 0) r (five_of 5 0 last 0 0) refl refl e

numbers-light : (r : Row) → numbers_sound r ≡ true → LightRow most r
unfolding numbers_sound
numbers-light r e = light most _ r _ refl refl e

number-light : (r : Row) → number_sound r ≡ true → LightRow most r
unfolding number_sound
number-light r e = light most (five_of 0 0 0 0 0) r (five_of 1 1 1 7 3276800009) refl refl e

limits-light : (r : Row) → limits_sound r ≡ true → LightRow most r
unfolding limits_sound
limits-light r e = light most (four_low 32768 0) r (four_high 32768 last_turn) refl refl (and_both (between_of (four_low 32768 0) r (four_high 32768 last_turn)) _ e).0

corners-light : (r : Row) → corners_sound r ≡ true → LightRow most r
unfolding corners_sound
corners-light r e = light most (four_low 32768 0) r (four_high 32768 0) refl refl (and_both (between_of (four_low 32768 0) r (four_high 32768 0)) _ e).0

scale-light : (r : Row) → scale_sound r ≡ true → LightRow most r
unfolding scale_sound
scale-light r e = light most (four_low 327680000 0) r (four_high 327680000 1) refl refl (and_both (between_of (four_low 327680000 0) r (four_high 327680000 1)) _ e).0

box-light : (n : ℕ) (r : Row) → small n (four_low 1000000 0) ≡ true → small n (four_high 1000000 1) ≡ true → box_sound r ≡ true → LightRow n r
unfolding box_sound
box-light n r s t e = light n (four_low 1000000 0) r (four_high 1000000 1) s t e

position-light : (r : Row) → position_sound r ≡ true → LightRow most r
unfolding position_sound
position-light r e = light most position_low r position_high refl refl e

pen-light : (r : Row) → pen_sound r ≡ true → LightRow most r
unfolding pen_sound
pen-light r e = light most (five_of 0 0 0 0 0) r (five_of 8 1 1 0 0) refl refl e

polygon-light : (r : Row) → polygon_sound r ≡ true → LightRow most r
unfolding polygon_sound
polygon-light r e = light most (five_of 0 0 0 0 0) r (five_of 1 1024 112 1 0) refl refl (and_both (between_of (five_of 0 0 0 0 0) r (five_of 1 1024 112 1 0)) _ e).0

memory-light : (r : Row) → memory_sound r ≡ true → LightRow most r
unfolding memory_sound
memory-light r e = light most (five_of 0 0 0 0 0) r (five_of 7 0 0 0 0) refl refl (and_both (between_of (five_of 0 0 0 0 0) r (five_of 7 0 0 0 0)) _ e).0

blank-light : (r : Row) → blank_sound r ≡ true → LightRow most r
unfolding blank_sound
blank-light r e = light most (five_of 0 0 0 0 0) r (five_of 0 0 0 0 0) refl refl e

-- ---- the work's four rows

record Four (r across along start : Row) : Type 0 where
  its-row : LightRow most r
  its-across : LightRow most across
  its-along : LightRow most along
  its-start : LightRow most start

blanks-light : (r across along start : Row) → LightRow most r → blanks_sound across along start ≡ true → Four r across along start
unfolding blanks_sound
blanks-light r across along start h e =
    let b = and_both (blank_sound across) (blank_sound along && blank_sound start) e in
    let c = and_both (blank_sound along) (blank_sound start) b.1 in
    record { its-row = h; its-across = blank-light across b.0; its-along = blank-light along c.0; its-start = blank-light start c.1 }

line-light : (r across along start : Row) → line_sound r across along start ≡ true → Four r across along start
unfolding line_sound
line-light r across along start e =
    let b = and_both (between_of (four_low 1000000 1) r (four_high 1000000 1)) (blanks_sound across along start) e in
    blanks-light r across along start (light most (four_low 1000000 1) r (four_high 1000000 1) refl refl b.0) b.1

outline-light : (r across along start : Row) → outline_sound r across along start ≡ true → Four r across along start
unfolding outline_sound
outline-light r across along start e =
    let b = and_both (between_of (five_of 0 0 0 0 3) r (five_of 112 112 0 0 3)) ((r.a +ℤ r.b ≤? pos 112) && blanks_sound across along start) e in
    let d = and_both (r.a +ℤ r.b ≤? pos 112) (blanks_sound across along start) b.1 in
    blanks-light r across along start (light most (five_of 0 0 0 0 3) r (five_of 112 112 0 0 3) refl refl b.0) d.1

chords-light : (r across along start : Row) → chords_sound r across along start ≡ true → Four r across along start
unfolding chords_sound ring_sound start_sound
chords-light r across along start e =
    let w = between_of centre_low across centre_high in
    let h = between_of centre_low along centre_high in
    let p = between_of start_low start start_high in
    let q = not (start.c ≡? pos 0) in
    let f = round_of (circle_of r across along start) (small_of most_short r.a) (small_of most_short r.b) in
    let b = and_both (between_of (five_of 0 0 5 0 2) r (five_of 720 720 1200 0 2)) ((r.a +ℤ r.b ≤? pos 720) && (w && (h && (p && q)) && f)) e in
    let c = and_both (r.a +ℤ r.b ≤? pos 720) (w && (h && (p && q)) && f) b.1 in
    let d = and_both w (h && (p && q)) (and_both (w && (h && (p && q))) f c.1).0 in
    let g = and_both h (p && q) d.1 in
    record {
      its-row = light most (five_of 0 0 5 0 2) r (five_of 720 720 1200 0 2) refl refl b.0;
      its-across = light most centre_low across centre_high refl refl d.0;
      its-along = light most centre_low along centre_high refl refl g.0;
      its-start = light most start_low start start_high refl refl (and_both p q g.1).0;
    }

reply-light : (r across along start : Row) → reply_sound r across along start ≡ true → Four r across along start
unfolding reply_sound count_sound
reply-light r across along start e =
    let count = between_of (five_of 1 0 0 0 0) across (five_of 4 0 0 0 0) in
    let two = not (across.a ≡? pos 2) in
    let b = and_both (between_of (four_low 1000000 4) r (four_high 1000000 4)) (count && two && (blank_sound along && blank_sound start)) e in
    let c = and_both (count && two) (blank_sound along && blank_sound start) b.1 in
    let d = and_both (blank_sound along) (blank_sound start) c.1 in
    record {
      its-row = light most (four_low 1000000 4) r (four_high 1000000 4) refl refl b.0;
      its-across = light most (five_of 1 0 0 0 0) across (five_of 4 0 0 0 0) refl refl (and_both count two c.0).0;
      its-along = blank-light along d.0;
      its-start = blank-light start d.1;
    }

work-light : (r across along start : Row) → work_sound r across along start ≡ true → Four r across along start
unfolding work_sound
work-light r across along start = go (r.e ≡? pos 1) (r.e ≡? pos 2) (r.e ≡? pos 3) (r.e ≡? pos 4)
  where
    go : (s t u v : Bool) →
        cond s (line_sound r across along start) (cond t (chords_sound r across along start) (cond u (outline_sound r across along start) (cond v (reply_sound r across along start) (blank_sound r && blanks_sound across along start)))) ≡ true →
        Four r across along start
    go true t u v e = line-light r across along start e
    go false true u v e = chords-light r across along start e
    go false false true v e = outline-light r across along start e
    go false false false true e = reply-light r across along start e
    go false false false false e = let b = and_both (blank_sound r) (blanks_sound across along start) e in blanks-light r across along start (blank-light r b.0) b.1

-- ---- the store

edge-light : (zs : List ℤ) (i n j : ℕ) → edges_sound zs i n ≡ true → j < n → LightRow 1000000 (row_at zs (i + j * 5))
unfolding edges_sound
edge-light zs i zero j e h = absurd (omega (arith, h))
edge-light zs i (suc n) zero e h =
    let here : i + 0 * 5 ≡ i = omega arith in
    rw here (box-light 1000000 (row_at zs i) refl refl (and_both (box_sound (row_at zs i)) (edges_sound zs (i + 5) n) e).0)
edge-light zs i (suc n) (suc j) e h =
    let next : i + suc j * 5 ≡ i + 5 + j * 5 = omega arith in
    rw next (edge-light zs (i + 5) n j (and_both (box_sound (row_at zs i)) (edges_sound zs (i + 5) n) e).1 (omega (arith, h)))

-- ---- the list

record Head (zs : List ℤ) : Type 0 where
  r0 : LightRow most (row_at zs 0)
  r1 : LightRow most (row_at zs 5)
  r2 : LightRow most (row_at zs 10)
  r3 : LightRow most (row_at zs limits_place)
  r4 : LightRow most (row_at zs corners_place)
  r5 : LightRow most (row_at zs scale_place)
  r6 : LightRow most (row_at zs window_place)
  r7 : LightRow most (row_at zs position_place)
  r8 : LightRow most (row_at zs pen_place)
  r9 : LightRow most (row_at zs polygon_place)
  r10 : LightRow most (row_at zs first_place)
  r11 : LightRow most (row_at zs saved_place)
  r12 : LightRow most (row_at zs memory_place)
  rest : Four (row_at zs work_place) (row_at zs across_place) (row_at zs along_place) (row_at zs start_place)

head-row : {zs : List ℤ} → Head zs → (k : ℕ) → k < head_count → LightRow most (row_at zs (k * 5))
head-row h zero l = h.r0
head-row h (suc zero) l = h.r1
head-row h (suc (suc zero)) l = h.r2
head-row h (suc (suc (suc zero))) l = h.r3
head-row h (suc (suc (suc (suc zero)))) l = h.r4
head-row h (suc (suc (suc (suc (suc zero))))) l = h.r5
head-row h (suc (suc (suc (suc (suc (suc zero)))))) l = h.r6
head-row h (suc (suc (suc (suc (suc (suc (suc zero))))))) l = h.r7
head-row h (suc (suc (suc (suc (suc (suc (suc (suc zero)))))))) l = h.r8
head-row h (suc (suc (suc (suc (suc (suc (suc (suc (suc zero))))))))) l = h.r9
head-row h (suc (suc (suc (suc (suc (suc (suc (suc (suc (suc zero)))))))))) l = h.r10
head-row h (suc (suc (suc (suc (suc (suc (suc (suc (suc (suc (suc zero))))))))))) l = h.r11
head-row h (suc (suc (suc (suc (suc (suc (suc (suc (suc (suc (suc (suc zero)))))))))))) l = h.r12
head-row h (suc (suc (suc (suc (suc (suc (suc (suc (suc (suc (suc (suc (suc zero))))))))))))) l = h.rest.its-row
head-row h (suc (suc (suc (suc (suc (suc (suc (suc (suc (suc (suc (suc (suc (suc zero)))))))))))))) l = h.rest.its-across
head-row h (suc (suc (suc (suc (suc (suc (suc (suc (suc (suc (suc (suc (suc (suc (suc zero))))))))))))))) l = h.rest.its-along
head-row h (suc (suc (suc (suc (suc (suc (suc (suc (suc (suc (suc (suc (suc (suc (suc (suc zero)))))))))))))))) l = h.rest.its-start
head-row h (suc (suc (suc (suc (suc (suc (suc (suc (suc (suc (suc (suc (suc (suc (suc (suc (suc k))))))))))))))))) l = absurd (omega (arith, l))

light-list : (zs : List ℤ) → length zs ≡ state_numbers → Head zs → edges_sound zs edges_place 112 ≡ true → Light zs
unfolding most_at
light-list zs e h t = record { long = e; row = λ k l. by k l (ltb k head_count) refl }
  where
    by : (k : ℕ) → k < row_count → (s : Bool) → ltb k head_count ≡ s → LightRow (cond s most 1000000) (row_at zs (k * 5))
    by k l true g = head-row h k (ltb-true k head_count g)
    by k l false g =
        let c = ltb-false k head_count g in
        let at : k * 5 ≡ edges_place + (k - head_count) * 5 = omega (arith, c) in
        rw at (edge-light zs edges_place 112 (k - head_count) t (omega (arith, l, c)))

pub sound-light : (zs : List ℤ) → length zs ≡ state_numbers → sound_of zs ≡ true → Light zs
unfolding sound_of reader_sound settings_sound carriage_sound parts_sound positions_sound
sound-light zs e t =
    let settings = limits_sound (row_at zs limits_place) && (corners_sound (row_at zs corners_place) && (scale_sound (row_at zs scale_place) && box_sound (row_at zs window_place))) in
    let positions = position_sound (row_at zs position_place) && (position_sound (row_at zs first_place) && position_sound (row_at zs saved_place)) in
    let parts = positions && (pen_sound (row_at zs pen_place) && (polygon_sound (row_at zs polygon_place) && memory_sound (row_at zs memory_place))) in
    let placed = placed_of (settings_at zs) (position_of (row_at zs position_place)) && kept_sound (settings_at zs) (row_at zs polygon_place) (row_at zs first_place) (row_at zs saved_place) in
    let known = known_sound (row_at zs 0) (row_at zs polygon_place) in
    let work = work_sound (row_at zs work_place) (row_at zs across_place) (row_at zs along_place) (row_at zs start_place) in
    let inked = inked_sound (row_at zs pen_place) (row_at zs work_place) in
    let edges = edges_sound zs edges_place 112 in
    let reader = place_sound (row_at zs 0) && (numbers_sound (row_at zs 5) && number_sound (row_at zs 10)) in
    let t1 = and_both reader (settings && (parts && placed && (known && (work && (inked && edges))))) t in
    let t2 = and_both settings (parts && placed && (known && (work && (inked && edges)))) t1.1 in
    let t3 = and_both (parts && placed) (known && (work && (inked && edges))) t2.1 in
    let t4 = and_both known (work && (inked && edges)) t3.1 in
    let t5 = and_both work (inked && edges) t4.1 in
    let t6 = and_both inked edges t5.1 in
    let a1 = and_both (place_sound (row_at zs 0)) (numbers_sound (row_at zs 5) && number_sound (row_at zs 10)) t1.0 in
    let a2 = and_both (numbers_sound (row_at zs 5)) (number_sound (row_at zs 10)) a1.1 in
    let b1 = and_both (limits_sound (row_at zs limits_place)) (corners_sound (row_at zs corners_place) && (scale_sound (row_at zs scale_place) && box_sound (row_at zs window_place))) t2.0 in
    let b2 = and_both (corners_sound (row_at zs corners_place)) (scale_sound (row_at zs scale_place) && box_sound (row_at zs window_place)) b1.1 in
    let b3 = and_both (scale_sound (row_at zs scale_place)) (box_sound (row_at zs window_place)) b2.1 in
    let c0 = and_both parts placed t3.0 in
    let c1 = and_both positions (pen_sound (row_at zs pen_place) && (polygon_sound (row_at zs polygon_place) && memory_sound (row_at zs memory_place))) c0.0 in
    let c2 = and_both (position_sound (row_at zs position_place)) (position_sound (row_at zs first_place) && position_sound (row_at zs saved_place)) c1.0 in
    let c3 = and_both (position_sound (row_at zs first_place)) (position_sound (row_at zs saved_place)) c2.1 in
    let c4 = and_both (pen_sound (row_at zs pen_place)) (polygon_sound (row_at zs polygon_place) && memory_sound (row_at zs memory_place)) c1.1 in
    let c5 = and_both (polygon_sound (row_at zs polygon_place)) (memory_sound (row_at zs memory_place)) c4.1 in
    light-list zs e
    (record {
      r0 = place-light (row_at zs 0) a1.0;
      r1 = numbers-light (row_at zs 5) a2.0;
      r2 = number-light (row_at zs 10) a2.1;
      r3 = limits-light (row_at zs limits_place) b1.0;
      r4 = corners-light (row_at zs corners_place) b2.0;
      r5 = scale-light (row_at zs scale_place) b3.0;
      r6 = box-light most (row_at zs window_place) refl refl b3.1;
      r7 = position-light (row_at zs position_place) c2.0;
      r8 = pen-light (row_at zs pen_place) c4.0;
      r9 = polygon-light (row_at zs polygon_place) c5.0;
      r10 = position-light (row_at zs first_place) c3.0;
      r11 = position-light (row_at zs saved_place) c3.1;
      r12 = memory-light (row_at zs memory_place) c5.1;
      rest = work-light (row_at zs work_place) (row_at zs across_place) (row_at zs along_place) (row_at zs start_place) t5.0;
    })
    t6.1
