-- What the tests of work, pen and store say: the part that is read is valid, and is written as it was read.
use Rattle.std.specs.Prelude.{◌≡◌, Bool, ◌&&◌, List, [], ◌∷◌, ℕ, zero, suc, ◌+◌, ◌*◌, ◌≤◌, ◌<◌, ℤ, nat_abs, ◌+ℤ◌, length, drop}
use Rattle.std.proofs.Math.Path.{refl, ap}
use Rattle.std.proofs.Common.{sym, ap₂, ◌∙◌, subst, add-zero, arith, eqb-true, drop_of_length-le, drop-drop, get_or-drop}
use Rattle.std.proofs.Math.Bool.{true, false, cond, not}
use Rattle.std.proofs.lemmas.Bool.{not-true}
use Rattle.std.proofs.Math.Dec.{eqb}
use Rattle.std.proofs.Math.IntN.{pos}
use Rattle.std.proofs.Math.ListN.{get_or}
use Rattle.exact.specs.Whole.{◌<?◌, ◌≤?◌, ◌≡?◌, ◌≤ᶻ◌, ◌<ᶻ◌, ord, ≤?-true, ≡?-true, ≡?-false, le-≤?, lt-≤?, le-<?, ne-≡?, eq-≡?, add_parts}
use Rattle.exact.specs.Fit.{Bd, abs}
use Rattle.rows.specs.declared.Row.{Row}
use Rattle.rows.specs.Rows.{row, lay, row_at, flag_of, small_of, most_byte, most_short}
use Rattle.rows.specs.RowLaws.{place-back, small-back}
use Rattle.seal.specs.Light.{row_drop}
use Rattle.mnemonics.specs.Table.{rows, known_in_polygon}
use Rattle.reader.specs.declared.Mode.{Mode}
use Rattle.reader.specs.declared.Mode.TheVariants.{Idle, First, Parameters, InNumber, PassOver, Label}
use Rattle.reader.specs.Inside.{inside}
use Rattle.clip.specs.declared.Point.{Point}
use Rattle.clip.specs.Reach.{SmallPoint}
use Rattle.plane.specs.declared.circle.Centre.{Centre}
use Rattle.plane.specs.Bounds.{most_angle, most_sweep, WayBounds, CentreBounds}
use Rattle.plane.specs.Arc.{arc_point}
use Rattle.plane.proofs.ArcLaws.{each-small, each_fits}
use Rattle.hpgl.specs.declared.Edge.{Edge}
use Rattle.hpgl.specs.declared.Circle.{Circle}
use Rattle.hpgl.specs.declared.Polygon.{Polygon}
use Rattle.hpgl.specs.declared.Pen.{Pen}
use Rattle.hpgl.specs.declared.Reply.{Reply}
use Rattle.hpgl.specs.declared.Work.{Work}
use Rattle.hpgl.specs.declared.Work.TheVariants.{Nothing, Line, Chords, Edges, Answer}
use Rattle.hpgl.specs.Machine.{waiting, vertex_in}
use Rattle.hpgl.specs.Valid.{most_chords, SmallEdge, ValidCircle, ReplyCount, one, three, four, ValidReply, ValidWork, Every, none, more}
use Rattle.hpgl.proofs.ValidFacts.{and_both, later-vertex}
use Rattle.saved.specs.SavedReader.{mode_tag, mode_of, place_row}
use Rattle.saved.specs.Saved.{flag_in, small_in, from_of, to_of, pen_row, polygon_row, blank_row, line_row, chords_row, edges_row, reply_row, count_row, across_row, along_row, start_row, work_row, work_across, work_along, work_start, centre_of, way_of, angle_in, circle_of, reply_of, work_of, edge_row, edges_numbers, edge_of, edges_from}
use Rattle.wellformed.specs.Sound.{between_of, four_low, four_high, five_of, centre_low, centre_high, start_low, start_high, blank_sound, box_sound, known_sound, round_of, start_sound, ring_sound, chords_sound, blanks_sound, line_sound, outline_sound, count_sound, reply_sound, work_sound, inked_sound, edges_sound}
use Rattle.wellformed.specs.RowTests.{both, between-true, between-of, bd-of, bd-low, bd-high, Four, four-true, four-of, five-of, zero_same, flag_same, small_is, small_same, small-most, flag-bounds, blank-same}
use Rattle.wellformed.proofs.PartLaws.{PlaceLaw, box-law, box_sound-of, unless, unless-of, mode-on, mode-off, not-both}

-- ---- what is being read in polygon mode is known there

inside-tags : (n l : ℕ) → n ≤ 5 → inside (mode_of n l) ≡ true → (2 ≤ n) × (n ≤ 3)
unfolding mode_of inside
inside-tags zero l h e = not-both e refl
inside-tags (suc zero) l h e = not-both e refl
inside-tags (suc (suc zero)) l h e = (omega arith, omega arith)
inside-tags (suc (suc (suc zero))) l h e = (omega arith, omega arith)
inside-tags (suc (suc (suc (suc zero)))) l h e = not-both e refl
inside-tags (suc (suc (suc (suc (suc zero))))) l h e = not-both e refl
inside-tags (suc (suc (suc (suc (suc (suc n)))))) l h e = absurd (omega (arith, h))

-- a tag that is no 0 is the number that was read
tag-parts : (z : ℤ) → (2 ≤ small_of most_byte z) × (small_of most_byte z ≤ 3) → (pos 2 ≤ᶻ z) × (z ≤ᶻ pos 3)
unfolding small_of
tag-parts z = go (pos 0 ≤? z) refl (z ≤? pos most_byte)
  where
    go : (s : Bool) → (pos 0 ≤? z) ≡ s → (t : Bool) → (2 ≤ cond s (cond t (nat_abs z) 0) 0) × (cond s (cond t (nat_abs z) 0) 0 ≤ 3) → (pos 2 ≤ᶻ z) × (z ≤ᶻ pos 3)
    go true e true h = let l = ≤?-true (pos 0) z e in (omega (arith, ord, l, abs z, h.0), omega (arith, ord, l, abs z, h.1))
    go true e false h = absurd (omega (arith, h.0))
    go false e t h = absurd (omega (arith, h.0))

pub known-law : (place polygon : Row) → PlaceLaw place → known_sound place polygon ≡ true → flag_of polygon.a ≡ true →
    inside (mode_of (small_of most_byte place.a) (small_of most_byte place.b)) ≡ true → known_in_polygon (small_of most_byte place.c) ≡ true
unfolding known_sound
known-law place polygon p t on i =
    let n = inside-tags (small_of most_byte place.a) (small_of most_byte place.b) p.tag i in
    let z = tag-parts place.a n in
    unless (unless (unless t (mode-on polygon.a on)) (le-<? z.0)) (le-<? z.1)

known-mode : (m : Mode) (op : ℕ) → op < rows → (inside m ≡ true → known_in_polygon op ≡ true) →
    let r = place_row m op in
    cond (r.a <? pos 2) true (cond (pos 3 <? r.a) true (known_in_polygon (small_of most_byte r.c))) ≡ true
unfolding place_row mode_tag inside ◌<?◌
known-mode Idle op s h = refl
known-mode (First a) op s h = refl
known-mode Parameters op s h = ap known_in_polygon (place-back op (omega (arith, s))) ∙ h refl
known-mode InNumber op s h = ap known_in_polygon (place-back op (omega (arith, s))) ∙ h refl
known-mode PassOver op s h = refl
known-mode Label op s h = refl

pub known_of : (m : Mode) (op : ℕ) (g : Polygon) → op < rows → (g.mode ≡ true → inside m ≡ true → known_in_polygon op ≡ true) → known_sound (place_row m op) (polygon_row g) ≡ true
unfolding known_sound polygon_row
known_of m op g s h = unless-of (λ off. known-mode m op s (h (mode-off g.mode off)))

-- ---- the work

pub record WorkIs (w : Work) (r across along start : Row) : Type 0 where
  pub valid : ValidWork w
  pub its-row : work_row w ≡ r
  pub its-across : work_across w ≡ across
  pub its-along : work_along w ≡ along
  pub its-start : work_start w ≡ start

record Blanks (across along start : Row) : Type 0 where
  its-across : blank_row ≡ across
  its-along : blank_row ≡ along
  its-start : blank_row ≡ start

blanks : (across along start : Row) → blanks_sound across along start ≡ true → Blanks across along start
unfolding blanks_sound blank_row
blanks across along start t =
    let b = and_both (blank_sound across) (blank_sound along && blank_sound start) t in
    let c = and_both (blank_sound along) (blank_sound start) b.1 in
    record { its-across = blank-same across b.0; its-along = blank-same along c.0; its-start = blank-same start c.1 }

-- the tag of a row, where it is n
tag_is : (r : Row) (n : ℕ) → n ≤ 255 → pos n ≤ᶻ r.e → r.e ≤ᶻ pos n → (small_in r ≡ n) × (pos n ≡ r.e)
unfolding small_in
tag_is r n h l u =
    let s = small_is r.e most_byte (omega (arith, ord, l)) u h in
    let e : pos n ≡ r.e = omega (arith, ord, l, u) in
    (s.1 ∙ sym (ap nat_abs e), e)

-- a centre on one axis, and the way from it
pub centre-true : (r : Row) → between_of centre_low r centre_high ≡ true → CentreBounds (centre_of r) × Bd r.e 327680000
unfolding centre_of
centre-true r t =
    let x = between-true centre_low r centre_high t in (
      record { base = bd-of x.low.a x.high.a; part = bd-of x.low.b x.high.b; span = bd-of x.low.c x.high.c; width = record { bd = omega (arith, ord, abs r.d, x.low.d, x.high.d) }; some = omega (arith, ord, x.low.d) },
      bd-of x.low.e x.high.e,
    )

-- where it starts, and how far it goes
pub start-true : (r : Row) → between_of start_low r start_high ≡ true → SmallPoint (from_of r) × Bd r.c 3600 × (pos 0 ≡ r.d) × (pos 0 ≡ r.e)
unfolding from_of
start-true r t =
    let x = between-true start_low r start_high t in
    (record { x = bd-of x.low.a x.high.a; y = bd-of x.low.b x.high.b }, bd-of x.low.c x.high.c, zero_same x.low.d x.high.d, zero_same x.low.e x.high.e)

-- what `each_fits` asks of such a circle
pub ring-true : (r across along start : Row) → between_of (five_of 0 0 5 0 2) r (five_of 720 720 1200 0 2) ≡ true → ring_sound across along start ≡ true →
    let o = circle_of r across along start in
    CentreBounds o.x × CentreBounds o.y × WayBounds o.radius × Bd o.sweep most_sweep × (0 < o.angle) × (o.angle ≤ most_angle) × (small_of most_short r.a ≤ most_chords) × (small_of most_short r.b ≤ most_chords)
unfolding ring_sound start_sound circle_of centre_of way_of angle_in
ring-true r across along start t u =
    let bs = between_of start_low start start_high in
    let some = not (start.c ≡? pos 0) in
    let t1 = and_both (between_of centre_low across centre_high) (between_of centre_low along centre_high && (bs && some)) u in
    let t2 = and_both (between_of centre_low along centre_high) (bs && some) t1.1 in
    let x = centre-true across t1.0 in
    let y = centre-true along t2.0 in
    let z = start-true start (and_both bs some t2.1).0 in
    let f = between-true (five_of 0 0 5 0 2) r (five_of 720 720 1200 0 2) t in
    let c0 : pos 0 ≤ᶻ r.c = omega (arith, ord, f.low.c) in
    let n = small_is r.c most_short c0 f.high.c (omega arith) in
    (x.0, y.0, record { u = x.1; v = y.1 }, z.1, omega (arith, ord, f.low.c, n.1, abs r.c), omega (arith, n.1, n.2), small-most r.a most_short f.low.a f.high.a (omega arith), small-most r.b most_short f.low.b f.high.b (omega arith))

-- the test of the vertices that wait is that each is in range, the first as the start
round-true : (o : Circle) (i n : ℕ) → SmallPoint o.start → round_of o i n ≡ true → (j : ℕ) → i ≤ j → j ≤ i + n → SmallPoint (vertex_in o j)
unfolding round_of vertex_in arc_point
round-true o zero n s e zero l u = s
round-true o zero n s e (suc j) l u =
    rw (later-vertex o (suc j) (omega arith)) (each-small o.x o.y o.radius o.sweep o.angle 1 _ e (suc j) (omega arith) (omega (arith, u)))
round-true o (suc i) n s e j l u =
    rw (later-vertex o j (omega (arith, l))) (each-small o.x o.y o.radius o.sweep o.angle (suc i) _ e j l (omega (arith, u)))

round-of : (o : Circle) (i n : ℕ) → ValidCircle o i n → round_of o i n ≡ true
unfolding round_of
round-of o zero n v =
    each_fits o.x o.y o.radius o.sweep o.angle 1 n
    (λ j l u. subst SmallPoint (later-vertex o j (omega (arith, l))) (v.fits j (omega arith) (omega (arith, u))))
round-of o (suc i) n v =
    each_fits o.x o.y o.radius o.sweep o.angle (suc i) (n + 1)
    (λ j l u. subst SmallPoint (later-vertex o j (omega (arith, l))) (v.fits j l (omega (arith, u))))

-- how many numbers a reply has
count_law : (k : ℕ) → 1 ≤ k → k ≤ 4 → (k ≡ 2 → ⊥) → ReplyCount k
count_law zero l u h = absurd (omega (arith, l))
count_law (suc zero) l u h = one
count_law (suc (suc zero)) l u h = absurd (h refl)
count_law (suc (suc (suc zero))) l u h = three
count_law (suc (suc (suc (suc zero)))) l u h = four
count_law (suc (suc (suc (suc (suc k))))) l u h = absurd (omega (arith, u))

count-true : (r : Row) → count_sound r ≡ true → ReplyCount (small_of most_byte r.a) × (row (pos (small_of most_byte r.a)) (pos 0) (pos 0) (pos 0) (pos 0) ≡ r)
unfolding count_sound
count-true r t =
    let u = and_both (between_of (five_of 1 0 0 0 0) r (five_of 4 0 0 0 0)) (not (r.a ≡? pos 2)) t in
    let b = between-true (five_of 1 0 0 0 0) r (five_of 4 0 0 0 0) u.0 in
    let low : pos 0 ≤ᶻ r.a = omega (arith, ord, b.low.a) in
    let n = small_is r.a most_byte low b.high.a (omega arith) in
    let two = ≡?-false r.a (pos 2) (not-true (r.a ≡? pos 2) u.1) in (
      count_law (small_of most_byte r.a) (omega (arith, ord, n.1, abs r.a, b.low.a)) (omega (arith, n.1, n.2)) (λ e. two (sym n.0 ∙ ap pos e)),
      (λ i. row (n.0 i) (zero_same b.low.b b.high.b i) (zero_same b.low.c b.high.c i) (zero_same b.low.d b.high.d i) (zero_same b.low.e b.high.e i)),
    )

-- what a row with this tag is read as
module _ (r across along start : Row) where
  read_as : {w : Work} → work_of r across along start ≡ w → WorkIs w r across along start → WorkIs (work_of r across along start) r across along start
  read_as e = subst (λ (x : Work). WorkIs x r across along start) (sym e)

  line-law : line_sound r across along start ≡ true → WorkIs (work_of r across along start) r across along start
  unfolding line_sound work_of work_row work_across work_along work_start line_row from_of to_of
  line-law t =
      let u = and_both (between_of (four_low 1000000 1) r (four_high 1000000 1)) (blanks_sound across along start) t in
      let f = four-true 1000000 1 1 r u.0 in
      let b = blanks across along start u.1 in
      let k = tag_is r 1 (omega arith) f.low f.high in
      read_as {w = Line (from_of r) (to_of r)} (rw k.0 refl)
      (record {
        valid = (record { x = f.a; y = f.b }, record { x = f.c; y = f.d });
        its-row = λ i. row r.a r.b r.c r.d (k.1 i);
        its-across = b.its-across;
        its-along = b.its-along;
        its-start = b.its-start;
      })

  -- two counts with a bounded sum
  sum-most : (n : ℕ) (most : ℕ) → n ≤ most → pos 0 ≤ᶻ r.a → r.a ≤ᶻ pos n → pos 0 ≤ᶻ r.b → r.b ≤ᶻ pos n → r.a +ℤ r.b ≤ᶻ pos n → small_of most r.a + small_of most r.b ≤ n
  sum-most n most h la ua lb ub s =
      let p = small_is r.a most la ua h in
      let q = small_is r.b most lb ub h in
      omega (arith, ord, s, add_parts r.a r.b, abs r.a, abs r.b, la, lb, p.1, q.1)

  outline-law : outline_sound r across along start ≡ true → WorkIs (work_of r across along start) r across along start
  unfolding outline_sound work_of work_row work_across work_along work_start edges_row
  outline-law t =
      let u = and_both (between_of (five_of 0 0 0 0 3) r (five_of 112 112 0 0 3)) ((r.a +ℤ r.b ≤? pos 112) && blanks_sound across along start) t in
      let v = and_both (r.a +ℤ r.b ≤? pos 112) (blanks_sound across along start) u.1 in
      let f = between-true (five_of 0 0 0 0 3) r (five_of 112 112 0 0 3) u.0 in
      let b = blanks across along start v.1 in
      let k = tag_is r 3 (omega arith) f.low.e f.high.e in
      read_as {w = Edges (small_of most_byte r.a) (small_of most_byte r.b)} (rw k.0 refl)
      (record {
        valid = sum-most 112 most_byte (omega arith) f.low.a f.high.a f.low.b f.high.b (≤?-true (r.a +ℤ r.b) (pos 112) v.0);
        its-row = λ i. row (small_same r.a most_byte f.low.a f.high.a (omega arith) i) (small_same r.b most_byte f.low.b f.high.b (omega arith) i) (zero_same f.low.c f.high.c i) (zero_same f.low.d f.high.d i) (k.1 i);
        its-across = b.its-across;
        its-along = b.its-along;
        its-start = b.its-start;
      })

  chords-law : chords_sound r across along start ≡ true → WorkIs (work_of r across along start) r across along start
  unfolding chords_sound ring_sound start_sound work_of work_row work_across work_along work_start chords_row across_row along_row start_row circle_of centre_of way_of angle_in from_of
  chords-law t =
      let o = circle_of r across along start in
      let bx = between_of centre_low across centre_high in
      let by = between_of centre_low along centre_high in
      let bs = between_of start_low start start_high in
      let some = not (start.c ≡? pos 0) in
      let i = small_of most_short r.a in
      let m = small_of most_short r.b in
      let round = round_of o i m in
      let t1 = and_both (between_of (five_of 0 0 5 0 2) r (five_of 720 720 1200 0 2)) ((r.a +ℤ r.b ≤? pos 720) && (bx && (by && (bs && some)) && round)) t in
      let t2 = and_both (r.a +ℤ r.b ≤? pos 720) (bx && (by && (bs && some)) && round) t1.1 in
      let t3 = and_both (bx && (by && (bs && some))) round t2.1 in
      let t4 = and_both bx (by && (bs && some)) t3.0 in
      let t5 = and_both by (bs && some) t4.1 in
      let t6 = and_both bs some t5.1 in
      let f = between-true (five_of 0 0 5 0 2) r (five_of 720 720 1200 0 2) t1.0 in
      let x = centre-true across t4.0 in
      let y = centre-true along t5.0 in
      let z = start-true start t6.0 in
      let k = tag_is r 2 (omega arith) f.low.e f.high.e in
      let c0 : pos 0 ≤ᶻ r.c = omega (arith, ord, f.low.c) in
      let n = small_is r.c most_short c0 f.high.c (omega arith) in
      read_as {w = Chords o i m} (rw k.0 refl)
      (record {
        valid = (
          record {
            x = x.0;
            y = y.0;
            radius = record { u = x.1; v = y.1 };
            least = omega (arith, ord, f.low.c, n.1, abs r.c);
            most = omega (arith, n.1, n.2);
            start = z.0;
            sweep = z.1;
            some = ≡?-false start.c (pos 0) (not-true (start.c ≡? pos 0) t6.1);
            fits = round-true o i m z.0 t3.1;
          },
          sum-most 720 most_short (omega arith) f.low.a f.high.a f.low.b f.high.b (≤?-true (r.a +ℤ r.b) (pos 720) t2.0),
        );
        its-row = λ i. row (small_same r.a most_short f.low.a f.high.a (omega arith) i) (small_same r.b most_short f.low.b f.high.b (omega arith) i) (n.0 i) (zero_same f.low.d f.high.d i) (k.1 i);
        its-across = refl;
        its-along = refl;
        its-start = λ i. row start.a start.b start.c (z.2 i) (z.3 i);
      })

  reply-law : reply_sound r across along start ≡ true → WorkIs (work_of r across along start) r across along start
  unfolding reply_sound work_of work_row work_across work_along work_start reply_row count_row reply_of blank_row
  reply-law t =
      let u = and_both (between_of (four_low 1000000 4) r (four_high 1000000 4)) (count_sound across && (blank_sound along && blank_sound start)) t in
      let v = and_both (count_sound across) (blank_sound along && blank_sound start) u.1 in
      let b = and_both (blank_sound along) (blank_sound start) v.1 in
      let f = four-true 1000000 4 4 r u.0 in
      let c = count-true across v.0 in
      let k = tag_is r 4 (omega arith) f.low f.high in
      read_as {w = Answer (reply_of r across)} (rw k.0 refl)
      (record {
        valid = record { count = c.0; first = f.a; second = f.b; third = f.c; fourth = f.d };
        its-row = λ i. row r.a r.b r.c r.d (k.1 i);
        its-across = c.1;
        its-along = blank-same along b.0;
        its-start = blank-same start b.1;
      })

  nothing-law : blank_sound r && blanks_sound across along start ≡ true → WorkIs (work_of r across along start) r across along start
  unfolding work_of work_row work_across work_along work_start blank_row
  nothing-law t =
      let u = and_both (blank_sound r) (blanks_sound across along start) t in
      let b = blanks across along start u.1 in
      let s = blank-same r u.0 in
      let k = tag_is r 0 (omega arith) (omega (arith, ord, last s)) (omega (arith, ord, last s)) in
      read_as {w = Nothing} (rw k.0 refl) (record { valid = tt; its-row = s; its-across = b.its-across; its-along = b.its-along; its-start = b.its-start })
    where
      last : row (pos 0) (pos 0) (pos 0) (pos 0) (pos 0) ≡ r → pos 0 ≡ r.e
      last s = ap (λ (x : Row). x.e) s

  pub work-law : work_sound r across along start ≡ true → WorkIs (work_of r across along start) r across along start
  unfolding work_sound
  work-law = go (r.e ≡? pos 1) (r.e ≡? pos 2) (r.e ≡? pos 3) (r.e ≡? pos 4)
    where
      go : (s t u v : Bool) →
          cond s (line_sound r across along start) (cond t (chords_sound r across along start) (cond u (outline_sound r across along start) (cond v (reply_sound r across along start) (blank_sound r && blanks_sound across along start)))) ≡ true →
          WorkIs (work_of r across along start) r across along start
      go true t u v h = line-law h
      go false true u v h = chords-law h
      go false false true v h = outline-law h
      go false false false true h = reply-law h
      go false false false false h = nothing-law h

-- ---- what is written passes

blank_of : blank_sound blank_row ≡ true
unfolding blank_sound blank_row
blank_of = five-of (omega arith) (omega arith) (omega arith) (omega arith) (omega arith)

blanks-of : blanks_sound blank_row blank_row blank_row ≡ true
unfolding blanks_sound
blanks-of = both blank_of (both blank_of blank_of)

circle-back : (o : Circle) (i n : ℕ) → ValidCircle o i n → circle_of (chords_row o i n) (across_row o) (along_row o) (start_row o) ≡ o
unfolding circle_of centre_of way_of angle_in from_of chords_row across_row along_row start_row
circle-back o i n v = λ j. record { x = o.x; y = o.y; radius = o.radius; angle = small-back most_short o.angle (omega (arith, v.most)) j; start = o.start; sweep = o.sweep }

sum_of : (i n : ℕ) {k : ℕ} → i + n ≤ k → pos i +ℤ pos n ≤ᶻ pos k
sum_of i n {k} h = omega (arith, ord, add_parts (pos i) (pos n))

centre-of : (c : Centre) (z : ℤ) → CentreBounds c → Bd z 327680000 → between_of centre_low (row c.base c.part c.span c.width z) centre_high ≡ true
centre-of c z h k =
    between-of centre_low (row c.base c.part c.span c.width z) centre_high
    (record {
      low = record { a = bd-low h.base; b = bd-low h.part; c = bd-low h.span; d = omega (arith, ord, h.some); e = bd-low k };
      high = record { a = bd-high h.base; b = bd-high h.part; c = bd-high h.span; d = bd-high h.width; e = bd-high k };
    })

start_of : (o : Circle) {i n : ℕ} → ValidCircle o i n → start_sound (start_row o) ≡ true
unfolding start_sound start_row
start_of o v =
    both
    (between-of start_low (start_row o) start_high
    (record {
      low = record { a = bd-low v.start.x; b = bd-low v.start.y; c = bd-low v.sweep; d = omega (arith, ord); e = omega (arith, ord) };
      high = record { a = bd-high v.start.x; b = bd-high v.start.y; c = bd-high v.sweep; d = omega (arith, ord); e = omega (arith, ord) };
    }))
    (ap not (ne-≡? v.some))

-- each by its tag
not-tag : (z : ℤ) (n k : ℕ) → z ≡ pos n → (n ≡ k → ⊥) → (z ≡? pos k) ≡ false
not-tag z n k e h = ne-≡? (λ (f : z ≡ pos k). h (omega (arith, ord, e, f)))

tag_one : (r across along start : Row) → r.e ≡ pos 1 → line_sound r across along start ≡ true → work_sound r across along start ≡ true
unfolding work_sound
tag_one r across along start e h = rw (eq-≡? e) h

tag-two : (r across along start : Row) → r.e ≡ pos 2 → chords_sound r across along start ≡ true → work_sound r across along start ≡ true
unfolding work_sound
tag-two r across along start e h = rw (not-tag r.e 2 1 e (omega arith), eq-≡? e) h

tag-three : (r across along start : Row) → r.e ≡ pos 3 → outline_sound r across along start ≡ true → work_sound r across along start ≡ true
unfolding work_sound
tag-three r across along start e h = rw (not-tag r.e 3 1 e (omega arith), not-tag r.e 3 2 e (omega arith), eq-≡? e) h

tag-four : (r across along start : Row) → r.e ≡ pos 4 → reply_sound r across along start ≡ true → work_sound r across along start ≡ true
unfolding work_sound
tag-four r across along start e h = rw (not-tag r.e 4 1 e (omega arith), not-tag r.e 4 2 e (omega arith), not-tag r.e 4 3 e (omega arith), eq-≡? e) h

tag-none : (r across along start : Row) → r.e ≡ pos 0 → blank_sound r && blanks_sound across along start ≡ true → work_sound r across along start ≡ true
unfolding work_sound
tag-none r across along start e h = rw (not-tag r.e 0 1 e (omega arith), not-tag r.e 0 2 e (omega arith), not-tag r.e 0 3 e (omega arith), not-tag r.e 0 4 e (omega arith)) h

line-of : (p q : Point) → SmallPoint p → SmallPoint q → line_sound (line_row p q) blank_row blank_row blank_row ≡ true
unfolding line_sound line_row
line-of p q a b = both (four-of 1000000 1 1 (line_row p q) (record { a = a.x; b = a.y; c = b.x; d = b.y; low = omega (arith, ord); high = omega (arith, ord) })) blanks-of

chords-of : (o : Circle) (i n : ℕ) → ValidCircle o i n → i + n ≤ 720 → chords_sound (chords_row o i n) (across_row o) (along_row o) (start_row o) ≡ true
unfolding chords_sound ring_sound chords_row across_row along_row
chords-of o i n v s =
    both (five-of (omega (arith, s)) (omega (arith, s)) (omega (arith, v.least, v.most)) (omega arith) (omega arith))
    (both (le-≤? (sum_of i n s))
    (both (both (centre-of o.x o.radius.u v.x v.radius.u) (both (centre-of o.y o.radius.v v.y v.radius.v) (start_of o v)))
    ((λ j. round_of (circle-back o i n v j) (small-back most_short i (omega (arith, s)) j) (small-back most_short n (omega (arith, s)) j)) ∙ round-of o i n v)))

outline-of : (i n : ℕ) → i + n ≤ 112 → outline_sound (edges_row i n) blank_row blank_row blank_row ≡ true
unfolding outline_sound edges_row
outline-of i n s = both (five-of (omega (arith, s)) (omega (arith, s)) (omega arith) (omega arith) (omega arith)) (both (le-≤? (sum_of i n s)) blanks-of)

count_of : {k : ℕ} → ReplyCount k → count_sound (row (pos k) (pos 0) (pos 0) (pos 0) (pos 0)) ≡ true
unfolding count_sound ◌≡?◌
count_of one = both (five-of (omega arith) (omega arith) (omega arith) (omega arith) (omega arith)) refl
count_of three = both (five-of (omega arith) (omega arith) (omega arith) (omega arith) (omega arith)) refl
count_of four = both (five-of (omega arith) (omega arith) (omega arith) (omega arith) (omega arith)) refl

reply-of : (r : Reply) → ValidReply r → reply_sound (reply_row r) (count_row r) blank_row blank_row ≡ true
unfolding reply_sound reply_row count_row
reply-of r v =
    both (four-of 1000000 4 4 (reply_row r) (record { a = v.first; b = v.second; c = v.third; d = v.fourth; low = omega (arith, ord); high = omega (arith, ord) }))
    (both (count_of v.count) (both blank_of blank_of))

pub work-of : (w : Work) → ValidWork w → work_sound (work_row w) (work_across w) (work_along w) (work_start w) ≡ true
unfolding work_row work_across work_along work_start blank_row line_row chords_row edges_row reply_row
work-of Nothing v = tag-none blank_row blank_row blank_row blank_row refl (both blank_of blanks-of)
work-of (Line p q) v = tag_one (line_row p q) blank_row blank_row blank_row refl (line-of p q v.0 v.1)
work-of (Chords o i n) v = tag-two (chords_row o i n) (across_row o) (along_row o) (start_row o) refl (chords-of o i n v.0 v.1)
work-of (Edges i n) v = tag-three (edges_row i n) blank_row blank_row blank_row refl (outline-of i n v)
work-of (Answer r) v = tag-four (reply_row r) (count_row r) blank_row blank_row refl (reply-of r v)

-- ---- the pen

-- a number that is read as k + 1 is k + 1
read_some : (most : ℕ) (z : ℤ) (k : ℕ) → small_of most z ≡ suc k → z ≡ pos (suc k)
unfolding small_of
read_some most z k = go (pos 0 ≤? z) refl (z ≤? pos most)
  where
    go : (s : Bool) → (pos 0 ≤? z) ≡ s → (t : Bool) → cond s (cond t (nat_abs z) 0) 0 ≡ suc k → z ≡ pos (suc k)
    go true e true h = let l = ≤?-true (pos 0) z e in omega (arith, ord, l, abs z, h)
    go true e false h = absurd (omega (arith, h))
    go false e t h = absurd (omega (arith, h))

read-tag : (r : Row) (k : ℕ) → small_in r ≡ suc k → r.e ≡ pos (suc k)
unfolding small_in
read-tag r k e = read_some most_byte r.e k e

none_read : (most : ℕ) (z : ℤ) → z ≡ pos 0 → small_of most z ≡ 0
none_read most z e =
    let s = small_is z {n = 0} most (omega (arith, ord, e)) (omega (arith, ord, e)) (omega arith) in
    omega (arith, s.1, s.2)

module _ (r across along start : Row) where
  waiting_none : r.e ≡ pos 0 → waiting (work_of r across along start) ≡ 0
  unfolding work_of waiting small_in
  waiting_none e = rw (none_read most_byte r.e e) refl

  waiting-reply : r.e ≡ pos 4 → waiting (work_of r across along start) ≡ 0
  unfolding work_of waiting
  waiting-reply e = rw (tag_is r 4 (omega arith) (omega (arith, ord, e)) (omega (arith, ord, e))).0 refl

  waiting-done : (small_in r ≡ 1 → ⊥) → r.b ≡ pos 0 → waiting (work_of r across along start) ≡ 0
  unfolding work_of waiting
  waiting-done h e = go (eqb (small_in r) 1) refl (eqb (small_in r) 2) (eqb (small_in r) 3) (eqb (small_in r) 4)
    where
      go : (s : Bool) → eqb (small_in r) 1 ≡ s → (t u v : Bool) →
          waiting (cond s (Line (from_of r) (to_of r)) (cond t (Chords (circle_of r across along start) (small_of most_short r.a) (small_of most_short r.b)) (cond u (Edges (small_of most_byte r.a) (small_of most_byte r.b)) (cond v (Answer (reply_of r across)) Nothing)))) ≡ 0
      go true f t u v = absurd (h (eqb-true (small_in r) 1 f))
      go false f true u v = none_read most_short r.b e
      go false f false true v = none_read most_byte r.b e
      go false f false false true = refl
      go false f false false false = refl

  pub inked-law : (pen : Row) → inked_sound pen r ≡ true → pos 0 ≤ᶻ pen.a → pen.a ≤ᶻ pos 8 → 0 < waiting (work_of r across along start) → small_of most_byte pen.a ≡ 0 → ⊥
  unfolding inked_sound
  inked-law pen t l u h p = by (r.e ≡? pos 0) refl (r.e ≡? pos 4) refl (r.e ≡? pos 1) refl (unless t (lt-≤? zero-pen))
    where
      zero-pen : pen.a <ᶻ pos 1
      zero-pen = let s = small_is pen.a most_byte l u (omega arith) in omega (arith, ord, abs pen.a, s.1, p, l)

      by : (s : Bool) → (r.e ≡? pos 0) ≡ s → (a : Bool) → (r.e ≡? pos 4) ≡ a → (q : Bool) → (r.e ≡? pos 1) ≡ q → cond s true (cond a true (cond q false (r.b ≡? pos 0))) ≡ true → ⊥
      by true e a i q g f = omega (arith, h, waiting_none (≡?-true r.e (pos 0) e))
      by false e true i q g f = omega (arith, h, waiting-reply (≡?-true r.e (pos 4) i))
      by false e false i true g f = not-both f refl
      by false e false i false g f =
          let k = waiting-done (λ (x : small_in r ≡ 1). ≡?-false r.e (pos 1) g (read-tag r 0 x)) (≡?-true r.b (pos 0) f) in
          omega (arith, h, k)

idle-of : (w : Work) → (0 < waiting w → ⊥) → cond ((work_row w).e ≡? pos 0) true (cond ((work_row w).e ≡? pos 4) true (cond ((work_row w).e ≡? pos 1) false ((work_row w).b ≡? pos 0))) ≡ true
unfolding work_row blank_row line_row chords_row edges_row reply_row waiting ◌≡?◌
idle-of Nothing h = refl
idle-of (Line p q) h = absurd (h (omega arith))
idle-of (Chords o i zero) h = refl
idle-of (Chords o i (suc n)) h = absurd (h (omega arith))
idle-of (Edges i zero) h = refl
idle-of (Edges i (suc n)) h = absurd (h (omega arith))
idle-of (Answer r) h = refl

pub inked-of : (pen : Pen) (w : Work) → (0 < waiting w → pen.number ≡ 0 → ⊥) → inked_sound (pen_row pen) (work_row w) ≡ true
unfolding inked_sound pen_row
inked-of pen w h = go pen.number h
  where
    one_more : (n : ℕ) → pos 1 ≤ᶻ pos (suc n)
    one_more n = omega (arith, ord)

    go : (n : ℕ) → (0 < waiting w → n ≡ 0 → ⊥) → cond (pos 1 ≤? pos n) true (cond ((work_row w).e ≡? pos 0) true (cond ((work_row w).e ≡? pos 4) true (cond ((work_row w).e ≡? pos 1) false ((work_row w).b ≡? pos 0)))) ≡ true
    go zero h = unless-of {t = pos 1 ≤? pos 0} (λ e. idle-of w (λ k. h k refl))
    go (suc n) h = rw (le-≤? (one_more n)) refl

-- ---- the store

edge_same : (r : Row) → Four 1000000 0 1 r → edge_row (edge_of r) ≡ r
unfolding edge_row edge_of from_of to_of flag_in
edge_same r f = λ i. row r.a r.b r.c r.d (flag_same r.e f.low f.high i)

edge-small : (r : Row) → Four 1000000 0 1 r → SmallEdge (edge_of r)
unfolding edge_of from_of to_of
edge-small r f = record { from = record { x = f.a; y = f.b }; to = record { x = f.c; y = f.d } }

pub edges-law : (zs : List ℤ) (i n : ℕ) → edges_sound zs i n ≡ true → i + n * 5 ≡ length zs → Every SmallEdge (edges_from zs i n) × (edges_numbers (edges_from zs i n) ≡ drop i zs) × (length (edges_from zs i n) ≡ n)
unfolding edges_sound edges_from edges_numbers
edges-law zs i zero t e = (none, sym (drop_of_length-le zs {i = i} (omega (arith, e))), refl)
edges-law zs i (suc n) t e =
    let b = and_both (box_sound (row_at zs i)) (edges_sound zs (i + 5) n) t in
    let f = box-law (row_at zs i) b.0 in
    let h = edges-law zs (i + 5) n b.1 (omega (arith, e)) in (
      more (edge-small (row_at zs i) f) h.0,
      ap₂ lay (edge_same (row_at zs i) f) h.1 ∙ sym (row_drop zs i (omega (arith, e))),
      ap suc h.2,
    )

edge-passes : (e : Edge) → SmallEdge e → box_sound (edge_row e) ≡ true
unfolding edge_row
edge-passes e h = let f = flag-bounds e.down in box_sound-of (edge_row e) (record { a = h.from.x; b = h.from.y; c = h.to.x; d = h.to.y; low = f.0; high = f.1 })

module _ (zs : List ℤ) (i : ℕ) (r : Row) (ys : List ℤ) (h : drop i zs ≡ lay r ys) where
  number-here : (k : ℕ) → get_or zs (i + k) (pos 0) ≡ get_or (lay r ys) k (pos 0)
  number-here k = sym (get_or-drop i zs k (pos 0)) ∙ ap (λ (l : List ℤ). get_or l k (pos 0)) h

  row_here : row_at zs i ≡ r
  unfolding row_at
  row_here =
      let first = ap (λ (k : ℕ). get_or zs k (pos 0)) (sym (add-zero i)) ∙ number-here 0 in
      λ j. record { a = first j; b = number-here 1 j; c = number-here 2 j; d = number-here 3 j; e = number-here 4 j }

  rest-here : drop (i + 5) zs ≡ ys
  rest-here = sym (drop-drop 5 i zs) ∙ ap (drop 5) h

pub edges-of : (es : List Edge) (zs : List ℤ) (i : ℕ) → drop i zs ≡ edges_numbers es → Every SmallEdge es → edges_sound zs i (length es) ≡ true
unfolding edges_numbers edges_sound
edges-of [] zs i h v = refl
edges-of (e ∷ es) zs i h (more s v) =
    let r = edge_row e in
    let ys = edges_numbers es in
    both (ap box_sound (row_here zs i r ys h) ∙ edge-passes e s) (edges-of es zs (i + 5) (rest-here zs i r ys h) v)
