-- How far the loop of `gather` is, and its turns: a segment drawn and stored, or a byte taken, whose refusal may be stored.
-- Why: each turn is a step of feed or plot (GatherLaws.antt), and a mark's five numbers come right after those of the marks before it.
use mathlib.Core.Path.{◌≡◌, refl, sym, ap, subst, ◌∙◌}
use mathlib.Core.Bool.{Bool, true, false, cond}
use mathlib.Core.List.{List, [], ◌∷◌, ◌++◌, append-nil, append_assoc}
use Prim.Native.Nat.{ℕ, zero, suc, ◌+◌, ◌*◌, ◌-◌, ◌/◌, ◌≤◌, ◌<◌}
use native.Mathlib.Nat.{suc-add, mul-div-le}
use native.Mathlib.Omega.{arith}
use native.Mathlib.Numerals.{add-one}
use borrow.Author.Tests.{eq-eqb, eqb-true, ltb-true, ltb-false}
use lib.Dec.{eqb, ltb}
use lib.IntN.{ℤ, pos}
use lib.ListN.{length, get_or, drop, drop_of_length-le, length-set, length-append}
use lib.Seq.{drop-cons}
use Rattle.reader.specs.declared.Reader.{Reader}
use Rattle.reader.specs.declared.Event.{Event}
use Rattle.reader.specs.declared.Step.{Step}
use Rattle.reader.specs.declared.Next.{Next}
use Rattle.reader.specs.Step.{step_of}
use Rattle.reader.specs.Stream.{◌telling◌}
use Rattle.reader.specs.Next.{is_nothing, next_of}
use Rattle.reader.proofs.NextLaws.{next-end, next-quiet, next-event}
use Rattle.hpgl.specs.declared.Acted.{Acted}
use Rattle.hpgl.specs.declared.Core.{Core}
use Rattle.hpgl.specs.declared.Store.{Store}
use Rattle.hpgl.specs.declared.Work.{Work}
use Rattle.hpgl.specs.declared.Work.TheVariants.{Nothing, Line, Chords, Edges, Answer}
use Rattle.hpgl.specs.declared.State.{State}
use Rattle.hpgl.specs.declared.Stroke.{Stroke}
use Rattle.hpgl.specs.declared.Drawn.{Drawn}
use Rattle.hpgl.specs.declared.Drawn.TheVariants as drawn
use Rattle.feeding.specs.DrawOff.{list_full}
use Rattle.hpgl.specs.Rules.{done}
use Rattle.hpgl.specs.Numbers.{busy}
use Rattle.hpgl.specs.Machine.{waiting, replied, replying, occupied, take_state, take_number, work_after, draw_state, draw_answer}
use Rattle.feeding.specs.Plot.{Mark, stroke, refusal, Plot, stop, store, drew, numbers_of, laid_marks}
use Rattle.feeding.proofs.FeedLaws.{draw-less}
use Rattle.hpgl.specs.Valid.{most_chords, ValidWork, Valid}
use Rattle.hpgl.proofs.Cases.{never}
use Rattle.hpgl.proofs.ValidKept.{valid-draw}
use Rattle.gathering.specs.declared.Stopped.{Stopped}
use Rattle.gathering.specs.Gather.{whole, stopped_as, stopped_of, gather_from, Gathers, remains_of, stuck_of, halted_of, count_after, with_stroke, record_of, put_of}
use Rattle.gathering.specs.Far.{before, Far, Reached}
use Rattle.gathering.specs.GatherLaws.{idle-free, reply-alone, at-end, at_held, at-stuck, at_byte, at-refusal, at-refused, at-full, at-draw}
use Rattle.gathering.proofs.Turns.{Turn, nothing_is, quiet-turn, turn-number, turn-taken, turn-valid}

-- no more wait than a circle has chords
pub waits-most : (w : Work) → ValidWork w → waiting w ≤ most_chords
unfolding waiting
waits-most Nothing h = omega arith
waits-most (Line a b) h = omega arith
waits-most (Chords o i n) h = omega (arith, h.1)
waits-most (Edges i n) h = omega arith
waits-most (Answer r) h = omega arith

-- fewer wait after a draw
pub waits-less : (m : State) (w : Work) → 0 < waiting m.work → w ≡ work_after m.work → waiting w < waiting m.work
unfolding draw_state
waits-less m w h e = rw e (let z = draw-less m (waiting m.work - 1) (omega arith) in omega (arith, z))

-- where no segment waits, what remains is a byte
pub byte-remains : (w : Work) (at end : ℕ) → remains_of w at end ≡ true → waiting w ≡ 0 → at < end
unfolding remains_of
byte-remains w at end = go (ltb at end) refl
  where
    go : (b : Bool) → ltb at end ≡ b → cond b true (ltb 0 (waiting w)) ≡ true → waiting w ≡ 0 → at < end
    go true e h k = ltb-true at end e
    go false e h k = absurd (omega (arith, ltb-true 0 (waiting w) h))

pub none-remains : (w : Work) (at end : ℕ) → remains_of w at end ≡ false → (waiting w ≡ 0) × (end ≤ at)
unfolding remains_of
none-remains w at end = go (ltb at end) refl
  where
    go : (b : Bool) → ltb at end ≡ b → cond b true (ltb 0 (waiting w)) ≡ false → (waiting w ≡ 0) × (end ≤ at)
    go true e h = never h refl
    go false e h = (omega (arith, ltb-false 0 (waiting w) h), ltb-false at end e)

-- ---- whether a record is free

module _ (w : Work) (k room : ℕ) where
  used_all : (on : Bool) → stuck_of on (waiting w) k room ≡ true → k ≡ room
  unfolding stuck_of
  used_all on = go (eqb k room) refl
    where
      go : (b : Bool) → eqb k room ≡ b → cond b (cond on true (ltb 0 (waiting w))) false ≡ true → k ≡ room
      go true e h = eqb-true k room e
      go false e h = never refl h

  stuck-on : (on : Bool) → stuck_of on (waiting w) k room ≡ true → waiting w ≡ 0 → on ≡ true
  unfolding stuck_of
  stuck-on true h z = refl
  stuck-on false h z = let l = rw (eq-eqb k room (used_all false h)) at h in absurd (omega (arith, z, ltb-true 0 (waiting w) l))

  one_free : (on : Bool) → stuck_of on (waiting w) k room ≡ false → (waiting w ≡ 0 → on ≡ true) → k ≡ room → ⊥
  unfolding stuck_of
  one_free true h f e = let l = rw (eq-eqb k room e) at h in never l refl
  one_free false h f e = let l = rw (eq-eqb k room e) at h in never refl (f (omega (arith, ltb-false 0 (waiting w) l)))

  -- why it halts
  data Halts (on : Bool) (n : ℕ) : Type 0 where
    held : replying w ≡ true → n ≡ busy → Halts on n
    stuck : replying w ≡ false → stuck_of on (waiting w) k room ≡ true → n ≡ list_full → Halts on n

  halts : (on : Bool) {n : ℕ} → n ≡ halted_of on w k room → 0 < n → Halts on n
  unfolding halted_of
  halts on {n} = go (replying w) (stuck_of on (waiting w) k room) refl refl
    where
      go : (a b : Bool) → replying w ≡ a → stuck_of on (waiting w) k room ≡ b → n ≡ cond a busy (cond b list_full 0) → 0 < n → Halts on n
      go true b p q e h = held p e
      go false true p q e h = stuck p q e
      go false false p q e h = absurd (omega (arith, e, h))

  not-halted : (on : Bool) {n : ℕ} → n ≡ halted_of on w k room → n ≤ 0 → (replying w ≡ false) × (stuck_of on (waiting w) k room ≡ false)
  unfolding halted_of
  not-halted on = go (replying w) (stuck_of on (waiting w) k room)
    where
      go : (a b : Bool) {n : ℕ} → n ≡ cond a busy (cond b list_full 0) → n ≤ 0 → (a ≡ false) × (b ≡ false)
      go true b e h = absurd (omega (arith, e, h))
      go false true e h = absurd (omega (arith, e, h))
      go false false e h = (refl, refl)

-- ---- a draw stores one mark at most

pub put-fits : (d : Drawn) (k n : ℕ) → k * 5 + 5 ≤ n → count_after d k * 5 ≤ n
unfolding count_after
put-fits (drawn.Stroke s) k n h = omega (arith, h)
put-fits drawn.Hidden k n h = omega (arith, h)
put-fits drawn.Idle k n h = omega (arith, h)

-- ---- a mark is stored after others

after-five : (s : Stroke) (i : ℕ) (a b c d e : ℤ) (zs : List ℤ) →
    with_stroke s (suc (suc (suc (suc (suc i))))) (a ∷ b ∷ c ∷ d ∷ e ∷ zs) ≡ a ∷ b ∷ c ∷ d ∷ e ∷ with_stroke s i zs
unfolding with_stroke
after-five s i a b c d e zs = simp (suc-add)

-- the numbers of a mark come before those of the others
first-five : (k : Mark) (ks : List Mark) (a b c d e : ℤ) (zs : List ℤ) → let p = record_of k in
    laid_marks (k ∷ ks) (a ∷ b ∷ c ∷ d ∷ e ∷ zs) ≡ pos p.pen ∷ p.x0 ∷ p.y0 ∷ p.x1 ∷ p.y1 ∷ laid_marks ks zs
unfolding numbers_of
first-five (stroke p) ks a b c d e zs = refl
first-five (refusal n t) ks a b c d e zs = refl

laid_more : (ks : List Mark) (k : Mark) (zs : List ℤ) → length ks * 5 + 5 ≤ length zs →
    with_stroke (record_of k) (length ks * 5) (laid_marks ks zs) ≡ laid_marks (ks ++ k ∷ []) zs
unfolding with_stroke numbers_of
laid_more ks k [] h = absurd (omega arith)
laid_more ks k (a ∷ []) h = absurd (omega arith)
laid_more ks k (a ∷ b ∷ []) h = absurd (omega arith)
laid_more ks k (a ∷ b ∷ c ∷ []) h = absurd (omega arith)
laid_more ks k (a ∷ b ∷ c ∷ d ∷ []) h = absurd (omega arith)
laid_more [] k (a ∷ b ∷ c ∷ d ∷ e ∷ zs) h = sym (first-five k [] a b c d e zs)
laid_more (j ∷ ks) k (a ∷ b ∷ c ∷ d ∷ e ∷ zs) h =
    let i : suc (length ks) * 5 ≡ suc (suc (suc (suc (suc (length ks * 5))))) = omega arith in
    let p = record_of j in
    (λ x. with_stroke (record_of k) (i x) (first-five j ks a b c d e zs x))
    ∙ after-five (record_of k) (length ks * 5) (pos p.pen) p.x0 p.y0 p.x1 p.y1 (laid_marks ks zs)
    ∙ ap (λ (r : List ℤ). pos p.pen ∷ p.x0 ∷ p.y0 ∷ p.x1 ∷ p.y1 ∷ r) (laid_more ks k zs (omega arith))
    ∙ sym (first-five j (ks ++ k ∷ []) a b c d e zs)

stroke-length : (s : Stroke) (i : ℕ) (zs : List ℤ) → length (with_stroke s i zs) ≡ length zs
unfolding with_stroke
stroke-length s i zs = simp (length-set)

-- ---- how far it is

-- an answer whose core was put together of its parts
pub ends : {p : Stopped} {A : Type 0} {x : Reader} {k c : Core} {st : Store} {w : Work} {at n number : ℕ} {r : Stopped} →
    r ≡ stopped_as (whole x k st w) at n number → k ≡ c → (stopped_as (whole x c st w) at n number ≡ p) × A → (r ≡ p) × A
ends {x = x} {st = st} {w} {at} {n} {number} e h g = (e ∙ ap (λ (k : Core). stopped_as (whole x k st w) at n number) h ∙ g.0, g.1)

pub far-start : (on : Bool) (m : State) (s : List ℕ) (entry : List ℤ) (at : ℕ) → Valid m → Far on (gather_from on m (drop at s) at (length entry / 5)) s entry entry m at 0
unfolding numbers_of
far-start on m s entry at v = record {
  marks = [];
  counted = refl;
  room = omega arith;
  long = refl;
  laid = refl;
  valid = v;
  goes_on = let z : length entry / 5 ≡ length entry / 5 - 0 = omega arith in ap (λ (r : ℕ). gather_from on m (drop at s) at r) z;
}

module _ {on : Bool} {all : Plot} {s : List ℕ} {entry now : List ℤ} {m : State} {at count : ℕ} (far : Far on all s entry now m at count) where
  -- there is room for a further mark, and for its numbers
  pub far-free : {n : ℕ} → n ≡ halted_of on m.work count (length entry / 5) → n ≤ 0 → (waiting m.work ≡ 0 → on ≡ true) → count < length entry / 5
  far-free e h f = omega (arith, one_free m.work count (length entry / 5) on (not-halted m.work count (length entry / 5) on e h).1 f, far.room)

  -- and no reply waits
  pub far-silent : {n : ℕ} → n ≡ halted_of on m.work count (length entry / 5) → n ≤ 0 → replying m.work ≡ false
  far-silent e h = (not-halted m.work count (length entry / 5) on e h).0

  pub far-fits : count < length entry / 5 → count * 5 + 5 ≤ length now
  far-fits h = omega (arith, mul-div-le (length entry) 5, far.long)

  bytes_left : at < length s → drop at s ≡ get_or s at 0 ∷ drop (at + 1) s
  bytes_left h = rw (add-one, drop-cons s at 0 h) refl

  -- it stops here
  far-stop : (i : State) (t n : ℕ) → gather_from on m (drop at s) at (length entry / 5 - count) ≡ stop i t n →
      Gathers all entry now (stopped_as i t count n)
  far-stop i t n e =
      let w = far.goes_on ∙ ap (before far.marks) e in
      let z = append-nil far.marks in (
        sym (ap stopped_of w ∙ ap (λ (k : ℕ). stopped_as i t k n) (ap length z ∙ far.counted)),
        far.laid ∙ sym (ap (λ (f : Plot). laid_marks f.marks entry) w ∙ ap (λ (ks : List Mark). laid_marks ks entry) z),
      )

  far-full : remains_of m.work at (length s) ≡ true → replying m.work ≡ false → stuck_of on (waiting m.work) count (length entry / 5) ≡ true →
      Gathers all entry now (stopped_as m at count list_full)
  far-full h silent k =
      let z : length entry / 5 - count ≡ 0 = omega (arith, used_all m.work count (length entry / 5) on k) in
      far-stop m at list_full (ap (λ (r : ℕ). gather_from on m (drop at s) at r) z ∙ full (waiting m.work) refl)
    where
      full : (n : ℕ) → waiting m.work ≡ n → gather_from on m (drop at s) at 0 ≡ stop m at list_full
      full zero z =
          ap (λ (bs : List ℕ). gather_from on m bs at 0) (bytes_left (byte-remains m.work at (length s) h z))
          ∙ at-stuck m at (idle-free m.work z silent) (get_or s at 0) (drop (at + 1) s) (stuck-on m.work count (length entry / 5) on k z)
      full (suc n) z = at-full m (drop at s) at (omega (arith, z)) on

  -- a segment waits, and there is no record for it
  pub far-filled : 0 < waiting m.work → count ≡ length entry / 5 → Gathers all entry now (stopped_as m at count list_full)
  far-filled h e =
      let z : length entry / 5 - count ≡ 0 = omega (arith, e) in
      far-stop m at list_full (ap (λ (r : ℕ). gather_from on m (drop at s) at r) z ∙ at-full m (drop at s) at (omega (arith, h)) on)

  pub far-halted : remains_of m.work at (length s) ≡ true → {n : ℕ} → n ≡ halted_of on m.work count (length entry / 5) → 0 < n → Gathers all entry now (stopped_as m at count n)
  far-halted h {n} e l = go n (halts m.work count (length entry / 5) on e l)
    where
      go : (n : ℕ) → Halts m.work count (length entry / 5) on n → Gathers all entry now (stopped_as m at count n)
      go n (stuck p q z) = subst (λ (n : ℕ). Gathers all entry now (stopped_as m at count n)) (sym z) (far-full h p q)
      go n (held p z) =
          subst (λ (n : ℕ). Gathers all entry now (stopped_as m at count n)) (sym z)
          (far-stop m at busy
          (ap (λ (bs : List ℕ). gather_from on m bs at (length entry / 5 - count)) (bytes_left (byte-remains m.work at (length s) h (reply-alone m.work p)))
          ∙ at_held m at p (get_or s at 0) (drop (at + 1) s) on (length entry / 5 - count)))

  pub far-end : waiting m.work ≡ 0 → length s ≤ at → Gathers all entry now (stopped_as m at count 0)
  far-end h k = far-stop m at 0 (rw (drop_of_length-le s k) (at-end m at h on (length entry / 5 - count)))

  -- a mark is stored, and the machine `next` goes on from the place t
  far-more : (k : Mark) (next : State) (t : ℕ) → count < length entry / 5 → Valid next →
      gather_from on m (drop at s) at (length entry / 5 - count) ≡ store k (gather_from on next (drop t s) t (length entry / 5 - (count + 1))) →
      Far on all s entry (with_stroke (record_of k) (count * 5) now) next t (count + 1)
  far-more k next t free v e =
      let n = far.counted in
      let fits = far-fits free in
      let f = gather_from on next (drop t s) t (length entry / 5 - (count + 1)) in
      record {
        marks = far.marks ++ k ∷ [];
        counted = length-append far.marks (k ∷ []) ∙ ap (λ (n : ℕ). n + 1) n;
        room = omega arith;
        long = stroke-length (record_of k) (count * 5) now ∙ far.long;
        laid =
            ap (λ (zs : List ℤ). with_stroke (record_of k) (count * 5) zs) far.laid
            ∙ ap (λ (n : ℕ). with_stroke (record_of k) (n * 5) (laid_marks far.marks entry)) (sym n)
            ∙ laid_more far.marks k entry (omega (arith, n, fits, far.long));
        valid = v;
        goes_on =
            far.goes_on
            ∙ ap (before far.marks) e
            ∙ ap (λ (ks : List Mark). record { state = f.state; taken = f.taken; marks = ks; number = f.number }) (sym (append_assoc far.marks (k ∷ []) f.marks));
      }

  -- nothing is stored
  far-same : (next : State) (t : ℕ) → Valid next →
      gather_from on m (drop at s) at (length entry / 5 - count) ≡ gather_from on next (drop t s) t (length entry / 5 - count) →
      Far on all s entry now next t count
  far-same next t v e = record {
    marks = far.marks;
    counted = far.counted;
    room = far.room;
    long = far.long;
    laid = far.laid;
    valid = v;
    goes_on = far.goes_on ∙ ap (before far.marks) e;
  }

  less_one : count < length entry / 5 → length entry / 5 - count ≡ suc (length entry / 5 - (count + 1))
  less_one free = omega arith

  -- a segment is drawn, and stored where it is not hidden
  module _ (h : 0 < waiting m.work) (free : count < length entry / 5) where
    drawn-on : gather_from on m (drop at s) at (length entry / 5 - count) ≡ drew (draw_answer m) (length entry / 5 - (count + 1)) (λ r. gather_from on (draw_state m) (drop at s) at r)
    drawn-on = ap (λ (r : ℕ). gather_from on m (drop at s) at r) (less_one free) ∙ at-draw m (drop at s) at h on (length entry / 5 - (count + 1))

    unstored : drew (draw_answer m) (length entry / 5 - (count + 1)) (λ r. gather_from on (draw_state m) (drop at s) at r) ≡ gather_from on (draw_state m) (drop at s) at (suc (length entry / 5 - (count + 1))) →
        Far on all s entry now (draw_state m) at count
    unstored e = far-same (draw_state m) at (valid-draw far.valid) (drawn-on ∙ e ∙ ap (λ (r : ℕ). gather_from on (draw_state m) (drop at s) at r) (sym (less_one free)))

    drawn-by : (d : Drawn) → draw_answer m ≡ d → Far on all s entry (put_of d (count * 5) now) (draw_state m) at (count_after d count)
    unfolding drew put_of count_after
    drawn-by drawn.Idle e = unstored (rw e refl)
    drawn-by drawn.Hidden e = unstored (rw e refl)
    drawn-by (drawn.Stroke p) e =
        far-more (stroke p) (draw_state m) at free (valid-draw far.valid)
        (drawn-on ∙ ap (λ (d : Drawn). drew d (length entry / 5 - (count + 1)) (λ r. gather_from on (draw_state m) (drop at s) at r)) e)

    pub far-draw : {d : Drawn} {numbers : List ℤ} {k : ℕ} {w : Work} → d ≡ draw_answer m → numbers ≡ put_of d (count * 5) now → k ≡ count_after d count → w ≡ work_after m.work →
        Far on all s entry numbers (record { reader = m.reader; core = m.core; store = m.store; work = w }) at k
    unfolding draw_state
    far-draw {d} e f g h = rw (f, g, h) (drawn-by d (sym e))

  -- a byte is taken
  module _ {next : State} {q : Step} {t : Acted} (turn : Turn m (get_or s at 0) q t next) (idle : occupied m.work ≡ false) (h : at < length s) where
    number_is : take_number m (get_or s at 0) ≡ t.number
    number_is = turn-number m next (get_or s at 0) q t turn idle

    state-is : take_state m (get_or s at 0) ≡ next
    state-is = turn-taken m next (get_or s at 0) q t turn idle

    next-valid : Valid next
    next-valid = turn-valid m next (get_or s at 0) q t turn idle far.valid

    on-byte : (r : ℕ) → gather_from on m (drop at s) at r ≡ gather_from on m (get_or s at 0 ∷ drop (at + 1) s) at r
    on-byte r = ap (λ (bs : List ℕ). gather_from on m bs at r) (bytes_left h)

    pub far-turn : (on ≡ true → count < length entry / 5) → t.number ≡ 0 → Far on all s entry now next (at + 1) count
    far-turn free e =
        far-same next (at + 1) next-valid
        (on-byte (length entry / 5 - count)
        ∙ at_byte m at idle (get_or s at 0) (drop (at + 1) s) on (length entry / 5 - count) (λ o. omega (arith, free o)) (number_is ∙ e)
        ∙ ap (λ (i : State). gather_from on i (drop (at + 1) s) (at + 1) (length entry / 5 - count)) state-is)

    module _ (f : t.number ≡ 0 → ⊥) where
      refused : take_number m (get_or s at 0) ≡ 0 → ⊥
      refused e = f (sym number_is ∙ e)

      -- its refusal is stored
      pub far-refusal : on ≡ true → count < length entry / 5 → {numbers : List ℤ} {k : ℕ} → numbers ≡ with_stroke (record_of (refusal t.number (at + 1))) (count * 5) now → k ≡ count + 1 →
          Far on all s entry numbers next (at + 1) k
      far-refusal o free e g =
          rw (e, g)
          (far-more (refusal t.number (at + 1)) next (at + 1) free next-valid
          (on-byte (length entry / 5 - count)
          ∙ ap (λ (r : ℕ). gather_from on m (get_or s at 0 ∷ drop (at + 1) s) at r) (less_one free)
          ∙ at-refusal m at idle (get_or s at 0) (drop (at + 1) s) refused o (length entry / 5 - (count + 1))
          ∙ (λ i. store (refusal (number_is i) (at + 1)) (gather_from on (state-is i) (drop (at + 1) s) (at + 1) (length entry / 5 - (count + 1))))))

      -- it ends here
      pub far-refused : on ≡ false → Gathers all entry now (stopped_as next (at + 1) count t.number)
      far-refused o =
          far-stop next (at + 1) t.number
          (on-byte (length entry / 5 - count)
          ∙ at-refused m at idle (get_or s at 0) (drop (at + 1) s) refused o (length entry / 5 - count)
          ∙ (λ i. stop (state-is i) (at + 1) (number_is i)))

-- ---- bytes that mean nothing yet, and then the last one that is read

module _ {on : Bool} {all : Plot} {s : List ℕ} {entry now : List ℤ} {count : ℕ} (free : on ≡ true → count < length entry / 5) where
  -- one byte, and then the others
  next-byte : (m : State) (at : ℕ) → Far on all s entry now m at count → occupied m.work ≡ false → at < length s →
      (let r = (step_of m.reader (get_or s at 0)).reader in
      let n = whole r m.core m.store Nothing in
      Far on all s entry now n (at + 1) count → at + 1 < length s → Reached on all s entry now n (at + 1) count (next_of r (drop (at + 1) s) (at + 1))) →
      Reached on all s entry now m at count (next_of m.reader (drop at s) at)
  unfolding occupied replying replied waiting done
  next-byte m at far idle h rest = go (is_nothing v.event) refl (ltb (at + 1) (length s)) refl
    where
      v : Step
      v = step_of m.reader (get_or s at 0)

      here : {q : Next} → next_of m.reader (get_or s at 0 ∷ drop (at + 1) s) at ≡ q → Reached on all s entry now m at count q → Reached on all s entry now m at count (next_of m.reader (drop at s) at)
      here e r = subst (Reached on all s entry now m at count) (sym (ap (λ (bs : List ℕ). next_of m.reader bs at) (bytes_left far h) ∙ e)) r

      go : (t : Bool) → is_nothing v.event ≡ t → (l : Bool) → ltb (at + 1) (length s) ≡ l → Reached on all s entry now m at count (next_of m.reader (drop at s) at)
      go false e l k =
          here (next-event m.reader (get_or s at 0) (drop (at + 1) s) at e)
          (record { reader = m.reader; work = m.work; place = at; further = omega arith; within = h; ends = refl; step = refl; free = idle; far = far })
      go true e true k =
          let r = rest (far-turn far (quiet-turn m (get_or s at 0) e) idle h free refl) (ltb-true (at + 1) (length s) k) in
          here (next-quiet m.reader (get_or s at 0) (drop (at + 1) s) at e)
          (record {
            reader = r.reader;
            work = r.work;
            place = r.place;
            further = omega (arith, r.further);
            within = r.within;
            ends = r.ends;
            step = r.step;
            free = r.free;
            far = r.far;
          })
      go true e false k =
          here
          (next-quiet m.reader (get_or s at 0) (drop (at + 1) s) at e
          ∙ ap (λ (bs : List ℕ). next_of v.reader bs (at + 1)) (drop_of_length-le s (ltb-false (at + 1) (length s) k))
          ∙ next-end v.reader (at + 1))
          (record {
            reader = m.reader;
            work = m.work;
            place = at;
            further = omega arith;
            within = h;
            ends = refl;
            step = ap (λ (x : Event). v.reader telling x) (sym (nothing_is v.event e));
            free = idle;
            far = far;
          })

  next-bytes : (n : ℕ) (m : State) (at : ℕ) → length s ≤ at + n → Far on all s entry now m at count → occupied m.work ≡ false → at < length s →
      Reached on all s entry now m at count (next_of m.reader (drop at s) at)
  unfolding occupied replying replied waiting
  next-bytes zero m at l far idle h = absurd (omega arith)
  next-bytes (suc n) m at l far idle h = next-byte m at far idle h (λ f k. next-bytes n _ (at + 1) (omega arith) f refl k)

  pub far-next : {m : State} {at : ℕ} → Far on all s entry now m at count → occupied m.work ≡ false → at < length s →
      Reached on all s entry now m at count (next_of m.reader (drop at s) at)
  far-next {m} {at} far idle h = next-bytes (length s) m at (omega arith) far idle h
