-- Feed in parts: with fewer records and then more of them, and with some bytes and then the others.
--     feed-room     r records and then q are r + q of them: where the first r were filled, feed goes on from there
--     feed-append   bytes a and then bs are a ++ bs: where all of a was taken, feed goes on with bs and the records that are left
-- Why: by the bytes, and for each by the segments that wait (`by-waiting`).
use Rattle.std.specs.Prelude.{◌≡◌, refl, Bool, true, false, cond, List, [], ◌∷◌, ◌++◌, ℕ, zero, suc, ◌+◌, ◌-◌, ◌≤◌, ◌<◌, eqb, length, drop}
use Rattle.std.proofs.Common.{sym, ap, ◌∙◌, zero-add, suc-add, arith, ne_eqb, eqb-true}
use Rattle.std.proofs.Math.Nat.{sub-zero, sub_self}
use Rattle.std.proofs.lemmas.Bool.{eqb-false}
use Rattle.hpgl.specs.declared.State.{State}
use Rattle.hpgl.specs.declared.Stroke.{Stroke}
use Rattle.hpgl.specs.declared.Drawn.{Drawn}
use Rattle.hpgl.specs.declared.Drawn.TheVariants as drawn
use Rattle.feeding.specs.DrawOff.{list_full}
use Rattle.hpgl.specs.Machine.{waiting, take_state, take_number, draw_state, draw_answer}
use Rattle.feeding.specs.Feed.{Feed, stop, store, drew, feed_from}
use Rattle.feeding.proofs.FeedLaws.{draw-less, at-end, at_byte, at-refused, at-full, at-draw, feed-place}
use Rattle.hpgl.proofs.Pins.{TakeNumber, none, one, two, three, six, seven, twenty, take-number}

-- these strokes are stored, and f is what follows
abbrev pub store_all : List Stroke → Feed → Feed
store_all ss f = record { state = f.state; taken = f.taken; strokes = ss ++ f.strokes; number = f.number }

-- 21 is feed's alone
not_full : (n : ℕ) → TakeNumber n → n ≡ list_full → ⊥
not_full n none e = omega (arith, e)
not_full n one e = omega (arith, e)
not_full n two e = omega (arith, e)
not_full n three e = omega (arith, e)
not_full n six e = omega (arith, e)
not_full n seven e = omega (arith, e)
not_full n twenty e = omega (arith, e)

pub take-not-full : (m : State) (b : ℕ) → take_number m b ≡ list_full → ⊥
take-not-full m b = not_full (take_number m b) (take-number m b)

-- what holds where no segment waits or no record is free, and where it holds after a draw, holds
pub by-waiting : (P : State → ℕ → Type 0) → ((m : State) (r : ℕ) → waiting m.work ≡ 0 → P m r) → ((m : State) → 0 < waiting m.work → P m 0)
    → ((m : State) (r : ℕ) → 0 < waiting m.work → ((q : ℕ) → P (draw_state m) q) → P m (suc r)) → (m : State) (r : ℕ) → P m r
by-waiting P idle full draw m r = go (waiting m.work) m r refl
  where
    go : (k : ℕ) (m : State) (r : ℕ) → waiting m.work ≡ k → P m r
    go zero m r e = idle m r e
    go (suc k) m zero e = full m (omega (arith, e))
    go (suc k) m (suc r) e = draw m r (omega (arith, e)) (λ q. go k (draw_state m) q (draw-less m k e))

-- a stroke before a choice is a stroke before each way
store-cond : (s : Stroke) (t : Bool) (f g : Feed) → store s (cond t f g) ≡ cond t (store s f) (store s g)
store-cond s true f g = refl
store-cond s false f g = refl

-- ---- records

-- f is what feed does with r records, and g with q more: the same, or it goes on where f is full
pub record Roomier (bs : List ℕ) (t q r : ℕ) (f g : Feed) : Type 0 where
  pub filled : f.number ≡ list_full → length f.strokes ≡ r
  pub on : g ≡ cond (eqb f.number list_full) (store_all f.strokes (feed_from f.state (drop (f.taken - t) bs) f.taken q)) f

-- where another number is the answer, more records change nothing
stopped : (bs : List ℕ) (t q r : ℕ) (f : Feed) → (f.number ≡ list_full → ⊥) → Roomier bs t q r f f
stopped bs t q r f h = record { filled = λ e. absurd (h e); on = rw (ne_eqb f.number list_full h) refl }

stored : (s : Stroke) (bs : List ℕ) (t q r : ℕ) (f g : Feed) → Roomier bs t q r f g → Roomier bs t q (suc r) (store s f) (store s g)
stored s bs t q r f g h = record {
  filled = λ e. ap suc (h.filled e);
  on = ap (store s) h.on ∙ store-cond s (eqb f.number list_full) (store_all f.strokes (feed_from f.state (drop (f.taken - t) bs) f.taken q)) f;
}

module _ (q : ℕ) where
  abbrev Room : List ℕ → ℕ → State → ℕ → Type 0
  Room bs t m r = Roomier bs t q r (feed_from m bs t r) (feed_from m bs t (r + q))

  module _ (bs : List ℕ) (t : ℕ) where
    room-full : (m : State) → 0 < waiting m.work → Room bs t m 0
    room-full m w = rw (at-full m bs t w) (record { filled = λ e. refl; on = rw (zero-add q) (rw (sub_self t) refl) })

    room-drew : (m : State) (d : Drawn) (r : ℕ) → ((p : ℕ) → Room bs t (draw_state m) p)
        → Roomier bs t q (suc r) (drew d r (λ p. feed_from (draw_state m) bs t p)) (drew d (r + q) (λ p. feed_from (draw_state m) bs t p))
    unfolding drew
    room-drew m (drawn.Stroke s) r h = stored s bs t q r _ _ (h r)
    room-drew m drawn.Hidden r h = rw (sym (suc-add r q)) (h (suc r))
    room-drew m drawn.Idle r h = rw (sym (suc-add r q)) (h (suc r))

    room-draw : (m : State) (r : ℕ) → 0 < waiting m.work → ((p : ℕ) → Room bs t (draw_state m) p) → Room bs t m (suc r)
    room-draw m r w h = rw (suc-add r q) (rw (at-draw m bs t r w) (rw (at-draw m bs t (r + q) w) (room-drew m (draw_answer m) r h)))

  -- from a later byte on
  later : (b : ℕ) (bs : List ℕ) (t r : ℕ) (f g : Feed) → t + 1 ≤ f.taken → Roomier bs (t + 1) q r f g → Roomier (b ∷ bs) t q r f g
  later b bs t r f g le h = record { filled = h.filled; on = rw (after f.taken le) h.on }
    where
      after : (k : ℕ) → t + 1 ≤ k → k - t ≡ suc (k - (t + 1))
      after k le = omega (arith, le)

  room-byte : (b : ℕ) (bs : List ℕ) (t : ℕ) → ((m : State) (r : ℕ) → Room bs (t + 1) m r) → (m : State) (r : ℕ) → waiting m.work ≡ 0 → Room (b ∷ bs) t m r
  room-byte b bs t next m r w = by_number (eqb (take_number m b) 0) refl
    where
      by_number : (z : Bool) → eqb (take_number m b) 0 ≡ z → Room (b ∷ bs) t m r
      by_number true e =
          let n = eqb-true (take_number m b) 0 e in
          rw (at_byte m t r w b bs n) (rw (at_byte m t (r + q) w b bs n) (later b bs t r _ _ (feed-place (take_state m b) bs (t + 1) r).0 (next (take_state m b) r)))
      by_number false e =
          let n = eqb-false (take_number m b) 0 e in
          rw (at-refused m t r w b bs n) (rw (at-refused m t (r + q) w b bs n) (stopped (b ∷ bs) t q r _ (take-not-full m b)))

  room : (bs : List ℕ) (t : ℕ) (m : State) (r : ℕ) → Room bs t m r
  room [] t =
      by-waiting (Room [] t) (λ m r w. rw (at-end m t r w) (rw (at-end m t (r + q) w) (stopped [] t q r (stop m t 0) (λ e. omega (arith, e)))))
      (room-full [] t) (room-draw [] t)
  room (b ∷ bs) t = by-waiting (Room (b ∷ bs) t) (room-byte b bs t (room bs (t + 1))) (room-full (b ∷ bs) t) (room-draw (b ∷ bs) t)

-- r records and then q more
pub feed-room : (m : State) (bs : List ℕ) (t r q : ℕ) → Roomier bs t q r (feed_from m bs t r) (feed_from m bs t (r + q))
feed-room m bs t r q = room q bs t m r

-- ---- bytes

module _ (bs : List ℕ) where
  -- f is what feed does with some bytes and r records, and g what it does with bs after them: the same, or it goes on where f took them all
  abbrev Longer : ℕ → Feed → Feed → Type 0
  Longer r f g = g ≡ cond (eqb f.number 0) (store_all f.strokes (feed_from f.state bs f.taken (r - length f.strokes))) f

  more-strokes : (s : Stroke) (r : ℕ) (f g : Feed) → Longer r f g → Longer (suc r) (store s f) (store s g)
  more-strokes s r f g h =
      rw (fewer r (length f.strokes)) (ap (store s) h ∙ store-cond s (eqb f.number 0) (store_all f.strokes (feed_from f.state bs f.taken (r - length f.strokes))) f)
    where
      fewer : (r k : ℕ) → suc r - suc k ≡ r - k
      fewer r k = omega arith

  module _ (a : List ℕ) (t : ℕ) where
    abbrev Append : State → ℕ → Type 0
    Append m r = Longer r (feed_from m a t r) (feed_from m (a ++ bs) t r)

    append-full : (m : State) → 0 < waiting m.work → Append m 0
    append-full m w = rw (at-full m a t w) (rw (at-full m (a ++ bs) t w) refl)

    append-drew : (m : State) (d : Drawn) (r : ℕ) → ((p : ℕ) → Append (draw_state m) p)
        → Longer (suc r) (drew d r (λ p. feed_from (draw_state m) a t p)) (drew d r (λ p. feed_from (draw_state m) (a ++ bs) t p))
    unfolding drew
    append-drew m (drawn.Stroke s) r h = more-strokes s r (feed_from (draw_state m) a t r) (feed_from (draw_state m) (a ++ bs) t r) (h r)
    append-drew m drawn.Hidden r h = h (suc r)
    append-drew m drawn.Idle r h = h (suc r)

    append-draw : (m : State) (r : ℕ) → 0 < waiting m.work → ((p : ℕ) → Append (draw_state m) p) → Append m (suc r)
    append-draw m r w h = rw (at-draw m a t r w) (rw (at-draw m (a ++ bs) t r w) (append-drew m (draw_answer m) r h))

  append-byte : (b : ℕ) (a : List ℕ) (t : ℕ) → ((m : State) (r : ℕ) → Append a (t + 1) m r) → (m : State) (r : ℕ) → waiting m.work ≡ 0 → Append (b ∷ a) t m r
  append-byte b a t next m r w = by_number (eqb (take_number m b) 0) refl
    where
      by_number : (z : Bool) → eqb (take_number m b) 0 ≡ z → Append (b ∷ a) t m r
      by_number true e =
          let n = eqb-true (take_number m b) 0 e in
          rw (at_byte m t r w b a n) (rw (at_byte m t r w b (a ++ bs) n) (next (take_state m b) r))
      by_number false e =
          let n = eqb-false (take_number m b) 0 e in
          rw (at-refused m t r w b a n) (rw (at-refused m t r w b (a ++ bs) n) (rw e refl))

  append : (a : List ℕ) (t : ℕ) (m : State) (r : ℕ) → Append a t m r
  append [] t = by-waiting (Append [] t) (λ m r w. rw (at-end m t r w) (rw (sub-zero r) refl)) (append-full [] t) (append-draw [] t)
  append (b ∷ a) t = by-waiting (Append (b ∷ a) t) (append-byte b a t (append a (t + 1))) (append-full (b ∷ a) t) (append-draw (b ∷ a) t)

-- bytes a and then bs
pub feed-append : (m : State) (a bs : List ℕ) (t r : ℕ) → let f = feed_from m a t r in
    feed_from m (a ++ bs) t r ≡ cond (eqb f.number 0) (store_all f.strokes (feed_from f.state bs f.taken (r - length f.strokes))) f
feed-append m a bs t r = append bs a t m r
