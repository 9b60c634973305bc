-- What a text means to feed: from the events that the reader tells of it to the strokes that feed stores.
-- This is the one place here that goes byte by byte; what refuses a byte (document 01 and 02, number 20 ..) is met here alone.
use Rattle.std.specs.Prelude.{List, [], ◌∷◌, ◌++◌, ◌≡◌, ℕ, suc, ◌+◌, ◌<◌, length}
use Rattle.std.proofs.Math.Path.{refl}
use Rattle.std.proofs.Common.{ap, ◌∙◌, zero-add, suc-add}
use native.Mathlib.Omega.{arith}
use Rattle.clip.specs.declared.Point.{Point}
use Rattle.reader.specs.declared.Event.{Event}
use Rattle.reader.specs.declared.Event.TheVariants.{Nothing}
use Rattle.reader.specs.declared.Reader.{Reader}
use Rattle.reader.specs.Step.{step_of}
use Rattle.reader.specs.Stream.{◌telling◌, Means, done, quiet, loud}
use Rattle.hpgl.specs.declared.Action.{Action}
use Rattle.hpgl.specs.declared.Action.TheVariants.{Keep, Line}
use Rattle.hpgl.specs.declared.Acted.{Acted}
use Rattle.hpgl.specs.declared.Core.{Core}
use Rattle.hpgl.specs.declared.Store.{Store}
use Rattle.hpgl.specs.declared.State.{State}
use Rattle.hpgl.specs.declared.Stroke.{Stroke}
use Rattle.hpgl.specs.declared.Work.TheVariants as work
use Rattle.hpgl.specs.declared.Drawn.TheVariants as drawn
use Rattle.hpgl.specs.Rules as rules
use Rattle.hpgl.specs.Replies.{remembered, remembering}
use Rattle.hpgl.specs.Machine.{waiting, replied, replying, occupied, stored, queued, reader_after, applied, acted, take_state, take_number, shown, work_after, draw_work, draw_state, draw_answer}
use Rattle.feeding.specs.Feed.{Feed, feed_from, store}
use Rattle.feeding.proofs.FeedLaws.{at_byte, at-stroke}
use Rattle.feeding.proofs.PartsOfFeed.{store_all}

-- carried out, with this core and this action
abbrev pub does : Core → Action → Acted
does d a = record { core = d; action = a; number = 0 }

-- The events are carried out one after the other, none is refused, and these strokes are drawn: each event makes nothing wait, or one line, which shows.
pub data Carries : Core → List Event → List Stroke → Core → Type 0 where
  none : {c : Core} → Carries c [] [] c
  keep :
      {c d f : Core} {e : Event} {es : List Event} {ss : List Stroke}
      → rules.act_on c e ≡ does d Keep
      → Carries d es ss f
      → Carries c (e ∷ es) ss f
  line :
      {c d f : Core} {e : Event} {es : List Event} {ss : List Stroke} {a b : Point} {s : Stroke}
      → rules.act_on c e ≡ does d (Line a b)
      → shown d a b ≡ drawn.Stroke s
      → Carries d es ss f
      → Carries c (e ∷ es) (s ∷ ss) f

pub carries-then : {c d f : Core} {xs ys : List Event} {ss ts : List Stroke} → Carries c xs ss d → Carries d ys ts f → Carries c (xs ++ ys) (ss ++ ts) f
carries-then none k = k
carries-then (keep e h) k = keep e (carries-then h k)
carries-then (line e i h) k = line e i (carries-then h k)

module _ (st : Store) where
  -- a machine at which nothing waits
  abbrev pub resting : Reader → Core → State
  resting r c = record { reader = r; core = c; store = st; work = work.Nothing }

  module _ (r q : Reader) (c d : Core) (b : ℕ) (e : Event) (step : step_of r b ≡ q telling e) where
    -- a byte whose event makes nothing wait
    module _ (act : rules.act_on c e ≡ does d Keep) where
      kept-number : take_number (resting r c) b ≡ 0
      unfolding take_number occupied waiting replying replied acted rules.noted
      kept-number = rw step (rw act refl)

      kept-state : take_state (resting r c) b ≡ resting q d
      unfolding take_state occupied waiting replying replied acted rules.noted rules.noting remembering remembered applied stored queued reader_after
      kept-state = rw step (rw act refl)

    -- a byte whose event makes a line wait
    module _ (p t : Point) (act : rules.act_on c e ≡ does d (Line p t)) where
      abbrev lined : State
      lined = record { reader = q; core = d; store = st; work = work.Line p t }

      line-number : take_number (resting r c) b ≡ 0
      unfolding take_number occupied waiting replying replied acted rules.noted
      line-number = rw step (rw act refl)

      line-state : take_state (resting r c) b ≡ lined
      unfolding take_state occupied waiting replying replied acted rules.noted rules.noting remembering remembered applied stored queued reader_after
      line-state = rw step (rw act refl)

      line-waits : 0 < waiting lined.work
      unfolding waiting
      line-waits = omega arith

      line-shown : (s : Stroke) → shown d p t ≡ drawn.Stroke s → draw_answer lined ≡ drawn.Stroke s
      unfolding draw_answer draw_work
      line-shown s h = h

      line-drawn : draw_state lined ≡ resting q d
      unfolding draw_state work_after
      line-drawn = refl

  rests : waiting work.Nothing ≡ 0
  unfolding waiting
  rests = refl

  nothing-done : (c : Core) → rules.act_on c Nothing ≡ does c Keep
  unfolding rules.act_on rules.done
  nothing-done c = refl

  module _ (rest : List ℕ) (room : ℕ) where
    -- after the strokes ss, with the bytes up to u taken
    abbrev after : List Stroke → Reader → Core → ℕ → Feed
    after ss q f u = store_all ss (feed_from (resting q f) rest u room)

    abbrev Told : Reader → Core → List ℕ → ℕ → List Stroke → Reader → Core → Type 0
    Told r c bs t ss q f = feed_from (resting r c) (bs ++ rest) t (length ss + room) ≡ after ss q f (t + length bs)

    -- a byte more before them
    further : (ss : List Stroke) (q : Reader) (f : Core) (t : ℕ) (bs : List ℕ) → after ss q f (t + 1 + length bs) ≡ after ss q f (t + suc (length bs))
    further ss q f t bs = let e : t + 1 + length bs ≡ t + suc (length bs) = omega arith in ap (after ss q f) e

    module _ (r i q : Reader) (c d f : Core) (e : Event) (b : ℕ) (bs : List ℕ) (t : ℕ) (ss : List Stroke) (step : step_of r b ≡ i telling e) where
      told-keep : rules.act_on c e ≡ does d Keep → Told i d bs (t + 1) ss q f → Told r c (b ∷ bs) t ss q f
      told-keep act h =
          at_byte (resting r c) t (length ss + room) rests b (bs ++ rest) (kept-number r i c d b e step act)
          ∙ ap (λ (m : State). feed_from m (bs ++ rest) (t + 1) (length ss + room)) (kept-state r i c d b e step act)
          ∙ h ∙ further ss q f t bs

      told_line : (p x : Point) (s : Stroke) → rules.act_on c e ≡ does d (Line p x) → shown d p x ≡ drawn.Stroke s → Told i d bs (t + 1) ss q f → Told r c (b ∷ bs) t (s ∷ ss) q f
      told_line p x s act see h =
          let m = lined r i c d b e step p x act in
          at_byte (resting r c) t (suc (length ss) + room) rests b (bs ++ rest) (line-number r i c d b e step p x act)
          ∙ ap (λ (m : State). feed_from m (bs ++ rest) (t + 1) (suc (length ss) + room)) (line-state r i c d b e step p x act)
          ∙ ap (feed_from m (bs ++ rest) (t + 1)) (suc-add (length ss) room)
          ∙ at-stroke m (bs ++ rest) (t + 1) (length ss + room) s (line-waits r i c d b e step p x act) (line-shown r i c d b e step p x act s see)
          ∙ ap (λ (m : State). store s (feed_from m (bs ++ rest) (t + 1) (length ss + room))) (line-drawn r i c d b e step p x act)
          ∙ ap (store s) (h ∙ further ss q f t bs)

    -- The lemma: bytes that mean events that are carried out are all taken, and feed stores their strokes.
    pub feed-means :
        {r q : Reader} {bs : List ℕ} {es : List Event} {c f : Core} {ss : List Stroke} (t : ℕ)
        → Means r bs es q → Carries c es ss f → Told r c bs t ss q f
    feed-means {r} {c = c} t done none =
        let e : t ≡ t + 0 = omega arith in
        (λ i. feed_from (resting r c) rest (e i) (zero-add room i))
    feed-means {r} {q} {c = c} {f} {ss} t (quiet {q = i} {b = b} {bs = bs} step h) k =
        told-keep r i q c c f Nothing b bs t ss step (nothing-done c) (feed-means (t + 1) h k)
    feed-means {r} {q} {c = c} {f} {ss} t (loud {q = i} {e = e} {b = b} {bs = bs} l step h) (keep {d = d} act k) =
        told-keep r i q c d f e b bs t ss step act (feed-means (t + 1) h k)
    feed-means {r} {q} {c = c} {f} t (loud {q = i} {e = e} {b = b} {bs = bs} l step h) (line {d = d} {ss = ss} {a = p} {b = x} {s = s} act see k) =
        told_line r i q c d f e b bs t ss step p x s act see (feed-means (t + 1) h k)
