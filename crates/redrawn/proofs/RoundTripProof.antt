-- The proof of the claim: the events that the reader tells of the text draw the strokes, one after the other, and `feed-means` takes that to what feed stores.
use Rattle.std.specs.Prelude.{Bool, cond, ◌≡◌, refl, ℕ, ◌+◌, ◌-◌, ◌≤◌, eqb, pos, length, take, drop}
use Rattle.std.proofs.Math.Bool.{true, false}
use mathlib.Core.List.{List, [], ◌∷◌, ◌++◌, append-nil}
use Rattle.std.proofs.Common.{sym, ap, ◌∙◌, subst, zero-add, arith, eqb-true}
use Rattle.std.proofs.Math.Seq.{take-append_seam}
use Rattle.exact.specs.Whole.{ord}
use Rattle.exact.specs.Int16.{int16, int16-iff}
use Rattle.clip.specs.declared.Rect.{Rect}
use Rattle.mnemonics.specs.Table.{IN, SP, PU, PD}
use Rattle.reader.specs.declared.Event.{Event}
use Rattle.reader.specs.declared.Event.TheVariants.{Named, Pair, Ended}
use Rattle.reader.specs.Reader.{none_of, stored_of, fresh_reader}
use Rattle.numerals.specs.Number.{start_of}
use Rattle.hpgl.specs.declared.Core.{Core}
use Rattle.hpgl.specs.declared.Position.{Position}
use Rattle.hpgl.specs.declared.Store.{Store}
use Rattle.hpgl.specs.declared.Stroke.{Stroke}
use Rattle.hpgl.specs.Place.{rest_at, page_point}
use Rattle.hpgl.specs.Rules.{origin, fresh_settings, fresh_carriage, fresh_core}
use Rattle.hpgl.specs.Machine.{waiting, hard_limits, fresh_state}
use Rattle.hpgl.specs.Valid.{Every, more}
use Rattle.feeding.specs.Feed.{Feed, stop, feed_from, feed_of}
use Rattle.feeding.proofs.FeedLaws.{at-end}
use Rattle.feeding.proofs.PartsOfFeed.{store_all}
use Rattle.redrawn.specs.Redrawn.{number_of, written_of, length_in, output_of, all_writable, start_text, pen_text, line_text, change_text, stroke_text, strokes_text, text_of}
use Rattle.redrawn.specs.RedrawnLaws.{Writable, writable-is, writable-first}
use Rattle.redrawn.proofs.Answered.{answer-told}
use Rattle.redrawn.proofs.FirstStroke.{text-from}
use Rattle.redrawn.specs.Numerals.{kept}
use Rattle.redrawn.specs.Reading.{Always, always-none, always-then, reads-start, reads-pen, reads_up, reads-down, pair}
use Rattle.redrawn.specs.FeedMeans as carries
use Rattle.redrawn.specs.FeedMeans.{Carries, carries-then, feed-means}
use Rattle.redrawn.specs.Drafting.{drafting, to, named_in, ended-in, named-sp, ended-sp, named-pu, named-pd, moved, lined, seen}
use Rattle.redrawn.specs.Causes.{all-fit-test}
use Rattle.redrawn.proofs.Refused.{taken-0}
use Rattle.redrawn.specs.RoundTrip.{EndsIn, ReadsBack, RoundTrip, WrittenBack}

-- ---- the events of the text, and that they draw the strokes

abbrev pen_events : ℕ → List Event
pen_events p = Named SP ∷ Ended SP (stored_of none_of (kept (pos p))) ∷ []

abbrev change_events : ℕ → ℕ → List Event
change_events before p = cond (eqb p before) [] (pen_events p)

abbrev line_events : Stroke → List Event
line_events s = Named PU ∷ Pair (pair s.x0 s.y0) ∷ Named PD ∷ Pair (pair s.x1 s.y1) ∷ []

abbrev strokes_events : ℕ → List Stroke → List Event
strokes_events before [] = []
strokes_events before (s ∷ ss) = (change_events before s.pen ++ line_events s) ++ strokes_events s.pen ss

-- the pen of the last stroke
abbrev last_pen : ℕ → List Stroke → ℕ
last_pen before [] = before
last_pen before (s ∷ ss) = last_pen s.pen ss

-- a pen's number is one that the reader takes
pen-fits : (p : ℕ) → p ≤ 8 → int16 (pos p) ≡ true
pen-fits p l = (int16-iff (pos p)).1 (omega (arith, ord), omega (arith, ord))

module _ (s : Stroke) (w : Writable s) where
  line_read : Always (line_text s) (line_events s)
  unfolding line_text
  line_read =
      always-then _ _ (Named PU ∷ Pair (pair s.x0 s.y0) ∷ []) (Named PD ∷ Pair (pair s.x1 s.y1) ∷ [])
      (reads_up s.x0 s.y0 w.x0 w.y0) (reads-down s.x1 s.y1 w.x1 w.y1)

  pen-read : Always (pen_text s.pen) (pen_events s.pen)
  pen-read = reads-pen s.pen (pen-fits s.pen w.most)

  change-read : (before : ℕ) → Always (change_text before s.pen) (change_events before s.pen)
  unfolding change_text
  change-read before = go (eqb s.pen before)
    where
      go : (t : Bool) → Always (cond t [] (pen_text s.pen)) (cond t [] (pen_events s.pen))
      go true = always-none
      go false = pen-read

  stroke-read : (before : ℕ) → Always (stroke_text before s) (change_events before s.pen ++ line_events s)
  unfolding stroke_text
  stroke-read before = always-then _ _ (change_events before s.pen) (line_events s) (change-read before) line_read

strokes-read : (before : ℕ) (ss : List Stroke) → all_writable ss ≡ true → Always (strokes_text before ss) (strokes_events before ss)
unfolding strokes_text
strokes-read before [] h = always-none
strokes-read before (s ∷ ss) h =
    let w = writable-first s ss h in
    always-then _ _ (change_events before s.pen ++ line_events s) (strokes_events s.pen ss) (stroke-read s (writable-is s w.0) before) (strokes-read s.pen ss w.1)

module _ (h : Rect) where
  -- a machine that has drawn up to here
  record Drawn (before : ℕ) (es : List Event) (ss : List Stroke) (c : Core) : Type 0 where
    at : Position
    down : Bool
    changed : Bool
    carried : Carries c es ss (drafting h before at down changed)

  module _ (s : Stroke) (w : Writable s) (i : EndsIn h s) where
    line-carried : (at : Position) (down changed : Bool) → Carries (drafting h s.pen at down changed) (line_events s) (s ∷ []) (drafting h s.pen (to h s.x1 s.y1) true false)
    line-carried at down changed =
        carries.keep (named-pu h s.pen at down changed)
        (carries.keep (moved h s.pen at down s.x0 s.y0 w.x0 w.y0)
        (carries.keep (named-pd h s.pen (to h s.x0 s.y0) false false)
        (carries.line (lined h s.pen (to h s.x0 s.y0) true s.x1 s.y1 w.least w.x1 w.y1) (seen h s i.start i.end) carries.none)))

    pen-carried : (before : ℕ) (at : Position) (down changed : Bool) → Carries (drafting h before at down changed) (pen_events s.pen) [] (drafting h s.pen at down changed)
    pen-carried before at down changed =
        carries.keep (named-sp h before at down changed) (carries.keep (ended-sp h before at down changed s.pen w.most) carries.none)

    change-carried : (before : ℕ) (at : Position) (down changed : Bool) → Carries (drafting h before at down changed) (change_events before s.pen) [] (drafting h s.pen at down changed)
    change-carried before at down changed = go (eqb s.pen before) refl
      where
        go : (t : Bool) → eqb s.pen before ≡ t → Carries (drafting h before at down changed) (cond t [] (pen_events s.pen)) [] (drafting h s.pen at down changed)
        go true e = subst (λ (p : ℕ). Carries (drafting h before at down changed) [] [] (drafting h p at down changed)) (sym (eqb-true s.pen before e)) carries.none
        go false e = pen-carried before at down changed

  strokes-carried : (before : ℕ) (ss : List Stroke) → all_writable ss ≡ true → Every (EndsIn h) ss → (at : Position) (down changed : Bool) →
      Drawn (last_pen before ss) (strokes_events before ss) ss (drafting h before at down changed)
  strokes-carried before [] k e at down changed = record { at = at; down = down; changed = changed; carried = carries.none }
  strokes-carried before (s ∷ ss) k (more i e) at down changed =
      let w = writable-first s ss k in
      let v = writable-is s w.0 in
      let r = strokes-carried s.pen ss w.1 e (to h s.x1 s.y1) true false in
      record {
        at = r.at;
        down = r.down;
        changed = r.changed;
        carried = carries-then (carries-then (change-carried s v i before at down changed) (line-carried s v i at down changed)) r.carried;
      }

-- ---- the whole text

module _ (h : Rect) (ss : List Stroke) (k : all_writable ss ≡ true) where
  abbrev events : List Event
  events = (Named IN ∷ Ended IN none_of ∷ []) ++ strokes_events 0 ss

  text-read : Always (text_of ss) events
  text-read = subst (λ (l : List ℕ). Always l events) (sym (text-from ss k)) (always-then start_text (strokes_text 0 ss) (Named IN ∷ Ended IN none_of ∷ []) (strokes_events 0 ss) reads-start (strokes-read 0 ss k))

  text-carried : Every (EndsIn h) ss → Drawn h (last_pen 0 ss) events ss (fresh_core h)
  unfolding fresh_core fresh_carriage
  text-carried e =
      let r = strokes-carried h 0 ss k e (rest_at (page_point (fresh_settings h) (rest_at origin))) false false in
      record {
        at = r.at;
        down = r.down;
        changed = r.changed;
        carried = carries.keep (named_in h 0 (rest_at origin) false false) (carries.keep (ended-in h 0 (rest_at origin) false false) r.carried);
      }

-- ---- the claim

fed : (r : Rect) (ss : List Stroke) → all_writable ss ≡ true → Every (EndsIn (hard_limits r)) ss → (spare : ℕ) → ReadsBack r ss (text_of ss) (length ss + spare)
unfolding fresh_state fresh_reader waiting
fed r ss k e spare =
    let h = hard_limits r in
    let st : Store = (fresh_state r).store in
    let c = text-carried h ss k e in
    let m = text-read h ss k IN none_of (start_of false) in
    let told = feed-means st [] spare 0 m.means c.carried in
    let whole : feed_of (fresh_state r) (text_of ss) (length ss + spare) ≡ store_all ss (stop _ (0 + length (text_of ss)) 0) =
    ap (λ (l : List ℕ). feed_from (fresh_state r) l 0 (length ss + spare)) (sym (append-nil (text_of ss))) ∙ told ∙ ap (store_all ss) (at-end _ (0 + length (text_of ss)) spare refl) in
    (ap (λ (f : Feed). f.strokes) whole ∙ append-nil ss, ap (λ (f : Feed). f.taken) whole ∙ zero-add (length (text_of ss)), ap (λ (f : Feed). f.number) whole)

kept-writable : (r : Rect) (ss : List Stroke) → all_writable ss ≡ true → Every (EndsIn (hard_limits r)) ss → (room : ℕ) → length ss ≤ room → ReadsBack r ss (text_of ss) room
kept-writable r ss k e room l =
    let enough : length ss + (room - length ss) ≡ room = omega arith in
    subst (ReadsBack r ss (text_of ss)) enough (fed r ss k e (room - length ss))

pub round_trip : RoundTrip
round_trip r ss f e room l = kept-writable r ss (all-fit-test ss f) e room l

taken-writable : (ss : List Stroke) (room : ℕ) → number_of ss room ≡ 0 → all_writable ss ≡ true
taken-writable ss room h = all-fit-test ss ((taken-0 ss room).0 h).0

pub written_back : WrittenBack
unfolding output_of
written_back r ss out n e room l =
    let long : length_in (written_of ss (length out)) ≡ length (text_of ss) = (answer-told ss (length out)).1 ∙ ap (λ (k : ℕ). cond (eqb k 0) (length (text_of ss)) 0) n in
    let whole : take (length_in (written_of ss (length out))) (output_of ss out) ≡ text_of ss = rw (long, n) (take-append_seam (text_of ss) (drop (length (text_of ss)) out)) in
    subst (λ (t : List ℕ). ReadsBack r ss t room) (sym whole) (kept-writable r ss (taken-writable ss (length out) n) e room l)
