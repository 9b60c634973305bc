-- A list of strokes read twice, stroke by stroke, by one walk: first it is judged, then it is written. What each step leaves, and that the steps together are the answer and
-- the output of document 02's CR 6, however the strokes come: as records, or as numbers. A writer that gets its strokes one by one goes by begin, next and turned (drafts.rt),
-- which are these steps; put_list goes by a pass for each test, and one for the text.
use Rattle.std.specs.Prelude.{Bool, ◌≡◌, Result, ℕ, ◌+◌, ◌-◌, ◌≤◌, ◌<◌, leb, eqb}
use Rattle.std.proofs.Math.Bool.{true, false, cond}
use Rattle.std.proofs.Common.{true≢false, ◌∙◌, length-append}
use mathlib.Core.List.{List, [], ◌∷◌, ◌++◌}
use Rattle.std.proofs.Math.Path.{refl, sym, ap}
use native.Mathlib.Omega.{arith}
use borrow.Author.Tests.{leb-true, leb-false, le-leb, lt-leb, eqb-true, eqb-false, ne_eqb}
use Rattle.std.proofs.Math.ListN.{length}
use Rattle.std.proofs.Math.Seq.{sets, length-sets}
use Rattle.decimals.specs.Puts.{Puts, sets-append}
use Rattle.hpgl.specs.declared.Stroke.{Stroke}
use Rattle.redrawn.specs.declared.Refusal.{Refusal}
use Rattle.redrawn.specs.Redrawn.{not_writable, too_short, start_text, text_of, fits_in, number_of, written_of, length_in, number_in, output_of, writable, all_writable, stroke_text, strokes_text}
use Rattle.redrawn.proofs.FirstStroke.{text-from, text-long}
use Rattle.redrawn.proofs.Answered.{answer-told}
use Rattle.redrawing.specs.declared.drafts.Draft.{Draft}
use Rattle.redrawing.specs.declared.drafts.Written.{Written}
use Rattle.redrawing.specs.RedrawingLaws.{not_written, no_room, all-written, puts-front}

-- ---- the steps

-- an answer as two numbers: how many bytes are written, and 02's number
abbrev pub told : Result ℕ Refusal → Written
told r = record { length = length_in r; number = number_in r }

abbrev pub told_of : List Stroke → ℕ → Written
told_of ss room = told (written_of ss room)

-- bytes that are written, where none is refused
abbrev pub long : ℕ → Written
long n = record { length = n; number = 0 }

abbrev pub refused : ℕ → Written
refused k = record { length = 0; number = k }

-- so many bytes, if the output has room
abbrev pub capped : ℕ → ℕ → Written
capped n room = cond (leb n room) (long n) (refused too_short)

-- so many more
abbrev pub added_of : ℕ → ℕ → ℕ → Written
added_of n more room = capped (n + more) room

-- a stroke more; "32 first"
abbrev pub judged_of : Written → ℕ → Stroke → ℕ → Written
judged_of w before s room =
    cond (writable s) (cond (eqb w.number 0) (added_of w.length (length (stroke_text before s)) room) w) (refused not_writable)

abbrev pub begun : ℕ → Draft
begun room = record { judging = true; at = 0; before = 0; written = added_of 0 (length start_text) room }

-- the answer so far with a stroke more
abbrev pub written_more : Draft → Stroke → ℕ → Written
written_more d s room =
    cond d.judging (judged_of d.written d.before s room) (record { length = d.written.length + length (stroke_text d.before s); number = d.written.number })

abbrev pub next_of : Draft → Stroke → ℕ → Draft
next_of d s room = record { judging = d.judging; at = d.at + 1; before = s.pen; written = written_more d s room }

-- the output with a stroke more
abbrev pub next_out : Draft → Stroke → List ℕ → List ℕ
next_out d s out = cond d.judging out (sets out d.written.length (stroke_text d.before s))

-- judged to its end: it is written from its start on, or refused
abbrev pub turned_of : Draft → Draft
turned_of d = cond (eqb d.written.number 0) (record { judging = false; at = 0; before = 0; written = long (length start_text) }) (record { judging = false; at = d.at; before = d.before; written = d.written })

abbrev pub turned_out : Draft → List ℕ → List ℕ
turned_out d out = cond (eqb d.written.number 0) (sets out 0 start_text) out

-- ---- what a step asks: no length past the output's

abbrev pub RoomFor : Draft → Stroke → ℕ → Type 0
RoomFor d s room = (d.written.length ≤ room) × (d.judging ≡ false → d.written.length + length (stroke_text d.before s) ≤ room)

abbrev pub RoomToStart : Draft → ℕ → Type 0
RoomToStart d room = d.written.number ≡ 0 → length start_text ≤ room

-- ---- judged to the end

unfoldable pub judge_from : List Stroke → ℕ → Written → ℕ → Written
judge_from [] before w room = w
judge_from (s ∷ ss) before w room = judge_from ss s.pen (judged_of w before s room) room

same-either : (z : Bool) (w : Written) → cond z w w ≡ w
same-either true w = refl
same-either false w = refl

capped-within : (n room : ℕ) → (capped n room).length ≤ room
capped-within n room = go (leb n room) refl
  where
    go : (z : Bool) → leb n room ≡ z → (cond z (long n) (refused too_short)).length ≤ room
    go true e = leb-true n room e
    go false e = omega arith

judged-within : (w : Written) (before : ℕ) (s : Stroke) (room : ℕ) → w.length ≤ room → (judged_of w before s room).length ≤ room
judged-within w before s room h = go (writable s) (eqb w.number 0)
  where
    go : (y z : Bool) → (cond y (cond z (added_of w.length (length (stroke_text before s)) room) w) (refused not_writable)).length ≤ room
    go true true = capped-within (w.length + length (stroke_text before s)) room
    go true false = h
    go false z = omega arith

module _ (room : ℕ) where
  -- once refused, 33 may become 32, and nothing else
  abbrev Refused : List Stroke → Type 0
  Refused ss = (before k : ℕ) → (k ≡ 0 → ⊥) → judge_from ss before (refused k) room ≡ cond (all_writable ss) (refused k) (refused not_writable)

  refused-step : (s : Stroke) (ss : List Stroke) → Refused ss → (z : Bool) → writable s ≡ z → (before k : ℕ) → (k ≡ 0 → ⊥)
      → judge_from (s ∷ ss) before (refused k) room ≡ cond (all_writable (s ∷ ss)) (refused k) (refused not_writable)
  unfolding judge_from all_writable
  refused-step s ss ih true e before k h = rw (e, ne_eqb k 0 h) (ih s.pen k h)
  refused-step s ss ih false e before k h = rw e (ih s.pen not_writable (λ f. omega (arith, f)) ∙ same-either (all_writable ss) (refused not_writable))

  refused-on : (ss : List Stroke) → Refused ss
  unfolding judge_from all_writable
  refused-on [] before k h = refl
  refused-on (s ∷ ss) before k h = refused-step s ss (refused-on ss) (writable s) refl before k h

  -- else it is 32 where a stroke cannot be written, and then the length decides
  abbrev Counted : List Stroke → Type 0
  Counted ss = (before n : ℕ) → n ≤ room → judge_from ss before (long n) room ≡ cond (all_writable ss) (capped (n + length (strokes_text before ss)) room) (refused not_writable)

  counted-some : (s : Stroke) (ss : List Stroke) → Counted ss → (before n : ℕ) (z : Bool) → leb (n + length (stroke_text before s)) room ≡ z
      → judge_from ss s.pen (cond z (long (n + length (stroke_text before s))) (refused too_short)) room
      ≡ cond (all_writable ss) (capped (n + length (stroke_text before s ++ strokes_text s.pen ss)) room) (refused not_writable)
  counted-some s ss ih before n true e =
      let k = length (stroke_text before s) in
      let more = n + k + length (strokes_text s.pen ss) in
      let sum : more ≡ n + length (stroke_text before s ++ strokes_text s.pen ss) = omega (arith, length-append (stroke_text before s) (strokes_text s.pen ss)) in
      ih s.pen (n + k) (leb-true (n + k) room e) ∙ ap (λ (j : ℕ). cond (all_writable ss) (capped j room) (refused not_writable)) sum
  counted-some s ss ih before n false e =
      let all = length (stroke_text before s ++ strokes_text s.pen ss) in
      let past : room < n + all = omega (arith, leb-false (n + length (stroke_text before s)) room e, length-append (stroke_text before s) (strokes_text s.pen ss)) in
      refused-on ss s.pen too_short (λ f. omega (arith, f)) ∙ rw (lt-leb (n + all) room past) refl

  counted_step : (s : Stroke) (ss : List Stroke) → Counted ss → (z : Bool) → writable s ≡ z → (before n : ℕ) → n ≤ room
      → judge_from (s ∷ ss) before (long n) room ≡ cond (all_writable (s ∷ ss)) (capped (n + length (strokes_text before (s ∷ ss))) room) (refused not_writable)
  unfolding judge_from all_writable strokes_text
  counted_step s ss ih true e before n h = rw e (counted-some s ss ih before n (leb (n + length (stroke_text before s)) room) refl)
  counted_step s ss ih false e before n h = rw e (refused-on ss s.pen not_writable (λ f. omega (arith, f)) ∙ same-either (all_writable ss) (refused not_writable))

  counted-on : (ss : List Stroke) → Counted ss
  unfolding judge_from all_writable strokes_text
  counted-on [] before n h = let e : n ≡ n + 0 = omega arith in sym (rw (le-leb n room h) refl) ∙ ap (λ (j : ℕ). capped j room) e
  counted-on (s ∷ ss) before n h = counted_step s ss (counted-on ss) (writable s) refl before n h

-- so judged to its end a list has its answer
module _ (ss : List Stroke) (out : List ℕ) where
  abbrev sum : ℕ
  sum = length start_text + length (strokes_text 0 ss)

  answered : (z : Bool) → all_writable ss ≡ z → cond z (capped sum (length out)) (refused not_writable) ≡ told_of ss (length out)
  unfolding fits_in
  answered true e = by-room (leb sum (length out)) refl
    where
      long_as : length (text_of ss) ≡ sum
      long_as = text-long ss e

      by-room : (y : Bool) → leb sum (length out) ≡ y → cond y (long sum) (refused too_short) ≡ told_of ss (length out)
      by-room true f = ap long (sym long_as) ∙ ap told (all-written ss out e (ap (λ (j : ℕ). leb j (length out)) long_as ∙ f)).0
      by-room false f = ap told (no_room ss out e (ap (λ (j : ℕ). leb j (length out)) long_as ∙ f)).0
  answered false e = ap told (not_written ss out e).0

  began : (z : Bool) → leb (length start_text) (length out) ≡ z → judge_from ss 0 (cond z (long (length start_text)) (refused too_short)) (length out) ≡ cond (all_writable ss) (capped sum (length out)) (refused not_writable)
  began true e = counted-on (length out) ss 0 (length start_text) (leb-true (length start_text) (length out) e)
  began false e =
      let past : length out < sum = omega (arith, leb-false (length start_text) (length out) e) in
      refused-on (length out) ss 0 too_short (λ f. omega (arith, f)) ∙ rw (lt-leb sum (length out) past) refl

  pub all-judged : judge_from ss 0 (added_of 0 (length start_text) (length out)) (length out) ≡ told_of ss (length out)
  all-judged = began (leb (length start_text) (length out)) refl ∙ answered (all_writable ss) refl

-- ---- how far: the strokes from the i-th on are `from i`, and there are `count`

module _ (from : ℕ → List Stroke) (count : ℕ) (none : (i : ℕ) → count ≤ i → from i ≡ []) (out₀ : List ℕ) where
  abbrev room : ℕ
  room = length out₀

  -- what is left to write makes the answer and the output
  record Writes (rest : List Stroke) (before : ℕ) (w : Written) (ys : List ℕ) : Type 0 where
    told : ◌≡◌ {A = Written} (record { length = w.length + length (strokes_text before rest); number = w.number }) (told_of (from 0) room)
    laid : sets ys w.length (strokes_text before rest) ≡ output_of (from 0) out₀
    fits : w.length + length (strokes_text before rest) ≤ room

  pub record Far (d : Draft) (ys : List ℕ) : Type 0 where
    pub same-long : length ys ≡ room
    pub here : d.at ≤ count
    within : d.written.length ≤ room
    judges : d.judging ≡ true → (ys ≡ out₀) × (judge_from (from d.at) d.before d.written room ≡ told_of (from 0) room)
    writes : d.judging ≡ false → Writes (from d.at) d.before d.written ys

  pub far-begin : Far (begun room) out₀
  far-begin = record {
    same-long = refl;
    here = omega arith;
    within = capped-within (length start_text) room;
    judges = λ e. (refl, all-judged (from 0) out₀);
    writes = λ e. absurd (true≢false e);
  }

  module _ (d : Draft) (ys : List ℕ) (far : Far d ys) where
    -- a stroke more
    module _ (s : Stroke) (more : d.at < count) (first : from d.at ≡ s ∷ from (d.at + 1)) where
      whole : strokes_text d.before (from d.at) ≡ stroke_text d.before s ++ strokes_text s.pen (from (d.at + 1))
      unfolding strokes_text
      whole = ap (strokes_text d.before) first

      longs : length (strokes_text d.before (from d.at)) ≡ length (stroke_text d.before s) + length (strokes_text s.pen (from (d.at + 1)))
      longs = ap length whole ∙ length-append (stroke_text d.before s) (strokes_text s.pen (from (d.at + 1)))

      pub far-room : RoomFor d s (length ys)
      far-room = (omega (arith, far.within, far.same-long), (λ e. omega (arith, (far.writes e).fits, longs, far.same-long)))

      judged-more : d.judging ≡ true → judge_from (from (d.at + 1)) s.pen (judged_of d.written d.before s (length ys)) room ≡ told_of (from 0) room
      unfolding judge_from
      judged-more e =
          ap (λ (n : ℕ). judge_from (from (d.at + 1)) s.pen (judged_of d.written d.before s n) room) far.same-long
          ∙ sym (ap (λ (l : List Stroke). judge_from l d.before d.written room) first) ∙ (far.judges e).1

      written-more : d.judging ≡ false → Writes (from (d.at + 1)) s.pen (record { length = d.written.length + length (stroke_text d.before s); number = d.written.number }) (sets ys d.written.length (stroke_text d.before s))
      written-more e =
          let w = far.writes e in
          let n = d.written.length in
          let sum : n + length (stroke_text d.before s) + length (strokes_text s.pen (from (d.at + 1))) ≡ n + length (strokes_text d.before (from d.at)) = omega (arith, longs) in
          record {
            told = ap (λ (k : ℕ). record { length = k; number = d.written.number }) sum ∙ w.told;
            laid = sym (sets-append ys n (stroke_text d.before s) (strokes_text s.pen (from (d.at + 1)))) ∙ sym (ap (sets ys n) whole) ∙ w.laid;
            fits = omega (arith, sum, w.fits);
          }

      next-by : (z : Bool) → d.judging ≡ z → Far (next_of d s (length ys)) (next_out d s ys)
      next-by true e = record {
        same-long = rw e far.same-long;
        here = omega (arith, more);
        within = rw e (omega (arith, far.same-long, judged-within d.written d.before s (length ys) (omega (arith, far.within, far.same-long))));
        judges = λ f. rw e ((far.judges e).0, judged-more e);
        writes = λ f. absurd (true≢false (sym e ∙ f));
      }
      next-by false e = record {
        same-long = rw e (length-sets ys d.written.length (stroke_text d.before s) ∙ far.same-long);
        here = omega (arith, more);
        within = rw e (omega (arith, (far.writes e).fits, longs));
        judges = λ f. absurd (true≢false (sym f ∙ e));
        writes = λ f. rw e (written-more e);
      }

      pub far-next : Far (next_of d s (length ys)) (next_out d s ys)
      far-next = next-by d.judging refl

    module _ (end : count ≤ d.at) where
      module _ (judging : d.judging ≡ true) where
        -- all is judged
        answer : d.written ≡ told_of (from 0) room
        unfolding judge_from
        answer = sym (ap (λ (l : List Stroke). judge_from l d.before d.written room) (none d.at end)) ∙ (far.judges judging).1

        number : d.written.number ≡ number_of (from 0) room
        number = ap (λ (w : Written). w.number) answer ∙ (answer-told (from 0) room).0

        module _ (taken : d.written.number ≡ 0) where
          tests : (all_writable (from 0) ≡ true) × (fits_in (from 0) room ≡ true)
          unfolding number_of
          tests = go (all_writable (from 0)) (fits_in (from 0) room) (sym number ∙ taken)
            where
              go : (y z : Bool) → cond y (cond z 0 too_short) not_writable ≡ 0 → (y ≡ true) × (z ≡ true)
              go true true e = (refl, refl)
              go true false e = absurd (omega (arith, e))
              go false z e = absurd (omega (arith, e))

          all-fits : length start_text + length (strokes_text 0 (from 0)) ≤ room
          unfolding fits_in
          all-fits = omega (arith, leb-true (length (text_of (from 0))) room tests.1, text-long (from 0) tests.0)

          starts : Writes (from 0) 0 (long (length start_text)) (sets ys 0 start_text)
          starts =
              let a = all-written (from 0) out₀ tests.0 tests.1 in
              let text : text_of (from 0) ≡ start_text ++ strokes_text 0 (from 0) = text-from (from 0) tests.0 in
              let put : Puts (text_of (from 0)) out₀ (sets out₀ 0 (text_of (from 0))) 0 (0 + length (text_of (from 0))) = record { ends = refl; room = omega (arith, all-fits, text-long (from 0) tests.0); list = refl } in
              record {
                told = ap long (sym (text-long (from 0) tests.0)) ∙ ap told a.0;
                laid = sym (sets-append ys 0 start_text (strokes_text 0 (from 0))) ∙ (λ i. sets ((far.judges judging).0 i) 0 (sym text i)) ∙ puts-front put ∙ a.1;
                fits = all-fits;
              }

        pub far-start-room : RoomToStart d (length ys)
        far-start-room taken = omega (arith, all-fits taken, far.same-long)

        -- refused: nothing is left to write
        stops : (d.written.number ≡ 0 → ⊥) → Writes (from d.at) d.before d.written ys
        unfolding strokes_text output_of
        stops not =
            let e = none d.at end in
            let n : length (strokes_text d.before (from d.at)) ≡ 0 = ap (λ (l : List Stroke). length (strokes_text d.before l)) e in
            let m : d.written.length + length (strokes_text d.before (from d.at)) ≡ d.written.length = omega (arith, n) in
            record {
              told = ap (λ (k : ℕ). record { length = k; number = d.written.number }) m ∙ answer;
              laid = ap (λ (l : List Stroke). sets ys d.written.length (strokes_text d.before l)) e ∙ (far.judges judging).0 ∙ sym (rw (ne_eqb (number_of (from 0) room) 0 (λ f. not (number ∙ f))) refl);
              fits = omega (arith, m, far.within);
            }

        turn_by : (z : Bool) → eqb d.written.number 0 ≡ z → Far (turned_of d) (turned_out d ys)
        turn_by true e =
            let taken = eqb-true d.written.number 0 e in
            rw e record {
              same-long = length-sets ys 0 start_text ∙ far.same-long;
              here = omega arith;
              within = omega (arith, all-fits taken);
              judges = λ f. absurd (true≢false (sym f));
              writes = λ f. starts taken;
            }
        turn_by false e = rw e record {
          same-long = far.same-long;
          here = far.here;
          within = far.within;
          judges = λ f. absurd (true≢false (sym f));
          writes = λ f. stops (eqb-false d.written.number 0 e);
        }

        pub far-turn : Far (turned_of d) (turned_out d ys)
        far-turn = turn_by (eqb d.written.number 0) refl

      pub far-end : d.judging ≡ false → (d.written ≡ told_of (from 0) room) × (ys ≡ output_of (from 0) out₀)
      unfolding strokes_text
      far-end e =
          let w = far.writes e in
          let gone = none d.at end in
          let n : d.written.length ≡ d.written.length + length (strokes_text d.before (from d.at)) = omega (arith, ap (λ (l : List Stroke). length (strokes_text d.before l)) gone) in
          (ap (λ (k : ℕ). record { length = k; number = d.written.number }) n ∙ w.told, sym (ap (λ (l : List Stroke). sets ys d.written.length (strokes_text d.before l)) gone) ∙ w.laid)

-- ---- how many turns are left at most

abbrev pub turns : ℕ → Draft → ℕ
turns count d = cond d.judging (count + 1) 0 + (count - d.at)

pub fewer-next : (count : ℕ) (d : Draft) (s : Stroke) (room : ℕ) → d.at < count → turns count (next_of d s room) < turns count d
fewer-next count d s room more = omega (arith, more)

pub fewer-turn : (count : ℕ) (d : Draft) → d.judging ≡ true → turns count (turned_of d) < turns count d
fewer-turn count d e = rw e (go (eqb d.written.number 0))
  where
    go : (z : Bool) → turns count (cond z (record { judging = false; at = 0; before = 0; written = long (length start_text) }) (record { judging = false; at = d.at; before = d.before; written = d.written })) < count + 1 + (count - d.at)
    go true = omega arith
    go false = omega arith
