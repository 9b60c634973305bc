-- What the loops of survey go by: segments one by one; bytes a run at a time; and bytes without letters a stretch at a time.
-- Why: a run and a plot take bytes one by one; after a refusal the machine is outside an instruction, where bytes without letters leave refusals alone.
use Rattle.std.specs.Prelude.{Bool, cond, not, ◌||◌, ◌⊎◌, ◌≡◌, eqb, ltb, leb, ℤ, pos, nat_abs, get_or, set, take}
use Rattle.std.proofs.Math.Bool.{true, false}
use Rattle.std.proofs.Common.{true≢false, inl, inr, ◌∙◌, subst, add-one, eq-eqb, ne_eqb, eqb-true, ltb-false, le-leb, length-set, take-append-drop, length-drop, length-append, drop_of_length-le, drop-drop, get_or-drop, drop_at, take-add, length-take-le, take-suc-set}
use Rattle.std.proofs.lemmas.Bool.{false≢true, eqb-false}
use mathlib.Core.List.{List, [], ◌∷◌, ◌++◌, append-nil}
use Rattle.std.proofs.Math.Path.{refl, sym, ap}
use Prim.Native.Char.{code}
use Prim.Native.Nat.{ℕ, zero, suc, ◌+◌, ◌-◌, ◌*◌, ◌≤◌, ◌<◌}
use native.Mathlib.Omega.{arith}
use Rattle.std.proofs.Math.ListN.{length, drop}
use Rattle.std.proofs.Math.Seq.{append_snoc}
use Rattle.numerals.specs.declared.bytes.Class.TheVariants as class
use Rattle.numerals.specs.Bytes.{low_class_of, class_of}
use Rattle.clip.specs.declared.Point.{Point}
use Rattle.turns.specs.Turn.{turned_of}
use Rattle.reader.specs.Reader.{unknown}
use Rattle.hpgl.specs.declared.State.{State}
use Rattle.hpgl.specs.declared.Work.{Work}
use Rattle.hpgl.specs.declared.Work.TheVariants as work
use Rattle.hpgl.specs.declared.Segment.TheVariants as segment
use Rattle.hpgl.proofs.Cases.{never}
use Rattle.hpgl.specs.Machine.{no_edge, waiting, replied, replying, occupied, take_state, take_number, draw_state, draw_answer, fetch_state}
use Rattle.hpgl.proofs.FetchLaws.{fetch-none, fetch-whole}
use Rattle.hpgl.proofs.ReplyLaws.{reply-short}
use Rattle.hpgl.specs.Segment.{chord_segment, edge_segment, work_segment, segment_of}
use Rattle.hpgl.specs.Valid.{Every, none, more, Usable}
use Rattle.feeding.specs.DrawOff.{untaken}
use Rattle.feeding.proofs.DrawOffLaws.{draw-less, held_number, held-state, free-taken}
use Rattle.feeding.specs.Feed.{counted}
use Rattle.feeding.specs.Plot.{Plot, took, plot_from, numbers_of, laid_marks}
use Rattle.feeding.proofs.PlotLaws.{at-end, at-stuck, at_byte, took-none, took-refused, plot-place, plot-stored, plot-usable}
use Rattle.stretches.specs.Stretch.{is_letter, NoLetter, Outside}
use Rattle.gathering.specs.declared.Stopped.{Stopped}
use Rattle.gathering.specs.GatherLaws.{free-idle, idle-free, reply-held}
use Rattle.stretches.proofs.StretchLaws.{outside-free, take-outside, take-unknown, refused-outside, stretch-refuses}
use Rattle.machine.specs.Gather.{plotted_of}
use Rattle.machine.specs.Run.{Run, ran_of, run_of}
use Rattle.machine.specs.RunLaws.{run-place, run-takes, run-usable}
use Rattle.console.specs.Sums.{added}
use Rattle.counting.specs.declared.refusals.Refusals.{Refusals}
use Rattle.counting.specs.declared.tally.Tally.{Tally}
use Rattle.counting.specs.Laws.{letter_at, letterless-plain, letterless-few}
use Rattle.counting.specs.Names.{letter_of, letter_before, name_of, letterless}
use Rattle.counting.specs.Refusals.{noted_of, noted_all}
use Rattle.counting.specs.Tally.{counted_of}
use Rattle.surveying.specs.States.{DrawingAt, PaintedAt, RepliedAt}
use Rattle.surveying.specs.Drawing.{waits_of, drawn_off, reply_bytes, fetched_off, judged_of, refused_at, refusals_after, went_on, bytes_from, gone_to, ended_of, block_of, stretch, places_of, unnamed_in}

pub was-false : (b : Bool) → not b ≡ true → b ≡ false
was-false true e = sym e
was-false false e = refl

pub was-true : (b : Bool) → not b ≡ false → b ≡ true
was-true true e = refl
was-true false e = sym e

-- ---- segments one by one

pub work-waits : (m : State) (w : Work) → waits_of (work_segment m w) ≡ true → 0 < waiting w
unfolding waits_of work_segment waiting
work-waits m work.Nothing h = absurd (false≢true h)
work-waits m (work.Line a b) h = omega arith
work-waits m (work.Chords o i zero) h = absurd (false≢true h)
work-waits m (work.Chords o i (suc n)) h = omega arith
work-waits m (work.Edges i zero) h = absurd (false≢true h)
work-waits m (work.Edges i (suc n)) h = omega arith
work-waits m (work.Answer r) h = absurd (false≢true h)

work-idle : (m : State) (w : Work) → waits_of (work_segment m w) ≡ false → waiting w ≡ 0
unfolding waits_of work_segment chord_segment edge_segment waiting
work-idle m work.Nothing h = refl
work-idle m (work.Line a b) h = absurd (true≢false h)
work-idle m (work.Chords o i zero) h = refl
work-idle m (work.Chords o i (suc n)) h = absurd (true≢false h)
work-idle m (work.Edges i zero) h = refl
work-idle m (work.Edges i (suc n)) h =
    let e = get_or m.store.edges i no_edge in
    absurd (go e.down (turned_of e.from m.core.settings.turn) (turned_of e.to m.core.settings.turn) h)
  where
    go : (down : Bool) (a b : Point) → waits_of (cond down (segment.Line a b) segment.PenUp) ≡ false → ⊥
    go true a b e = true≢false e
    go false a b e = true≢false e
work-idle m (work.Answer r) h = refl

abbrev pub painted : State → Tally → PaintedAt
painted m t = record { machine = record { state = m }; tally = t }

module _ (m : State) (t : Tally) where
  pub off-draw : waits_of (segment_of m) ≡ true
      → drawn_off (waiting m.work) m t ≡ drawn_off (waiting (draw_state m).work) (draw_state m) (counted_of t (segment_of m) (draw_answer m))
  unfolding drawn_off segment_of
  off-draw h = go (waiting m.work) refl (work-waits m m.work h)
    where
      go : (k : ℕ) → waiting m.work ≡ k → 0 < k
          → drawn_off k m t ≡ drawn_off (waiting (draw_state m).work) (draw_state m) (counted_of t (segment_of m) (draw_answer m))
      go zero e l = absurd (omega arith)
      go (suc k) e l = ap (λ (j : ℕ). drawn_off j (draw_state m) (counted_of t (segment_of m) (draw_answer m))) (sym (draw-less m k e))

  pub draw-fewer : waits_of (segment_of m) ≡ true → waiting (draw_state m).work < waiting m.work
  unfolding segment_of
  draw-fewer h = go (waiting m.work) refl (work-waits m m.work h)
    where
      go : (k : ℕ) → waiting m.work ≡ k → 0 < k → waiting (draw_state m).work < k
      go zero e l = absurd (omega arith)
      go (suc k) e l = omega (arith, draw-less m k e)

  pub idle-segment : waits_of (segment_of m) ≡ false → waiting m.work ≡ 0
  unfolding segment_of
  idle-segment h = work-idle m m.work h

  pub off-idle : waiting m.work ≡ 0 → drawn_off (waiting m.work) m t ≡ painted m t
  unfolding drawn_off
  off-idle h = ap (λ (k : ℕ). drawn_off k m t) h

-- ---- a reply

pub silent : (w : Work) → occupied w ≡ false → replying w ≡ false
silent w h = go (replying w) refl
  where
    go : (b : Bool) → replying w ≡ b → b ≡ false
    go true e = never h (reply-held w e)
    go false e = refl

abbrev unanswered : State → ℕ → RepliedAt
unanswered m n = record { machine = record { state = m }; replies = n }

module _ (m : State) where
  -- none waits: a fetch leaves all, and none is counted
  fetched-none : (n : ℕ) → replying m.work ≡ false → fetched_off m n ≡ unanswered m n
  unfolding fetched_off
  fetched-none n h = let f = fetch-none m reply_bytes h in rw (f.0, f.1) refl

  -- after it none waits, for every reply fits
  fetched-free : Usable m → waiting m.work ≡ 0 → occupied (fetch_state m reply_bytes).work ≡ false
  unfolding occupied replying replied waiting
  fetched-free u w = go (replying m.work) refl
    where
      go : (b : Bool) → replying m.work ≡ b → occupied (fetch_state m reply_bytes).work ≡ false
      go true e = rw (fetch-whole m reply_bytes e (le-leb _ reply_bytes (reply-short u.valid))).1 refl
      go false e = rw (fetch-none m reply_bytes e).1 (idle-free m.work w e)

-- ---- bytes a run at a time

-- the same counts, and another machine
abbrev pub with_state : DrawingAt → State → DrawingAt
with_state d m = record { machine = record { state = m }; before = d.before; letters = d.letters; nobody = d.nobody; tally = d.tally; refusals = d.refusals; replies = d.replies }

abbrev pub with_refusals : DrawingAt → Refusals → DrawingAt
with_refusals d r = record { machine = d.machine; before = d.before; letters = d.letters; nobody = d.nobody; tally = d.tally; refusals = r; replies = d.replies }

-- a segment or a reply waits: a run takes no byte, and none is refused
pub record Stays (m : State) (at : ℕ) (r : Run) : Type 0 where
  pub state : r.state ≡ m
  pub place : r.at ≡ at
  pub number : judged_of r.number ≡ 0

pub run-stays : (m : State) (bs : List ℕ) (at : ℕ) → occupied m.work ≡ true → Stays m at (run_of m bs at)
unfolding run_of judged_of untaken counted
run-stays m [] at h = record { state = refl; place = refl; number = refl }
run-stays m (b ∷ bs) at h = rw (held_number m b h, held-state m b h) (go (eqb (waiting m.work) 0))
  where
    go : (s : Bool) → Stays m at (cond s (ran_of m at 20) (ran_of m at 0))
    go true = record { state = refl; place = refl; number = refl }
    go false = record { state = refl; place = refl; number = refl }

-- a refusal leaves the machine outside an instruction
pub run-outside : (m : State) (bs : List ℕ) (at : ℕ) → (judged_of (run_of m bs at).number ≡ 0 → ⊥) → Outside (run_of m bs at).state
unfolding run_of judged_of untaken
run-outside m [] at = λ n. absurd (n refl)
run-outside m (b ∷ bs) at = by (occupied m.work) refl (run-outside (take_state m b) bs (at + 1))
  where
    Leaves : Run → Type 0
    Leaves r = (judged_of r.number ≡ 0 → ⊥) → Outside r.state

    go : (t : Bool) → eqb (take_number m b) 0 ≡ t → occupied m.work ≡ false → Leaves (run_of (take_state m b) bs (at + 1))
        → Leaves (cond t (run_of (take_state m b) bs (at + 1)) (ran_of (take_state m b) (counted (take_number m b) at) (take_number m b)))
    go true e o h = h
    go false e o h = λ n. refused-outside m b o (eqb-false (take_number m b) 0 e)

    by : (o : Bool) → occupied m.work ≡ o → Leaves (run_of (take_state m b) bs (at + 1)) → Leaves (run_of m (b ∷ bs) at)
    by true o h = λ n. absurd (n (run-stays m (b ∷ bs) at o).number)
    by false o h = rw (eq-eqb (waiting m.work) 0 (free-idle m.work o)) (go (eqb (take_number m b) 0) refl o h)

module _ (block : List ℕ) where
  -- nothing is refused, and nothing waits
  went-quiet : (d : DrawingAt) (m : State) (at n : ℕ) → occupied m.work ≡ false → n ≡ 0 → went_on d block m at n ≡ with_state d m
  unfolding went_on refusals_after
  went-quiet d m at n w e = rw (e, off-idle m d.tally (free-idle m.work w), fetched-none m d.replies (silent m.work w)) refl

  went-refused : (d : DrawingAt) (m : State) (at n : ℕ) → occupied m.work ≡ false → (n ≡ 0 → ⊥)
      → went_on d block m at n ≡ with_state (with_refusals d (refused_at d.refusals d.letters d.nobody d.before block at n)) m
  unfolding went_on refusals_after
  went-refused d m at n w f = rw (ne_eqb n 0 f, off-idle m d.tally (free-idle m.work w), fetched-none m d.replies (silent m.work w)) refl

  -- past one byte
  pub one_on : (at b : ℕ) (bs : List ℕ) → drop at block ≡ b ∷ bs → drop (at + 1) block ≡ bs
  one_on at b bs e = sym (drop-drop 1 at block) ∙ ap (drop 1) e

  -- where a run leads
  abbrev ran_to : DrawingAt → Run → DrawingAt
  ran_to d r = bytes_from (went_on d block r.state r.at (judged_of r.number)) block (drop r.at block) r.at

  run-bytes : (d : DrawingAt) (m : State) (bs : List ℕ) (at : ℕ) → occupied m.work ≡ false → drop at block ≡ bs → bytes_from (with_state d m) block bs at ≡ ran_to d (run_of m bs at)
  unfolding bytes_from run_of judged_of counted untaken went_on refusals_after
  run-bytes d m [] at w e = sym (λ i. bytes_from (went-quiet d m at 0 w refl i) block (e i) at)
  run-bytes d m (b ∷ bs) at w e =
      rw (eq-eqb (waiting m.work) 0 (free-idle m.work w)) (by (eqb (take_number m b) 0) refl (λ z. run-bytes d (take_state m b) bs (at + 1) z next))
    where
      next : drop (at + 1) block ≡ bs
      next = one_on at b bs e

      -- this byte is taken
      on : ℕ → List ℕ → DrawingAt
      on n l = bytes_from (went_on d block (take_state m b) (at + 1) n) block l (at + 1)

      goes : Run → Type 0
      goes r = on (take_number m b) bs ≡ ran_to d r

      place : counted (take_number m b) at ≡ at + 1
      place = rw (free-taken m b w) refl

      number : judged_of (take_number m b) ≡ take_number m b
      number = rw (free-taken m b w) refl

      -- what holds of the bytes after this one, where nothing waits
      later : Type 0
      later = occupied (take_state m b).work ≡ false → bytes_from (with_state d (take_state m b)) block bs (at + 1) ≡ ran_to d (run_of (take_state m b) bs (at + 1))

      quiet : (o : Bool) → occupied (take_state m b).work ≡ o → take_number m b ≡ 0 → later → goes (run_of (take_state m b) bs (at + 1))
      quiet false z n h = (λ i. bytes_from (went-quiet d (take_state m b) (at + 1) (take_number m b) z n i) block bs (at + 1)) ∙ h z
      quiet true z n h =
          let s = run-stays (take_state m b) bs (at + 1) z in
          (λ i. on (n i) (sym next i)) ∙ (λ i. bytes_from (went_on d block (sym s.state i) (sym s.place i) (sym s.number i)) block (drop (sym s.place i) block) (sym s.place i))

      by : (t : Bool) → eqb (take_number m b) 0 ≡ t → later
          → goes (cond t (run_of (take_state m b) bs (at + 1)) (ran_of (take_state m b) (counted (take_number m b) at) (take_number m b)))
      by true f h = quiet (occupied (take_state m b).work) refl (eqb-true (take_number m b) 0 f) h
      by false f h =
          (λ i. on (take_number m b) (sym next i))
          ∙ (λ i. bytes_from (went_on d block (take_state m b) (sym place i) (sym number i)) block (drop (sym place i) block) (sym place i))

-- ---- bytes without letters a stretch at a time

low-plain : (b : ℕ) → is_letter (low_class_of b) ≡ false
unfolding low_class_of is_letter
low-plain b = go (eqb b 9 || eqb b 10 || eqb b 13 || eqb b 32 || eqb b (code ",")) (eqb b (code "+")) (eqb b (code "-")) (eqb b (code "."))
  where
    go : (w x y z : Bool) → is_letter (cond w class.Blank (cond x (class.Sign false) (cond y (class.Sign true) (cond z class.Point class.Other)))) ≡ false
    go true x y z = refl
    go false true y z = refl
    go false false true z = refl
    go false false false true = refl
    go false false false false = refl

-- what is no letter for a name is none for the reader
pub plain-class : (b : ℕ) → letter_of b ≡ 0 → NoLetter b
unfolding letter_of class_of is_letter
plain-class b = go (ltb b 48) (leb b 57) (eqb b 59) (ltb b 65) (leb b 90) (ltb b 97) (leb b 122) refl refl
  where
    go : (s t u v w x y : Bool) → ltb b 65 ≡ v → ltb b 97 ≡ x
        → cond v 0 (cond w b (cond x 0 (cond y (b - 32) 0))) ≡ 0
        → is_letter (cond s (low_class_of b) (cond t (class.Digit (b - 48)) (cond u class.Semicolon (cond v class.Other (cond w (class.Letter b) (cond x class.Other (cond y (class.Letter (b - 32)) class.Other))))))) ≡ false
    go true t u v w x y e f h = low-plain b
    go false true u v w x y e f h = refl
    go false false true v w x y e f h = refl
    go false false false true w x y e f h = refl
    go false false false false true x y e f h = absurd (omega (arith, ltb-false b 65 e, h))
    go false false false false false true y e f h = refl
    go false false false false false false true e f h = absurd (omega (arith, ltb-false b 97 f, h))
    go false false false false false false false e f h = refl

every : {P Q : ℕ → Type 0} → ((b : ℕ) → P b → Q b) → {bs : List ℕ} → Every P bs → Every Q bs
every h none = none
every h (more {x} p ps) = more (h x p) (every h ps)

abbrev pub Plain : ℕ → Type 0
Plain b = letter_of b ≡ 0

module _ (block : List ℕ) where
  -- a byte that is no letter completes no name
  plain-name : (d : DrawingAt) (at b : ℕ) (bs : List ℕ) → drop at block ≡ b ∷ bs → Plain b → name_of d.letters d.nobody block (at + 1) unknown ≡ d.nobody
  unfolding name_of
  plain-name d at b bs e h = rw (eq-eqb (letter_before block (at + 1)) 0 letter) refl
    where
      place : at + 1 - 1 ≡ at + 0
      place = omega arith

      letter : letter_before block (at + 1) ≡ 0
      letter =
          letter_at block (at + 1) (λ z. omega arith) ∙ ap (λ (k : ℕ). letter_of (get_or block k 0)) place
          ∙ ap letter_of (sym (get_or-drop at block 0 0) ∙ ap (λ (l : List ℕ). get_or l 0 0) e) ∙ h

  -- one more refusal with nobody's name
  abbrev more_unnamed : DrawingAt → ℕ → DrawingAt
  more_unnamed d at = with_refusals d (noted_of d.refusals unknown d.nobody (added d.before at))

  unnamed-at : (d : DrawingAt) (at b : ℕ) (bs : List ℕ) (n : ℕ) → drop at block ≡ b ∷ bs → Plain b → n ≡ unknown
      → refused_at d.refusals d.letters d.nobody d.before block (at + 1) n ≡ noted_of d.refusals unknown d.nobody (added d.before (at + 1))
  unfolding refused_at
  unnamed-at d at b bs n e h u = rw (u, plain-name d at b bs e h) refl

  -- a plot has gone so far: its refusals are noted from their records
  abbrev pub plotted_on : DrawingAt → Plot → List ℤ → DrawingAt
  plotted_on d f xs = with_state (with_refusals d (unnamed_in d.refusals d.nobody d.before (numbers_of f.marks ++ xs) (length f.marks))) f.state

  abbrev goes_on : DrawingAt → State → ℕ → List ℤ → Plot → Type 0
  goes_on d m at xs f = bytes_from (with_state d m) block (drop at block) at ≡ bytes_from (plotted_on d f xs) block (drop f.taken block) f.taken

  plot-bytes : (d : DrawingAt) (m : State) (bs later : List ℕ) (at r : ℕ) (xs : List ℤ) → Outside m → Every Plain bs → drop at block ≡ bs ++ later
      → goes_on d m at xs (plot_from m bs at r)
  unfolding unnamed_in places_of noted_all numbers_of bytes_from went_on refusals_after
  plot-bytes d m [] later at r xs o p e = rw (at-end m at o.idle r) refl
  plot-bytes d m (b ∷ bs) later at zero xs o p e = rw (at-stuck m at o.idle b bs (free-taken m b (outside-free o))) refl
  plot-bytes d m (b ∷ bs) later at (suc r) xs o (more p ps) e = rw (at_byte m at o.idle b bs r (free-taken m b (outside-free o))) (ap (λ (l : List ℕ). bytes_from (with_state d m) block l at) e ∙ by (take-unknown m b o l) (λ k q. plot-bytes k (take_state m b) bs later (at + 1) q xs next ps rest))
    where
      l : NoLetter b
      l = plain-class b p

      next : Outside (take_state m b)
      next = take-outside m b o l

      rest : drop (at + 1) block ≡ bs ++ later
      rest = one_on block at b (bs ++ later) e

      follows : ℕ → Plot
      follows q = plot_from (take_state m b) bs (at + 1) q

      -- it is refused, and has no name
      refused : take_number m b ≡ unknown → went_on d block (take_state m b) (at + 1) (take_number m b) ≡ with_state (more_unnamed d (at + 1)) (take_state m b)
      refused u =
          went-refused block d (take_state m b) (at + 1) (take_number m b) (outside-free next) (λ z. omega (arith, u, z))
          ∙ ap (λ (q : Refusals). with_state (with_refusals d q) (take_state m b)) (unnamed-at d at b (bs ++ later) (take_number m b) e p u)

      by : (take_number m b ≡ 0) ⊎ (take_number m b ≡ unknown)
          → ((k : DrawingAt) (q : ℕ) → goes_on k (take_state m b) (at + 1) xs (follows q))
          → bytes_from (with_state d m) block (b ∷ bs ++ later) at
          ≡ (let f = took (take_number m b) (at + 1) r follows in bytes_from (plotted_on d f xs) block (drop f.taken block) f.taken)
      by (inl z) h =
          rw (took-none (at + 1) r follows z)
          ((λ i. bytes_from (went-quiet block d (take_state m b) (at + 1) (take_number m b) (outside-free next) z i) block (sym rest i) (at + 1))
          ∙ h d (suc r))
      by (inr u) h =
          rw (took-refused (take_number m b) (at + 1) r follows (λ z. omega (arith, u, z)))
          ((λ i. bytes_from (refused u i) block (sym rest i) (at + 1)) ∙ h (more_unnamed d (at + 1)) r)

-- ---- the places of refusals, one by one

module _ (before : ℕ) (numbers : List ℤ) where
  places-one : (i n : ℕ) → 0 < n
      → places_of before (drop (i * 5) numbers) n ≡ added before (nat_abs (get_or numbers (i * 5 + 2) (pos 0))) ∷ places_of before (drop ((i + 1) * 5) numbers) (n - 1)
  unfolding places_of
  places-one i zero h = absurd (omega arith)
  places-one i (suc n) h = λ j. added before (nat_abs (get_or-drop (i * 5) numbers 2 (pos 0) j)) ∷ places_of before (dropped j) (sym less j)
    where
      less : suc n - 1 ≡ n
      less = omega arith

      sum : i * 5 + 5 ≡ (i + 1) * 5
      sum = omega arith

      dropped : drop 5 (drop (i * 5) numbers) ≡ drop ((i + 1) * 5) numbers
      dropped = drop-drop 5 (i * 5) numbers ∙ ap (λ (k : ℕ). drop k numbers) sum

  pub places_count : (n : ℕ) → length (places_of before numbers n) ≡ n
  unfolding places_of
  places_count n = go n numbers
    where
      go : (n : ℕ) (l : List ℤ) → length (places_of before l n) ≡ n
      go zero l = refl
      go (suc n) l = ap suc (go n (drop 5 l))

  -- the first i of them stand in a list
  pub record Placed (count : ℕ) (list : List ℕ) (i : ℕ) : Type 0 where
    pub few : i ≤ count
    pub long : stretch ≡ length list
    pub so_far : places_of before numbers count ≡ take i list ++ places_of before (drop (i * 5) numbers) (count - i)

  pub placed-begun : (count : ℕ) (list : List ℕ) → stretch ≡ length list → Placed count list 0
  placed-begun count list h =
      let n : count - 0 ≡ count = omega arith in
      record { few = omega arith; long = h; so_far = rw n refl }

  pub placed-more : {count : ℕ} {list : List ℕ} {i a : ℕ} → Placed count list i → i < count → count ≤ stretch
      → a ≡ added before (nat_abs (get_or numbers (i * 5 + 2) (pos 0))) → Placed count (set list i a) (i + 1)
  placed-more {count} {list} {i} {a} p h k e = record {
    few = omega arith;
    long = p.long ∙ sym (length-set list i a);
    so_far =
        p.so_far ∙ ap (λ (l : List ℕ). take i list ++ l) (places-one i (count - i) (omega arith) ∙ (λ j. sym e j ∷ places_of before (drop ((i + 1) * 5) numbers) (less j)))
        ∙ sym (append_snoc (take i list) a _) ∙ ap (λ (l : List ℕ). l ++ places_of before (drop ((i + 1) * 5) numbers) (count - (i + 1))) one;
  }
    where
      less : count - i - 1 ≡ count - (i + 1)
      less = omega arith

      one : take i list ++ (a ∷ []) ≡ take (i + 1) (set list i a)
      one = sym (rw add-one (take-suc-set list i a (omega (arith, p.long))))

  pub placed-all : {count : ℕ} {list : List ℕ} {i : ℕ} → Placed count list i → count ≤ i → take count list ≡ places_of before numbers count
  unfolding places_of
  placed-all {count} {list} {i} p h =
      let e : i ≡ count = omega (arith, p.few) in
      let z : count - count ≡ 0 = omega arith in
      sym (p.so_far ∙ rw (e, z) (append-nil (take count list)))

-- ---- how far a block is

-- The bytes before the place `at` are taken, neither a segment nor a reply waits, and what is left follows. `Use` is a statement that is kept beside it: a true one, where
-- nothing more is known, or that the machine may be used (`Far`), which the code needs. A law that answers `Reached` takes what it is to keep; those that answer `Far` (last)
-- show it.
pub record Reached (Use : Type 0) (d : DrawingAt) (block : List ℕ) (machine : State) (tally : Tally) (refusals : Refusals) (replies : ℕ) (at : ℕ) : Type 0 where
  pub place : at ≤ length block
  pub usable : Use
  pub free : occupied machine.work ≡ false
  pub follows : bytes_from d block block 0 ≡ bytes_from (gone_to d machine tally refusals replies) block (drop at block) at

abbrev pub Far : DrawingAt → List ℕ → State → Tally → Refusals → ℕ → ℕ → Type 0
Far d block machine tally refusals replies at = Reached (Usable machine) d block machine tally refusals replies at

module _ (d : DrawingAt) (block : List ℕ) where
  pub far-begun : {Use : Type 0} → Use → occupied d.machine.state.work ≡ false → Reached Use d block d.machine.state d.tally d.refusals d.replies 0
  far-begun u w = record { place = omega arith; usable = u; free = w; follows = refl }

  pub far-ended : {Use : Type 0} {m : State} {t : Tally} {q : Refusals} {n : ℕ} {at : ℕ} → Reached Use d block m t q n at → length block ≤ at
      → ended_of (gone_to d m t q n) block ≡ block_of d block
  unfolding block_of bytes_from
  far-ended f h = ap (λ (e : DrawingAt). ended_of e block) (sym (f.follows ∙ rw (drop_of_length-le block h) refl))

  module _ {Use : Type 0} {m : State} {t : Tally} {q : Refusals} {n : ℕ} {at : ℕ} (f : Reached Use d block m t q n at) where
    abbrev so_far : DrawingAt
    so_far = gone_to d m t q n

    -- where the bytes that are left lead
    rest : at + length (drop at block) ≡ length block
    rest = omega (arith, f.place, length-drop at block)

    module _ (r : Run) (e : r ≡ run_of m (drop at block) at) where
      pub ran-place : r.at ≤ length block
      ran-place = rw e (omega (arith, rest, (run-place m (drop at block) at).1))

      ran-follows : bytes_from d block block 0 ≡ ran_to block so_far r
      ran-follows = f.follows ∙ rw e (run-bytes block so_far m (drop at block) at f.free refl)

      pub ran-further : at < length block → at < r.at
      ran-further h = rw e (run-takes m (drop at block) at f.free (omega (arith, rest)))

      module _ {j : ℕ} (is : j ≡ judged_of r.number) where
        -- nothing is refused: what waits is drawn, and fetched
        pub far-drawn : {Next : Type 0} {p : PaintedAt} {k : RepliedAt} → j ≡ 0 → p ≡ drawn_off (waiting r.state.work) r.state t → Usable p.machine.state
            → waiting p.machine.state.work ≡ 0 → k ≡ fetched_off p.machine.state n → Next → Reached Next d block k.machine.state p.tally q k.replies r.at
        unfolding went_on refusals_after fetched_off
        far-drawn {p = p} z e u w g v = record {
          place = ran-place;
          usable = v;
          free = rw g (fetched-free p.machine.state u w);
          follows = ran-follows ∙ rw (sym is ∙ z, g, e) refl;
        }

        -- the last byte is refused, and the machine is outside an instruction
        pub ran-outside : (j ≡ 0 → ⊥) → Outside r.state
        ran-outside z = outside (λ h. z (is ∙ h))
          where
            outside : (judged_of r.number ≡ 0 → ⊥) → Outside r.state
            outside = rw e (run-outside m (drop at block) at)

        pub reached-refused : {Next : Type 0} {k : Refusals} → (j ≡ 0 → ⊥) → k ≡ refused_at q d.letters d.nobody d.before block r.at j → Next → Reached Next d block r.state t k n r.at
        reached-refused z k v =
            let o = ran-outside z in
            record {
              place = ran-place;
              usable = v;
              free = outside-free o;
              follows =
                  ran-follows
                  ∙ ap (λ (x : DrawingAt). bytes_from x block (drop r.at block) r.at)
                  (ap (went_on so_far block r.state r.at) (sym is) ∙ went-refused block so_far r.state r.at j (outside-free o) z ∙ rw k refl);
            }

    -- bytes without letters, so many, are plotted
    module _ (len : ℕ) (is : len ≡ letterless stretch (drop at block)) where
      abbrev pub bytes : List ℕ
      bytes = drop at (take (at + len) block)

      pub stretch-within : at + len ≤ length block
      stretch-within = omega (arith, f.place, is, rest, (letterless-few stretch (drop at block)).1)

      are : bytes ≡ take len (drop at block)
      are = ap (drop at) (take-add at len block) ∙ drop_at (take at block) (take len (drop at block)) at (length-take-le at block f.place)

      pub whole : drop at block ≡ bytes ++ drop len (drop at block)
      whole = rw are (sym (take-append-drop len (drop at block)))

      within : at + length bytes ≤ length block
      within = omega (arith, rest, ap length whole, length-append bytes (drop len (drop at block)))

      pub letters : Every Plain bytes
      letters = rw are (subst (λ (k : ℕ). Every Plain (take k (drop at block))) (sym is) (letterless-plain stretch (drop at block)))

      module _ (room : ℕ) {g : Stopped} (e : g ≡ plotted_of (plot_from m bytes at room)) where
        pub plotted-further : at ≤ g.at
        plotted-further = rw e (plot-place m bytes at room).0

        pub plotted-few : g.stored ≤ room
        plotted-few = rw e (plot-stored m bytes at room)

        pub reached-plotted : {Next : Type 0} → Outside m → (entry : List ℤ) {k : Refusals}
            → k ≡ unnamed_in q d.nobody d.before (laid_marks (plot_from m bytes at room).marks entry) g.stored → Next → Reached Next d block g.state t k n g.at
        reached-plotted o entry k v = record {
          place = rw e (omega (arith, within, (plot-place m bytes at room).1));
          usable = v;
          free = rw e (outside-free (stretch-refuses m bytes at room o (every (λ b. plain-class b) letters)).outside);
          follows = f.follows ∙ rw (k, e) (plot-bytes block so_far m bytes (drop len (drop at block)) at room _ o letters whole);
        }

  -- a machine that may be used may be used after a run, and after a plot
  module _ {m : State} {t : Tally} {q : Refusals} {n : ℕ} {at : ℕ} (f : Far d block m t q n at) where
    module _ (r : Run) (e : r ≡ run_of m (drop at block) at) where
      pub ran-usable : Usable r.state
      ran-usable = rw e (run-usable m (drop at block) at f.usable)

      module _ {j : ℕ} (is : j ≡ judged_of r.number) where
        pub far-refused : {k : Refusals} → (j ≡ 0 → ⊥) → k ≡ refused_at q d.letters d.nobody d.before block r.at j → Far d block r.state t k n r.at
        far-refused z k = reached-refused f r e is z k ran-usable

    module _ (len : ℕ) (is : len ≡ letterless stretch (drop at block)) (room : ℕ) {g : Stopped} (e : g ≡ plotted_of (plot_from m (bytes f len is) at room)) where
      pub far-plotted : Outside m → (entry : List ℤ) {k : Refusals}
          → k ≡ unnamed_in q d.nobody d.before (laid_marks (plot_from m (bytes f len is) at room).marks entry) g.stored → Far d block g.state t k n g.at
      far-plotted o entry k = reached-plotted f len is room e o entry k (rw e (plot-usable m (bytes f len is) at room f.usable))
