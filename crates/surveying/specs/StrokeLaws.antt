-- What the loops of survey leave of the strokes: a run and a plot take bytes one by one, and bytes without letters outside an instruction draw nothing.
use Rattle.std.specs.Prelude.{Bool, true, false, cond, ◌⊎◌, ◌≡◌, eqb, ℤ, length, take}
use mathlib.Core.List.{List, [], ◌∷◌, ◌++◌}
use Rattle.std.proofs.Common.{inl, inr, ◌∙◌, arith, eq-eqb, take-append-drop, drop_of_length-le, drop-drop}
use Rattle.std.proofs.Math.Path.{refl, sym, ap}
use Prim.Native.Nat.{ℕ, zero, suc, ◌+◌, ◌≤◌, ◌<◌}
use Rattle.std.proofs.Math.ListN.{drop}
use Rattle.reader.specs.Reader.{unknown}
use Rattle.rows.specs.declared.Row.{Row}
use Rattle.hpgl.specs.declared.State.{State}
use Rattle.hpgl.specs.Machine.{waiting, occupied, take_state, take_number, draw_state, draw_answer, fetch_state}
use Rattle.hpgl.proofs.FetchLaws.{fetch-none}
use Rattle.hpgl.specs.Segment.{segment_of}
use Rattle.hpgl.specs.Valid.{Every, more}
use Rattle.feeding.proofs.DrawOffLaws.{draw-less, free-taken}
use Rattle.feeding.specs.Feed.{counted}
use Rattle.feeding.specs.Plot.{Plot, took, plot_from}
use Rattle.feeding.proofs.PlotLaws.{at-end, at-stuck, at_byte, took-none, took-refused}
use Rattle.gathering.specs.declared.Stopped.{Stopped}
use Rattle.gathering.specs.GatherLaws.{free-idle}
use Rattle.stretches.specs.Stretch.{NoLetter, Outside}
use Rattle.stretches.proofs.StretchLaws.{outside-free, take-outside, take-unknown}
use Rattle.machine.specs.Gather.{plotted_of}
use Rattle.machine.specs.Run.{Run, ran_of, run_of}
use Rattle.counting.specs.declared.refusals.Refusals.{Refusals}
use Rattle.counting.specs.Names.{letterless}
use Rattle.repeats.specs.Repeats.{painted_all}
use Rattle.repeats.specs.Laws.{painted-append, painted-none}
use Rattle.counting.specs.declared.tally.Tally.{Tally}
use Rattle.surveying.specs.States.{DrawingAt, WatchedAt}
use Rattle.surveying.specs.Drawing.{waits_of, drawn_off, reply_bytes, fetched_off, went_on, bytes_from, block_of, enter, piece_done, stretch}
use Rattle.surveying.specs.Laws.{Plain, plain-class, work-waits, silent, run-stays, one_on, Reached, bytes, letters, whole}
use Rattle.surveying.specs.Strokes.{rows_of, drawn_state, strokes_off, strokes_at, settled, state_after, strokes_from}

-- ---- segments one by one

module _ (m : State) where
  pub strokes-draw : waits_of (segment_of m) ≡ true → strokes_at m ≡ rows_of (draw_answer m) ++ strokes_at (draw_state m)
  unfolding strokes_off segment_of
  strokes-draw h = go (waiting m.work) refl (work-waits m m.work h)
    where
      go : (k : ℕ) → waiting m.work ≡ k → 0 < k → strokes_off k m ≡ rows_of (draw_answer m) ++ strokes_at (draw_state m)
      go zero e l = absurd (omega arith)
      go (suc k) e l = ap (λ (j : ℕ). rows_of (draw_answer m) ++ strokes_off j (draw_state m)) (sym (draw-less m k e))

  pub strokes-idle : waiting m.work ≡ 0 → strokes_at m ≡ []
  unfolding strokes_off
  strokes-idle h = ap (λ (k : ℕ). strokes_off k m) h

  -- nothing waits: nothing is drawn, and the machine stays
  strokes-free : occupied m.work ≡ false → strokes_at m ≡ []
  strokes-free h = strokes-idle (free-idle m.work h)

  pub settled-free : occupied m.work ≡ false → settled m ≡ m
  unfolding settled drawn_state
  settled-free h = ap (λ (k : ℕ). fetch_state (drawn_state k m) reply_bytes) (free-idle m.work h) ∙ (fetch-none m reply_bytes (silent m.work h)).1

-- the counts change nothing of the machine
off-state : (k : ℕ) (m : State) (t : Tally) → (drawn_off k m t).machine.state ≡ drawn_state k m
unfolding drawn_off drawn_state
off-state zero m t = refl
off-state (suc k) m t = off-state k (draw_state m) _

pub off-settled : (m : State) (t : Tally) (n : ℕ) → (fetched_off (drawn_off (waiting m.work) m t).machine.state n).machine.state ≡ settled m
unfolding fetched_off settled
off-settled m t n = ap (λ (x : State). fetch_state x reply_bytes) (off-state (waiting m.work) m t)

bytes-state : (d : DrawingAt) (block bs : List ℕ) (at : ℕ) → (bytes_from d block bs at).machine.state ≡ state_after d.machine.state bs
unfolding bytes_from state_after went_on
bytes-state d block [] at = refl
bytes-state d block (b ∷ bs) at =
    let m = take_state d.machine.state b in
    bytes-state (went_on d block m (at + 1) (take_number d.machine.state b)) block bs (at + 1) ∙ ap (λ (x : State). state_after x bs) (off-settled m d.tally d.replies)

pub block-state : (d : DrawingAt) (block : List ℕ) → (block_of d block).machine.state ≡ state_after d.machine.state block
unfolding block_of
block-state d block = bytes-state d block block 0

-- ---- bytes after bytes

append_assoc : (xs ys zs : List Row) → (xs ++ ys) ++ zs ≡ xs ++ (ys ++ zs)
append_assoc [] ys zs = refl
append_assoc (x ∷ xs) ys zs = ap (λ (l : List Row). x ∷ l) (append_assoc xs ys zs)

pub strokes-append : (m : State) (xs ys : List ℕ) → strokes_from m (xs ++ ys) ≡ strokes_from m xs ++ strokes_from (state_after m xs) ys
unfolding strokes_from state_after
strokes-append m [] ys = refl
strokes-append m (b ∷ xs) ys =
    let n = take_state m b in
    ap (λ (l : List Row). strokes_at n ++ l) (strokes-append (settled n) xs ys) ∙ sym (append_assoc (strokes_at n) (strokes_from (settled n) xs) (strokes_from (state_after (settled n) xs) ys))

module _ (block : List ℕ) where
  -- ---- a run
  abbrev ran_strokes : Run → List Row
  ran_strokes r = strokes_at r.state ++ strokes_from (settled r.state) (drop r.at block)

  -- a byte that leaves the machine m at the place `at`
  leaves : (m : State) (bs : List ℕ) (at n : ℕ) → drop at block ≡ bs → strokes_at m ++ strokes_from (settled m) bs ≡ ran_strokes (ran_of m at n)
  leaves m bs at n e = ap (λ (l : List ℕ). strokes_at m ++ strokes_from (settled m) l) (sym e)

  quiet-on : (m : State) (bs : List ℕ) → occupied m.work ≡ false → strokes_at m ++ strokes_from (settled m) bs ≡ strokes_from m bs
  quiet-on m bs h = λ i. strokes-free m h i ++ strokes_from (settled-free m h i) bs

  pub run-strokes : (m : State) (bs : List ℕ) (at : ℕ) → occupied m.work ≡ false → drop at block ≡ bs → strokes_from m bs ≡ ran_strokes (run_of m bs at)
  unfolding strokes_from run_of counted
  run-strokes m [] at w e = sym (quiet-on m [] w) ∙ leaves m [] at 0 e
  run-strokes m (b ∷ bs) at w e =
      rw (eq-eqb (waiting m.work) 0 (free-idle m.work w)) (by (eqb (take_number m b) 0) (λ z. run-strokes (take_state m b) bs (at + 1) z next))
    where
      next : drop (at + 1) block ≡ bs
      next = one_on block at b bs e

      goes : Run → Type 0
      goes r = strokes_at (take_state m b) ++ strokes_from (settled (take_state m b)) bs ≡ ran_strokes r

      later : Type 0
      later = occupied (take_state m b).work ≡ false → strokes_from (take_state m b) bs ≡ ran_strokes (run_of (take_state m b) bs (at + 1))

      place : counted (take_number m b) at ≡ at + 1
      place = rw (free-taken m b w) refl

      quiet : (o : Bool) → occupied (take_state m b).work ≡ o → later → goes (run_of (take_state m b) bs (at + 1))
      quiet false z h = quiet-on (take_state m b) bs z ∙ h z
      quiet true z h =
          let s = run-stays (take_state m b) bs (at + 1) z in
          leaves (take_state m b) bs (at + 1) 0 next ∙ (λ i. strokes_at (sym s.state i) ++ strokes_from (settled (sym s.state i)) (drop (sym s.place i) block))

      by : (t : Bool) → later → goes (cond t (run_of (take_state m b) bs (at + 1)) (ran_of (take_state m b) (counted (take_number m b) at) (take_number m b)))
      by true h = quiet (occupied (take_state m b).work) refl h
      by false h = leaves (take_state m b) bs (counted (take_number m b) at) (take_number m b) (ap (λ (k : ℕ). drop k block) place ∙ next)

  -- ---- a plot of bytes without letters
  pub plot-strokes : (m : State) (bs later : List ℕ) (at r : ℕ) → Outside m → Every Plain bs → drop at block ≡ bs ++ later
      → let f = plot_from m bs at r in strokes_from m (drop at block) ≡ strokes_from f.state (drop f.taken block)
  unfolding strokes_from
  plot-strokes m [] later at r o p e = rw (at-end m at o.idle r) refl
  plot-strokes m (b ∷ bs) later at zero o p e = rw (at-stuck m at o.idle b bs (free-taken m b (outside-free o))) refl
  plot-strokes m (b ∷ bs) later at (suc r) o (more p ps) e =
      rw (at_byte m at o.idle b bs r (free-taken m b (outside-free o)))
      (ap (strokes_from m) e ∙ quiet-on (take_state m b) (bs ++ later) (outside-free next) ∙ ap (strokes_from (take_state m b)) (sym rest) ∙ by (take-unknown m b o l) (λ q. plot-strokes (take_state m b) bs later (at + 1) q next ps rest))
    where
      l : NoLetter b
      l = plain-class b p

      next : Outside (take_state m b)
      next = take-outside m b o l

      rest : drop (at + 1) block ≡ bs ++ later
      rest = one_on block at b (bs ++ later) e

      follows : ℕ → Plot
      follows q = plot_from (take_state m b) bs (at + 1) q

      by : (take_number m b ≡ 0) ⊎ (take_number m b ≡ unknown)
          → ((q : ℕ) → strokes_from (take_state m b) (drop (at + 1) block) ≡ strokes_from (follows q).state (drop (follows q).taken block))
          → (let f = took (take_number m b) (at + 1) r follows in strokes_from (take_state m b) (drop (at + 1) block) ≡ strokes_from f.state (drop f.taken block))
      by (inl z) h = rw (took-none (at + 1) r follows z) (h (suc r))
      by (inr u) h = rw (took-refused (take_number m b) (at + 1) r follows (λ z. omega (arith, u, z))) (h r)

-- ---- what is kept of lines, a step at a time

pub traced-end : (lines : List ℤ) (m : State) (block : List ℕ) (at : ℕ) → length block ≤ at → painted_all lines (strokes_from m (drop at block)) ≡ lines
unfolding strokes_from
traced-end lines m block at h = rw (drop_of_length-le block h) (painted-none lines)

-- a piece of n bytes is done
pub traced-piece : (lines : List ℤ) (w : WatchedAt) (block : List ℕ) (at n : ℕ) {k : ℕ} {kept : List ℤ} {v : WatchedAt} → k ≡ n
    → kept ≡ painted_all lines (strokes_from w.drawing.machine.state (take k (drop at block))) → v ≡ piece_done w (take k (drop at block))
    → painted_all lines (strokes_from w.drawing.machine.state (drop at block)) ≡ painted_all kept (strokes_from v.drawing.machine.state (drop (at + n) block))
unfolding piece_done
traced-piece lines w block at n {k} {kept} {v} e h g =
    ap (λ (l : List ℕ). painted_all lines (strokes_from m l)) (sym (take-append-drop n (drop at block)))
    ∙ ap (painted_all lines) (strokes-append m (take n (drop at block)) (drop n (drop at block)))
    ∙ painted-append lines (strokes_from m (take n (drop at block))) (strokes_from (state_after m (take n (drop at block))) (drop n (drop at block)))
    ∙ (λ i. painted_all (sym (h ∙ ap (λ (j : ℕ). painted_all lines (strokes_from m (take j (drop at block)))) e) i) (strokes_from (sym state i) (drop-drop n at block i)))
  where
    m : State
    m = w.drawing.machine.state

    state : v.drawing.machine.state ≡ state_after m (take n (drop at block))
    state =
        ap (λ (x : WatchedAt). x.drawing.machine.state) g ∙ block-state (enter w (take k (drop at block))) (take k (drop at block))
        ∙ ap (λ (j : ℕ). state_after m (take j (drop at block))) e

module _ (block : List ℕ) (lines : List ℤ) (m : State) (at : ℕ) (free : occupied m.work ≡ false) {r : Run} (e : r ≡ run_of m (drop at block) at) where
  abbrev ahead : List ℤ
  ahead = painted_all lines (strokes_from m (drop at block))

  -- a run, and what it leaves to be drawn
  pub traced-drawn : {kept : List ℤ} {k : State} → kept ≡ painted_all lines (strokes_at r.state) → k ≡ settled r.state
      → ahead ≡ painted_all kept (strokes_from k (drop r.at block))
  traced-drawn {kept} {k} h g =
      ap (painted_all lines) (run-strokes block m (drop at block) at free refl ∙ ap (ran_strokes block) (sym e))
      ∙ painted-append lines (strokes_at r.state) (strokes_from (settled r.state) (drop r.at block))
      ∙ (λ i. painted_all (sym h i) (strokes_from (sym g i) (drop r.at block)))

  -- a run that ends with a refusal
  pub traced-refused : Outside r.state → ahead ≡ painted_all lines (strokes_from r.state (drop r.at block))
  traced-refused o =
      ap (painted_all lines)
      (run-strokes block m (drop at block) at free refl ∙ ap (ran_strokes block) (sym e) ∙ quiet-on block r.state (drop r.at block) (outside-free o))

-- bytes without letters are plotted
module _ (d : DrawingAt) (block : List ℕ) {Use : Type 0} {m : State} {t : Tally} {q : Refusals} {n : ℕ} {at : ℕ} (f : Reached Use d block m t q n at) (len : ℕ) (is : len ≡ letterless stretch (drop at block)) (room : ℕ) {g : Stopped} where
  pub plotted-strokes : g ≡ plotted_of (plot_from m (bytes d block f len is) at room) → Outside m
      → strokes_from m (drop at block) ≡ strokes_from g.state (drop g.at block)
  plotted-strokes e o =
      rw e (plot-strokes block m (bytes d block f len is) (drop len (drop at block)) at room o (letters d block f len is) (whole d block f len is))
