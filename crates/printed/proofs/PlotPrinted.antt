-- The marks of a plot as lines: they, and what is printed from its machine on, are what is printed.
use Rattle.std.specs.Prelude.{Bool, true, false, not, ◌||◌, ◌≡◌, eqb, ℤ, length, get_or, take}
use Rattle.std.proofs.Math.Bool.{cond}
use mathlib.Core.List.{List, [], ◌∷◌, ◌++◌, append-nil, append_assoc}
use Rattle.std.proofs.Math.Path.{refl, sym, ap}
use Rattle.std.proofs.Common.{◌∙◌, mod-eq_of_lt, eqb-true, drop-drop}
use Prim.Native.Nat.{ℕ, zero, suc, ◌+◌, ◌*◌, ◌%◌, ◌^◌, ◌≤◌, ◌<◌}
use native.Mathlib.Omega.{arith}
use Rattle.std.proofs.lemmas.Bool.{not-false}
use Rattle.std.proofs.Math.IntN.{pos, nat_abs}
use Rattle.std.proofs.Math.ListN.{drop, length-append}
use Rattle.std.proofs.Math.Seq.{take-length}
use Rattle.exact.specs.Whole.{◌≡?◌, eq-≡?, ne-≡?}
use Rattle.hpgl.specs.declared.State.{State}
use Rattle.hpgl.specs.declared.Drawn.{Drawn}
use Rattle.hpgl.specs.declared.Drawn.TheVariants as drawn
use Rattle.hpgl.specs.declared.Work.{Work}
use Rattle.hpgl.specs.declared.Work.TheVariants as work
use Rattle.hpgl.specs.Numbers.{most_reply}
use Rattle.hpgl.proofs.Cases.{never, whether}
use Rattle.hpgl.specs.Machine.{waiting, replied, replying, occupied, take_state, take_number, draw_state, draw_answer, fetch_state, fetch_text}
use Rattle.hpgl.proofs.WhatTakeDoes.{free-is}
use Rattle.hpgl.proofs.FetchLaws.{fetch-none, fetch-again, fetch-idle}
use Rattle.feeding.specs.DrawOff.{list_full, untaken}
use Rattle.feeding.proofs.DrawOffLaws.{draw-less, held_number, free-taken, none-taken}
use Rattle.feeding.specs.Plot.{Mark, stroke, refusal, Plot, stop, drew, took, draw_off, take_with, take_on, plot_from, numbers_of}
use Rattle.hpgl.specs.Valid.{Every, more}
use Rattle.feeding.proofs.WhatMarksTell.{Told}
use Rattle.textlines.specs.Text.{stroke_text, refusal_text, mark_at, marks_below}
use Rattle.textlines.specs.TextLaws.{mark-refusal, mark-stroke, stroke-some, refusal-some}
use Rattle.printed.specs.Printed.{stroke_line, drawn_line, byte_line, drawn_lines, taken_line, reply_line, printed}

-- a mark's line, where the plot has `before` bytes before it
unfoldable pub mark_line : ℕ → Mark → List ℕ
mark_line before (stroke s) = stroke_line s
mark_line before (refusal n t) = refusal_text n (before + t)

unfoldable pub mark_lines : ℕ → List Mark → List ℕ
mark_lines before [] = []
mark_lines before (k ∷ ks) = mark_line before k ++ mark_lines before ks

-- what is printed once nothing waits, and once no segment waits
abbrev onward : List ℕ → ℕ → State → List ℕ
onward [] n i = []
onward (b ∷ bs) n i = taken_line b n i (λ j. printed j bs (n + 1))

abbrev idling : List ℕ → ℕ → State → List ℕ
idling bs n i = reply_line i (onward bs n)

by-idling : (m : State) (bs : List ℕ) (n : ℕ) → printed m bs n ≡ drawn_lines (waiting m.work) m (idling bs n)
unfolding printed
by-idling m [] n = refl
by-idling m (b ∷ bs) n = refl

idle-prints : (m : State) (bs : List ℕ) (n : ℕ) → waiting m.work ≡ 0 → printed m bs n ≡ idling bs n m
unfolding drawn_lines
idle-prints m bs n h = by-idling m bs n ∙ ap (λ (k : ℕ). drawn_lines k m (idling bs n)) h

-- where no reply waits none is printed
quiet : (m : State) (bs : List ℕ) (n : ℕ) → replying m.work ≡ false → idling bs n m ≡ onward bs n m
quiet m bs n h = let f = fetch-none m most_reply h in λ i. f.0 i ++ onward bs n (f.1 i)

-- "each reply": what is printed is the reply that waits, if one does, and what is printed once it is fetched
pub reply-prints : (m : State) (bs : List ℕ) (n : ℕ) → printed m bs n ≡ reply_line m (λ i. printed i bs n)
unfolding waiting replying replied
reply-prints m bs n = go m.work refl
  where
    silent : replying m.work ≡ false → printed m bs n ≡ reply_line m (λ i. printed i bs n)
    silent h = let f = fetch-none m most_reply h in λ i. sym f.0 i ++ printed (sym f.1 i) bs n

    idle : waiting m.work ≡ 0 → printed m bs n ≡ reply_line m (λ i. printed i bs n)
    idle h =
        let f = fetch-again m most_reply in
        idle-prints m bs n h
        ∙ ap (λ (l : List ℕ). fetch_text m most_reply ++ l) (sym (idle-prints (fetch_state m most_reply) bs n (fetch-idle m most_reply h) ∙ (λ i. f.0 i ++ onward bs n (f.1 i))))

    go : (w : Work) → m.work ≡ w → printed m bs n ≡ reply_line m (λ i. printed i bs n)
    go work.Nothing e = idle (ap waiting e)
    go (work.Line a b) e = silent (ap replying e)
    go (work.Chords o i k) e = silent (ap replying e)
    go (work.Edges i k) e = silent (ap replying e)
    go (work.Answer r) e = idle (ap waiting e)

-- neither a segment nor a reply waits
free : (w : Work) → occupied w ≡ false → (waiting w ≡ 0) × (replying w ≡ false)
unfolding occupied
free w = go (eqb (waiting w) 0) (replying w) refl
  where
    go : (s r : Bool) → eqb (waiting w) 0 ≡ s → (not s || r) ≡ false → (waiting w ≡ 0) × (r ≡ false)
    go true r e h = (eqb-true (waiting w) 0 e, h)
    go false r e h = never h refl

-- then a machine with no byte prints nothing
pub idle-end : (m : State) (n : ℕ) → occupied m.work ≡ false → printed m [] n ≡ []
idle-end m n h = let f = free m.work h in idle-prints m [] n f.0 ∙ quiet m [] n f.1

-- nor does one whose reply was fetched
pub fetched-end : (m : State) (n : ℕ) → waiting m.work ≡ 0 → printed (fetch_state m most_reply) [] n ≡ []
fetched-end m n h = idle-prints (fetch_state m most_reply) [] n (fetch-idle m most_reply h) ∙ ap (λ (l : List ℕ). l ++ []) (fetch-again m most_reply).0

-- a byte that is taken finds no reply
taken_free : (m : State) (b : ℕ) → untaken (take_number m b) ≡ false → occupied m.work ≡ false
unfolding untaken
taken_free m b h = go (occupied m.work) refl
  where
    go : (o : Bool) → occupied m.work ≡ o → occupied m.work ≡ false
    go true e = never h (ap untaken (held_number m b e))
    go false e = e

module _ (block later : List ℕ) (before : ℕ) where
  -- the lines of a plot of the block from some place on, and those that follow
  abbrev pub plot_lines : Plot → List ℕ
  plot_lines f = mark_lines before f.marks ++ printed f.state (drop f.taken block ++ later) (before + f.taken)

  drew-prints : (d : Drawn) (r : ℕ) (next : ℕ → Plot) (lines : List ℕ) → ((q : ℕ) → lines ≡ plot_lines (next q)) → drawn_line d ++ lines ≡ plot_lines (drew d r next)
  unfolding drew drawn_line mark_lines mark_line
  drew-prints (drawn.Stroke s) r next lines h = ap (λ (l : List ℕ). stroke_line s ++ l) (h r) ∙ sym (append_assoc (stroke_line s) (mark_lines before (next r).marks) _)
  drew-prints drawn.Hidden r next lines h = h (suc r)
  drew-prints drawn.Idle r next lines h = h (suc r)

  took-prints : (n t r : ℕ) (next : ℕ → Plot) (lines : List ℕ) → ((q : ℕ) → lines ≡ plot_lines (next q)) → byte_line n (before + t) ++ lines ≡ plot_lines (took n t r next)
  unfolding took byte_line mark_lines mark_line
  took-prints zero t r next lines h = h (suc r)
  took-prints (suc n) t r next lines h =
      ap (λ (l : List ℕ). refusal_text (suc n) (before + t) ++ l) (h r) ∙ sym (append_assoc (refusal_text (suc n) (before + t)) (mark_lines before (next r).marks) _)

  -- a plot that stops prints what is left
  stop-prints : (m : State) (t n : ℕ) → printed m (drop t block ++ later) (before + t) ≡ plot_lines (stop m t n)
  unfolding mark_lines
  stop-prints m t n = refl

  off-prints : (k : ℕ) (m : State) (t r : ℕ) (idle : State → ℕ → Plot) → waiting m.work ≡ k
      → ((i : State) (q : ℕ) → waiting i.work ≡ 0 → idling (drop t block ++ later) (before + t) i ≡ plot_lines (idle i q))
      → drawn_lines k m (idling (drop t block ++ later) (before + t)) ≡ plot_lines (draw_off k m t r idle)
  unfolding draw_off drawn_lines
  off-prints zero m t r idle w h = h m r w
  off-prints (suc k) m t zero idle w h =
      sym (by-idling m (drop t block ++ later) (before + t) ∙ ap (λ (j : ℕ). drawn_lines j m (idling (drop t block ++ later) (before + t))) w) ∙ stop-prints m t list_full
  off-prints (suc k) m t (suc r) idle w h = drew-prints (draw_answer m) r (λ q. draw_off k (draw_state m) t q idle) _ (λ q. off-prints k (draw_state m) t q idle (draw-less m k w) h)

  -- a byte waits for a record, or is taken
  with-prints : (m : State) (b : ℕ) (bs : List ℕ) (t r : ℕ) (next : State → ℕ → Plot) → printed m (drop t block ++ later) (before + t) ≡ onward (b ∷ bs) (before + t) m
      → ((q : ℕ) → printed (take_state m b) bs (before + t + 1) ≡ plot_lines (next (take_state m b) q))
      → onward (b ∷ bs) (before + t) m ≡ plot_lines (take_with m b t r next)
  unfolding take_with
  with-prints m b bs t zero next e h = sym e ∙ stop-prints m t list_full
  with-prints m b bs t (suc r) next e h =
      ap (λ (n : ℕ). byte_line (take_number m b) n ++ printed (take_state m b) bs (before + t + 1)) sum ∙ took-prints (take_number m b) (t + 1) r (λ q. next (take_state m b) q) _ h
    where
      sum : before + t + 1 ≡ before + (t + 1)
      sum = omega arith

  -- one that is not taken, for a reply waits, is left with that reply
  take-prints : (m : State) (b : ℕ) (bs : List ℕ) (t r : ℕ) (next : State → ℕ → Plot) → waiting m.work ≡ 0 → drop t block ++ later ≡ b ∷ bs
      → ((q : ℕ) → printed (take_state m b) bs (before + t + 1) ≡ plot_lines (next (take_state m b) q))
      → idling (b ∷ bs) (before + t) m ≡ plot_lines (take_on m b t r next)
  unfolding take_on
  take-prints m b bs t r next w e h = whether (λ (f : Plot). idling (b ∷ bs) (before + t) m ≡ plot_lines f) (untaken (take_number m b))
      (λ k. sym held ∙ stop-prints m t (take_number m b))
      (λ k. let q = quiet m (b ∷ bs) (before + t) (free m.work (taken_free m b k)).1 in q ∙ with-prints m b bs t r next (held ∙ q) h)
    where
      held : printed m (drop t block ++ later) (before + t) ≡ idling (b ∷ bs) (before + t) m
      held = ap (λ (l : List ℕ). printed m l (before + t)) e ∙ idle-prints m (b ∷ bs) (before + t) w

  pub plot-prints : (m : State) (bs : List ℕ) (t r : ℕ) → drop t block ≡ bs → printed m (drop t block ++ later) (before + t) ≡ plot_lines (plot_from m bs t r)
  unfolding plot_from
  plot-prints m [] t r e =
      by-idling m (drop t block ++ later) (before + t)
      ∙ off-prints (waiting m.work) m t r (λ i q. stop i t 0) refl (λ i q w. sym (idle-prints i (drop t block ++ later) (before + t) w) ∙ stop-prints i t 0)
  plot-prints m (b ∷ bs) t r e =
      by-idling m (drop t block ++ later) (before + t)
      ∙ off-prints (waiting m.work) m t r _ refl
      (λ i q w. ap (λ (l : List ℕ). idling (l ++ later) (before + t) i) e
      ∙ take-prints i b (bs ++ later) t q (λ j p. plot_from j bs (t + 1) p) w (ap (λ (l : List ℕ). l ++ later) e)
      (λ p. (λ j. printed (take_state i b) (sym next j ++ later) (sum j)) ∙ plot-prints (take_state i b) bs (t + 1) p next))
    where
      next : drop (t + 1) block ≡ bs
      next = sym (drop-drop 1 t block) ∙ ap (drop 1) e

      sum : before + t + 1 ≡ before + (t + 1)
      sum = omega arith

-- ---- how a plot of n bytes with r records ends: with 0 all of them are taken and no segment waits, with another number a reply waits or all records are used

pub record Ended (t n r : ℕ) (f : Plot) : Type 0 where
  pub taken : f.number ≡ 0 → f.taken ≡ t + n
  pub idle : f.number ≡ 0 → waiting f.state.work ≡ 0
  pub filled : (f.number ≡ 0 → ⊥) → replying f.state.work ≡ false → length f.marks ≡ r

drew-ended : (t n r : ℕ) (d : Drawn) (next : ℕ → Plot) → ((q : ℕ) → Ended t n q (next q)) → Ended t n (suc r) (drew d r next)
unfolding drew
drew-ended t n r (drawn.Stroke s) next h = record { taken = (h r).taken; idle = (h r).idle; filled = λ z q. ap suc ((h r).filled z q) }
drew-ended t n r drawn.Hidden next h = h (suc r)
drew-ended t n r drawn.Idle next h = h (suc r)

took-ended : (t n r k i : ℕ) (next : ℕ → Plot) → ((q : ℕ) → Ended (t + 1) n q (next q)) → Ended t (suc n) (suc r) (took k i r next)
unfolding took
took-ended t n r zero i next h = let f = h (suc r) in record { taken = λ e. omega (arith, f.taken e); idle = f.idle; filled = f.filled }
took-ended t n r (suc k) i next h = let f = h r in record { taken = λ e. omega (arith, f.taken e); idle = f.idle; filled = λ z q. ap suc (f.filled z q) }

-- no record is free
full-ended : (t n : ℕ) (m : State) → Ended t n 0 (stop m t list_full)
full-ended t n m = record { taken = λ e. omega (arith, e); idle = λ e. omega (arith, e); filled = λ z q. refl }

off-ended : (t n k : ℕ) (m : State) (r : ℕ) (idle : State → ℕ → Plot) → waiting m.work ≡ k → ((i : State) (q : ℕ) → waiting i.work ≡ 0 → Ended t n q (idle i q))
    → Ended t n r (draw_off k m t r idle)
unfolding draw_off
off-ended t n zero m r idle w h = h m r w
off-ended t n (suc k) m zero idle w h = full-ended t n m
off-ended t n (suc k) m (suc r) idle w h = drew-ended t n r (draw_answer m) (λ q. draw_off k (draw_state m) t q idle) (λ q. off-ended t n k (draw_state m) q idle (draw-less m k w) h)

with-ended : (t n : ℕ) (m : State) (b r : ℕ) (next : State → ℕ → Plot) → ((q : ℕ) → Ended (t + 1) n q (next (take_state m b) q)) → Ended t (suc n) r (take_with m b t r next)
unfolding take_with
with-ended t n m b zero next h = full-ended t (suc n) m
with-ended t n m b (suc r) next h = took-ended t n r (take_number m b) (t + 1) (λ q. next (take_state m b) q) h

-- a byte that is not taken finds a reply
take_ended : (t n : ℕ) (m : State) (b r : ℕ) (next : State → ℕ → Plot) → waiting m.work ≡ 0 → ((q : ℕ) → Ended (t + 1) n q (next (take_state m b) q)) → Ended t (suc n) r (take_on m b t r next)
unfolding take_on replying
take_ended t n m b r next w h = whether (Ended t (suc n) r) (untaken (take_number m b)) held (λ k. with-ended t n m b r next h)
  where
    held : untaken (take_number m b) ≡ true → Ended t (suc n) r (stop m t (take_number m b))
    held k = record {
      taken = λ e. never (none-taken (take_number m b) e) k;
      idle = λ e. w;
      filled = λ z q. never (free-taken m b (free-is {m = m} (record { segment = w; reply = eqb-true (replied m.work).count 0 (not-false _ q) }))) k;
    }

pub plot-ended : (m : State) (bs : List ℕ) (t r : ℕ) → Ended t (length bs) r (plot_from m bs t r)
unfolding plot_from
plot-ended m [] t r =
    off-ended t 0 (waiting m.work) m r (λ i q. stop i t 0) refl (λ i q w. record { taken = λ e. omega arith; idle = λ e. w; filled = λ z q. absurd (z refl) })
plot-ended m (b ∷ bs) t r =
    off-ended t (suc (length bs)) (waiting m.work) m r _ refl
    (λ i q w. take_ended t (length bs) i b q (λ j p. plot_from j bs (t + 1) p) w (λ p. plot-ended (take_state i b) bs (t + 1) p))

-- ---- the marks as a list of plain numbers

-- past the five numbers of a mark
past : (a b c d e : ℤ) (l : List ℤ) (k j : ℕ) → get_or (a ∷ b ∷ c ∷ d ∷ e ∷ l) (suc k * 5 + j) (pos 0) ≡ get_or l (k * 5 + j) (pos 0)
past a b c d e l k j = ap (λ (n : ℕ). get_or (a ∷ b ∷ c ∷ d ∷ e ∷ l) n (pos 0)) sum
  where
    sum : suc k * 5 + j ≡ suc (suc (suc (suc (suc (k * 5 + j)))))
    sum = omega arith

module _ (before : ℕ) where
  later-mark : (a b c d e : ℤ) (l : List ℤ) (k : ℕ) → mark_at before (a ∷ b ∷ c ∷ d ∷ e ∷ l) (suc k) ≡ mark_at before l k
  unfolding mark_at
  later-mark a b c d e l k = λ i.
      cond (first i ≡? pos 0) (refusal_text (nat_abs (nth 1 i)) ((before + nat_abs (nth 2 i)) % 2 ^ 64)) (stroke_text (first i) (nth 1 i) (nth 2 i) (nth 3 i) (nth 4 i))
    where
      sum : suc k * 5 ≡ suc (suc (suc (suc (suc (k * 5)))))
      sum = omega arith

      first : get_or (a ∷ b ∷ c ∷ d ∷ e ∷ l) (suc k * 5) (pos 0) ≡ get_or l (k * 5) (pos 0)
      first = ap (λ (n : ℕ). get_or (a ∷ b ∷ c ∷ d ∷ e ∷ l) n (pos 0)) sum

      nth : (j : ℕ) → get_or (a ∷ b ∷ c ∷ d ∷ e ∷ l) (suc k * 5 + j) (pos 0) ≡ get_or l (k * 5 + j) (pos 0)
      nth j = past a b c d e l k j

  -- the places of the marks may be counted in 64 bits
  module _ (end : ℕ) (small : before + end < 2 ^ 64) (xs : List ℤ) where
    first-mark : (k : Mark) (ks : List Mark) → Told end k → mark_at before (numbers_of (k ∷ ks) ++ xs) 0 ≡ mark_line before k
    unfolding numbers_of mark_line Told
    first-mark (stroke s) ks h = mark-stroke before _ 0 (ne-≡? (λ e. h (ap nat_abs e)))
    first-mark (refusal n t) ks h = mark-refusal before _ 0 (eq-≡? refl) ∙ ap (refusal_text n) (mod-eq_of_lt (omega (arith, h, small)))

    next-mark : (ks : List Mark) (k : ℕ) → Every (Told end) ks → k < length ks → mark_lines before (take (suc k) ks) ≡ mark_lines before (take k ks) ++ mark_at before (numbers_of ks ++ xs) k
    unfolding mark_lines numbers_of
    next-mark [] k t h = absurd (omega arith)
    next-mark (m ∷ ks) zero (more t ts) h = append-nil (mark_line before m) ∙ sym (first-mark m ks t)
    next-mark (m ∷ ks) (suc k) (more t ts) h =
        ap (λ (l : List ℕ). mark_line before m ++ l) (next-mark ks k ts (omega arith) ∙ ap (λ (l : List ℕ). mark_lines before (take k ks) ++ l) (sym (shifted m)))
        ∙ sym (append_assoc (mark_line before m) (mark_lines before (take k ks)) _)
      where
        shifted : (m : Mark) → mark_at before (numbers_of (m ∷ ks) ++ xs) (suc k) ≡ mark_at before (numbers_of ks ++ xs) k
        shifted (stroke s) = later-mark _ _ _ _ _ (numbers_of ks ++ xs) k
        shifted (refusal n t) = later-mark _ _ _ _ _ (numbers_of ks ++ xs) k

    below : (ks : List Mark) (k : ℕ) → Every (Told end) ks → k ≤ length ks → marks_below before (numbers_of ks ++ xs) k ≡ mark_lines before (take k ks)
    unfolding marks_below mark_lines
    below ks zero t h = refl
    below ks (suc k) t h = ap (λ (l : List ℕ). l ++ mark_at before (numbers_of ks ++ xs) k) (below ks k t (omega arith)) ∙ sym (next-mark ks k t (omega arith))

    pub numbers-lines : (ks : List Mark) → Every (Told end) ks → marks_below before (numbers_of ks ++ xs) (length ks) ≡ mark_lines before ks
    numbers-lines ks t = below ks (length ks) t (omega arith) ∙ ap (mark_lines before) (take-length ks)

  mark-some : (k : Mark) → 0 < length (mark_line before k)
  unfolding mark_line
  mark-some (stroke s) = stroke-some (pos s.pen) s.x0 s.y0 s.x1 s.y1
  mark-some (refusal n t) = refusal-some n (before + t)

  pub lines-some : (ks : List Mark) → 0 < length ks → 0 < length (mark_lines before ks)
  unfolding mark_lines
  lines-some [] h = absurd (omega arith)
  lines-some (k ∷ ks) h = omega (arith, length-append (mark_line before k) (mark_lines before ks), mark-some k)
