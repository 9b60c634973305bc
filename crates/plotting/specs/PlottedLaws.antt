-- Laws of printing by blocks: a plot prints its lines, and one part after another.
use Rattle.std.specs.Prelude.{Bool, true, false, cond, not, ◌≡◌, eqb, leb, ℤ, take}
use Rattle.std.proofs.lemmas.Bool.{false≢true}
use mathlib.Core.List.{List, [], ◌++◌, append_assoc}
use Rattle.std.proofs.Math.Path.{refl, sym, ap, subst}
use Rattle.std.proofs.Common.{◌∙◌, arith, length-drop, take-append-drop, drop-drop, length-take-le}
use Prim.Native.Nat.{ℕ, ◌+◌, ◌^◌, ◌≤◌, ◌<◌}
use borrow.Author.Tests.{eqb-true, eqb-false, leb-true, not-true, not-false}
use Rattle.std.proofs.Math.ListN.{length, drop, length-append}
use Rattle.std.proofs.Math.Seq.{drop-length}
use Rattle.std.proofs.lemmas.List.{drop-append-le}
use Rattle.std.proofs.lemmas.List.Edits.{sets-eq}
use Rattle.clip.specs.declared.Rect.{Rect}
use Rattle.hpgl.specs.declared.State.{State}
use Rattle.hpgl.specs.Machine.{fresh_state, waiting, replied, replying, occupied, fetch_state, fetched_of, fetch_text, fetch_out}
use Rattle.hpgl.specs.Replies.{reply_text}
use Rattle.hpgl.proofs.Cases.{whether}
use Rattle.feeding.specs.Plot.{plot_from, numbers_of}
use Rattle.feeding.specs.Plot.{Plot as Marked}
use Rattle.feeding.proofs.WhatMarksTell.{plot-told}
use Rattle.hpgl.specs.Valid.{Usable}
use Rattle.hpgl.proofs.ValidKept.{usable-fetch}
use Rattle.hpgl.proofs.ReplyLaws.{reply-short}
use Rattle.hpgl.proofs.FetchLaws.{fetch-some}
use Rattle.feeding.proofs.PlotLaws.{plot-place, plot-usable}
use Rattle.machine.specs.declared.Machine.{Machine}
use Rattle.machine.specs.declared.Fetched.{Fetched}
use Rattle.machine.specs.declared.Started.{Started}
use Rattle.machine.specs.Calls.{Numbered, started_by, started_of, fetched_from}
use Rattle.machine.specs.Machines.{fetched_as}
use Rattle.textlines.specs.Text.{marks_below}
use Rattle.decimals.specs.Puts.{Puts, puts-nothing, puts_then}
use Rattle.plotting.specs.declared.Plot.{Plot}
use Rattle.hpgl.specs.Numbers.{most_reply}
use Rattle.printed.specs.Printed.{printed}
use Rattle.plotting.specs.Plotted.{begun_of, emptied_of, moved_of, due, Ready, Plotted}
use Rattle.printed.proofs.PlotPrinted.{mark_lines, fetched-end, reply-prints, plot-prints, Ended, plot-ended, numbers-lines, lines-some}

pub plotted-nothing : {p : Plot} {block : List ℕ} (text : List ℕ) → Ready p block → p.length ≤ length text → Plotted p p block text text
plotted-nothing text h l = record { text = []; prints = λ later. refl; puts = puts-nothing text l; ready = h; earlier = refl }

pub plotted-then : {p q r : Plot} {block a b c : List ℕ} → Plotted p q block a b → Plotted q r block b c → Plotted p r block a c
plotted-then {r} {block} h k = record {
  text = h.text ++ k.text;
  prints = λ later. h.prints later ∙ ap (λ (l : List ℕ). h.text ++ l) (k.prints later) ∙ sym (append_assoc h.text k.text (due r block later));
  puts = puts_then h.puts k.puts;
  ready = k.ready;
  earlier = k.earlier ∙ h.earlier;
}

-- fresh makes a machine that may be used
pub started-usable : (s : Started) → Usable s.machine.state
started-usable s = s.machine.usable

-- and nothing waits
pub started-free : (s : Started) (r : Rect) → started_by s ≡ started_of r → occupied s.machine.state.work ≡ false
unfolding started_of fresh_state occupied waiting replying replied
started-free s r e = ap (λ (t : Numbered). occupied t.state.work) e

-- ---- a block, a bufferful at a time

-- between two bufferfuls
pub record Between (p : Plot) (block : List ℕ) : Type 0 where
  pub ready : Ready p block
  pub empty : p.length ≡ 0

pub begins : {p : Plot} {m : Machine} {n : ℕ} {block : List ℕ} → p ≡ begun_of m n → n + length block < 2 ^ 64
    → Between p block
begins {block} e c =
    subst (λ (p : Plot). Between p block) (sym e)
    (record { ready = record { place = omega arith; count = c; ends = λ z. absurd (false≢true (sym z)) }; empty = refl })

pub empties : {p q : Plot} {block : List ℕ} → q ≡ emptied_of p → Ready p block → Between q block
empties {block} e h =
    subst (λ (q : Plot). Between q block) (sym e)
    (record { ready = record { place = h.place; count = h.count; ends = h.ends }; empty = refl })

-- what a block still asks for: lines, or to be told that there is no more
abbrev pub left : Plot → List ℕ → ℕ
left p block = length (due p block []) + cond p.more 1 0

pub left_less : {p q r : Plot} {block before after : List ℕ} → Plotted p q block before after → p.more ≡ true → (q.more ≡ true → p.length < q.length)
    → r ≡ emptied_of q → left r block < left p block
left_less {p} {q} {block} h e grows f = subst (λ (r : Plot). left r block < left p block) (sym f) (go p.more q.more e grows)
  where
    go : (m n : Bool) → m ≡ true → (n ≡ true → p.length < q.length) → length (due q block []) + cond n 1 0 < length (due p block []) + cond m 1 0
    go false n e g = absurd (false≢true e)
    go true true e g =
        omega (arith, g refl, h.puts.ends, ap length (h.prints []), length-append h.text (due q block []))
    go true false e g = omega (arith, ap length (h.prints []), length-append h.text (due q block []))

-- ---- a reply in the buffer

pub reply-fits : (m : State) → length (fetch_text m most_reply) ≤ most_reply
unfolding fetch_text fetched_of
reply-fits m =
    let text : List ℕ = reply_text (replied m.work) in
    whether (λ (l : List ℕ). length l ≤ most_reply) (leb (length text) most_reply) (λ e. leb-true (length text) most_reply e) (λ e. omega arith)

pub puts-at : {s l m : List ℕ} {at end other : ℕ} → end ≡ other → Puts s l m at end → Puts s l m at other
puts-at {s} {l} {m} {at} e p = subst (Puts s l m at) e p

-- a text at the start of a part of a buffer, of n bytes from a place on, stands in the buffer at that place
pub puts-part : (text buffer : List ℕ) (at n : ℕ) → at + n ≤ length buffer → length text ≤ n →
    Puts text buffer (take at buffer ++ ((text ++ drop (length text) (take n (drop at buffer))) ++ drop n (drop at buffer))) at (at + length text)
puts-part text buffer at n room fits = record {
  ends = refl;
  room = omega arith;
  list =
      ap (λ (l : List ℕ). take at buffer ++ l)
      (append_assoc text (drop k (take n rest)) (drop n rest)
      ∙ ap (λ (l : List ℕ). text ++ l)
      (sym (drop-append-le k (take n rest) (drop n rest) held) ∙ ap (drop k) (take-append-drop n rest) ∙ drop-drop k at buffer))
      ∙ sym (append_assoc (take at buffer) text (drop (at + length text) buffer)) ∙ sym (sets-eq text buffer at (omega arith));
}
  where
    k : ℕ
    k = length text

    rest : List ℕ
    rest = drop at buffer

    held : length text ≤ length (take n (drop at buffer))
    held = omega (arith, fits, room, length-take-le n (drop at buffer) (omega (arith, room, length-drop at buffer)))

-- the part that is lent has room for every reply, and just that
module _ (m : State) (buffer : List ℕ) (at n : ℕ) (room : at + most_reply ≤ length buffer) (e : n ≡ most_reply) where
  abbrev part : List ℕ
  part = take n (drop at buffer)

  pub part_length : length part ≡ most_reply
  part_length = length-take-le n (drop at buffer) (omega (arith, room, e, length-drop at buffer)) ∙ e

  pub reply-put : {last : List ℕ} → last ≡ fetch_out m part
      → Puts (fetch_text m most_reply) buffer (take at buffer ++ (last ++ drop n (drop at buffer))) at (at + length (fetch_text m most_reply))
  unfolding fetch_out
  reply-put out =
      let text : List ℕ = fetch_text m most_reply in
      let is = out ∙ ap (λ (k : ℕ). fetch_text m k ++ drop (length (fetch_text m k)) part) part_length in
      subst (λ (l : List ℕ). Puts text buffer (take at buffer ++ (l ++ drop n (drop at buffer))) at (at + length text)) (sym is)
      (puts-part text buffer at n (omega (arith, room, e)) (omega (arith, e, reply-fits m)))

-- ---- one plot

-- a part that goes on makes the text longer
abbrev pub Steps : Plot → Plot → List ℕ → List ℕ → List ℕ → Type 0
Steps p q block before after = Plotted p q block before after × (q.more ≡ true → p.length < q.length)

-- one plot, with r free records
abbrev pub marked : Plot → List ℕ → ℕ → Marked
marked p block r = plot_from p.machine.state (drop p.at block) p.at r

module _ (p : Plot) (block : List ℕ) (r : ℕ) (h : Ready p block) where
  abbrev got : Marked
  got = marked p block r

  -- the bytes of the block that are left
  rest : p.at + length (drop p.at block) ≡ length block
  rest = omega (arith, h.place, length-drop p.at block)

  ended : Ended p.at (length (drop p.at block)) r got
  ended = plot-ended p.machine.state (drop p.at block) p.at r

  -- the machine once its reply is fetched
  abbrev after : State
  after = fetch_state got.state most_reply

  nothing-due : got.number ≡ 0 → printed after (drop got.taken block ++ []) (p.before + got.taken) ≡ []
  nothing-due z = rw (ended.taken z ∙ rest) (rw (drop-length block) (fetched-end got.state (p.before + length block) (ended.idle z)))

  pub usable-got : Usable got.state
  usable-got = plot-usable p.machine.state (drop p.at block) p.at r p.machine.usable

  pub usable-after : Usable (fetched_from got.state most_reply).state
  unfolding fetched_from
  usable-after = usable-fetch most_reply usable-got

  -- a plot that stops before the end has marks, or a reply waits after it
  some-text : 0 < r → (got.number ≡ 0 → ⊥) → 0 < length (mark_lines p.before got.marks) + length (fetch_text got.state most_reply)
  some-text some z = go (replying got.state.work) refl
    where
      go : (b : Bool) → replying got.state.work ≡ b → 0 < length (mark_lines p.before got.marks) + length (fetch_text got.state most_reply)
      go true e = omega (arith, fetch-some got.state most_reply e (reply-short usable-got.valid))
      go false e = omega (arith, lines-some p.before got.marks (omega (arith, some, ended.filled z e)))

  -- the numbers of its marks make its lines
  pub marks-lines : (xs : List ℤ) → marks_below p.before (numbers_of got.marks ++ xs) (length got.marks) ≡ mark_lines p.before got.marks
  marks-lines xs =
      numbers-lines p.before (length block) h.count xs got.marks
      (plot-told (length block) p.machine.state (drop p.at block) p.at r (omega (arith, rest)) p.machine.usable)

  -- the answer of the fetch
  abbrev pub reply-fetched : Fetched
  reply-fetched = fetched_as (fetched_from got.state most_reply) usable-after

  -- what the code makes of it: there is more where the number is not 0
  pub steps : {q : Plot} {before after : List ℕ} (end : ℕ)
      → q ≡ moved_of p got.taken reply-fetched end (not (eqb got.number 0)) → 0 < r
      → Puts (mark_lines p.before got.marks ++ fetch_text got.state most_reply) before after p.length (end + length (fetch_text got.state most_reply))
      → Steps p q block before after
  unfolding fetched_from
  steps {before} {after} end e some puts = subst (λ (q : Plot). Steps p q block before after) (sym e) (
    record {
      text = lines ++ reply;
      prints = λ later.
          plot-prints block later p.before p.machine.state (drop p.at block) p.at r refl
          ∙ ap (λ (l : List ℕ). lines ++ l) (reply-prints got.state (drop got.taken block ++ later) (p.before + got.taken))
          ∙ sym (append_assoc lines reply _);
      puts = puts;
      ready = record {
        place = omega (arith, rest, (plot-place p.machine.state (drop p.at block) p.at r).1);
        count = h.count;
        ends = λ z. let n = eqb-true got.number 0 (not-false _ z) in (ended.taken n ∙ rest, nothing-due n);
      };
      earlier = refl;
    },
    λ z. omega (arith, puts.ends, length-append lines reply, some-text some (eqb-false got.number 0 (not-true _ z))),
  )
    where
      lines : List ℕ
      lines = mark_lines p.before got.marks

      reply : List ℕ
      reply = fetch_text got.state most_reply
