-- A plot with room for its marks; their lines stand in the buffer, and where there is more there is at least one.
use mathlib.Core.Path.{◌≡◌, ap, ◌∙◌}
use mathlib.Core.Bool.{not}
use Prim.Native.Nat.{ℕ, ◌+◌, ◌*◌, ◌/◌, ◌≤◌}
use native.Mathlib.Omega.{arith}
use lib.Dec.{eqb}
use mathlib.Core.List.{List}
use lib.IntN.{ℤ}
use lib.ListN.{length}
use Rattle.feeding.specs.Plot.{laid_marks}
use Rattle.plotting.specs.declared.Plot.{Plot}
use Rattle.feeding.proofs.PlotLaws.{plot-stored}
use Rattle.hpgl.specs.Machine.{fetch_text}
use Rattle.gathering.specs.declared.Stopped.{Stopped}
use Rattle.machine.specs.Gather.{plotted_of}
use Rattle.machine.specs.Calls.{Told, fetched_by, fetched_from}
use Rattle.machine.specs.Machines.{fetched-is}
use Rattle.textlines.specs.Text.{marks_below}
use Rattle.decimals.specs.Puts.{Puts, puts-same, puts-length, puts_then}
use Rattle.plotting.specs.Plotted.{Ready, moved_of, most_marks}
use Rattle.printed.proofs.PlotPrinted.{mark_lines}
use Rattle.plotting.specs.PlottedLaws.{marked, puts-at, usable-after, marks-lines, steps}
use Rattle.hpgl.specs.Numbers.{most_reply}
use Rattle.plotting.proofs.step.Goals as goal

-- the plot has room for its marks
got-is : (p : Plot) (block : List ℕ) (numbers : List ℤ) {g : Stopped} → length numbers ≡ most_marks * 5 → g ≡ plotted_of (marked p block (length numbers / 5)) → g ≡ plotted_of (marked p block most_marks)
got-is p block numbers n e = e ∙ ap (λ (k : ℕ). plotted_of (marked p block (k / 5))) n

few : (p : Plot) (block : List ℕ) {g : Stopped} → g ≡ plotted_of (marked p block most_marks) → g.stored ≤ most_marks
few p block e = rw e (plot-stored _ _ _ most_marks)

-- the lines of its marks
lined : (p : Plot) (block : List ℕ) (numbers : List ℤ) {last : List ℤ} {g : Stopped} {text after : List ℕ} {end : ℕ} → Ready p block → length numbers ≡ most_marks * 5
    → g ≡ plotted_of (marked p block most_marks) → last ≡ laid_marks (marked p block (length numbers / 5)).marks numbers
    → Puts (marks_below p.before last g.stored) text after p.length end → Puts (mark_lines p.before (marked p block most_marks).marks) text after p.length end
lined p block numbers h n e l s =
    let laid = l ∙ ap (λ (k : ℕ). laid_marks (marked p block (k / 5)).marks numbers) n in
    puts-same ((λ i. marks_below p.before (laid i) (e i).stored) ∙ marks-lines p block most_marks h _) s

-- the reply after them
replied : (p : Plot) (block : List ℕ) {g : Stopped} {f : Told} {before after : List ℕ} {end : ℕ} → g ≡ plotted_of (marked p block most_marks)
    → f ≡ fetched_from g.state most_reply → Puts (fetch_text g.state most_reply) before after end (end + f.length)
    → let m = (marked p block most_marks).state in Puts (fetch_text m most_reply) before after end (end + length (fetch_text m most_reply))
unfolding fetched_from
replied p block {f = f} {end = end} e k s =
    let is : f ≡ fetched_from (marked p block most_marks).state most_reply = k ∙ ap (λ (g : Stopped). fetched_from g.state most_reply) e in
    puts-at (ap (λ (f : Told). end + f.length) is) (puts-same (ap (λ (g : Stopped). fetch_text g.state most_reply) e) s)

pub mark_lines-end-requires : goal.mark_lines-end-requires
mark_lines-end-requires c =
    let p = c.args.p in
    let e = got-is p c.args.block.now c.args.numbers.now c.requires.numbers_len c.plot-g.ensures.value in
    let f = few p c.args.block.now e in
    record { longest_in_bounds = omega arith; count_in_bounds = omega (arith, c.plot-g.auto.numbers) }

pub put_reply-f-requires : goal.put_reply-f-requires
put_reply-f-requires c =
    let p = c.args.p in
    let e = got-is p c.args.block.now c.args.numbers.now c.requires.numbers_len c.plot-g.ensures.value in
    let f = few p c.args.block.now e in
    omega (arith, c.mark_lines-end.ensures.upper_bound, puts-length c.mark_lines-end.ensures.puts)

pub returns : goal.returns
returns c =
    let p = c.args.p in
    let block = c.args.block.now in
    let e = got-is p block c.args.numbers.now c.requires.numbers_len c.plot-g.ensures.value in
    let k = c.put_reply-f.ensures in
    let is = fetched-is c.put_reply-f.result (usable-after p block most_marks c.requires.ready) (k.value ∙ ap (λ (g : Stopped). fetched_from g.state most_reply) e) in
    let end = c.mark_lines-end.result in
    let s = steps p block most_marks c.requires.ready end
    (c.moved.ensures ∙ (λ i. moved_of p (e i).at (is i) end (not (eqb (e i).number 0))))
    (omega arith)
    (puts_then (lined p block c.args.numbers.now c.requires.ready c.requires.numbers_len e c.plot-g.ensures.numbers_after c.mark_lines-end.ensures.puts) (replied p block e k.value k.puts)) in
    record { plotted = s.0; length_lt_length = s.1 }
