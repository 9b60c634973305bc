-- The proof of `gather`. The invariant is `Far` (Gathers.antt): the marks so far stand in the list, and what is left of feed or plot follows them; with it the
-- frame is that of the settings, and `here` the location of the hand. A turn draws, or does what one event asks (Moving.antt), and ends. What is left where the
-- ways meet is a refusal that changed nothing (`declines`), of which its number alone is told there.
-- The measure: what waits, and for each byte left one more than can wait after it, which is at most the 720 chords of a circle.
use mathlib.Core.Path.{◌≡◌, refl, sym, ap, subst, ◌∙◌}
use mathlib.Core.Bool.{Bool, true, false, cond}
use mathlib.Core.List.{List}
use Prim.Native.Nat.{ℕ, ◌+◌, ◌*◌, ◌-◌, ◌/◌, ◌^◌, ◌≤◌, ◌<◌}
use native.Mathlib.Omega.{arith}
use borrow.Author.Tests.{ne_eqb}
use lib.IntN.{ℤ}
use lib.ListN.{length, get_or, set, drop}
use Rattle.clip.specs.Reach.{SmallRect}
use Rattle.clip.specs.declared.Rect.{Rect}
use Rattle.turns.specs.Turn.{rows_of}
use Rattle.reader.specs.declared.Coordinates.{Coordinates}
use Rattle.reader.specs.declared.Event.{Event}
use Rattle.reader.specs.declared.Event.TheVariants as event
use Rattle.reader.specs.declared.Next.{Next}
use Rattle.reader.specs.declared.Step.{Step}
use Rattle.reader.specs.Sizes.{SmallPair}
use Rattle.reader.specs.Step.{passed_over}
use Rattle.hpgl.specs.declared.Polygon.{Polygon}
use Rattle.hpgl.specs.declared.Carriage.{Carriage}
use Rattle.hpgl.specs.declared.Core.{Core}
use Rattle.hpgl.specs.declared.Action.TheVariants.{Keep, Join}
use Rattle.hpgl.specs.declared.Acted.{Acted}
use Rattle.hpgl.specs.declared.Edge.{Edge}
use Rattle.hpgl.specs.declared.Store.{Store}
use Rattle.hpgl.specs.declared.Work.{Work}
use Rattle.hpgl.specs.declared.Work.TheVariants.{Nothing}
use Rattle.hpgl.specs.declared.State.{State}
use Rattle.hpgl.specs.Numbers.{most_edges, polygon_bytes}
use Rattle.feeding.specs.Plot.{Plot, refusal}
use Rattle.hpgl.specs.Place.{limits}
use Rattle.hpgl.specs.Rules.{longer, refuse, pair_rule, noting, act_on}
use Rattle.hpgl.specs.Machine.{no_edge, waiting, occupied, stored, queued, draw_answer}
use Rattle.hpgl.specs.Replies.{remembering, remembered}
use Rattle.hpgl.specs.Segment.{segment_of, drawn_of, SmallSegment}
use Rattle.hpgl.proofs.SegmentLaws.{segment-drawn, segment-small}
use Rattle.hpgl.specs.Valid.{ValidActed, ValidEvent, ValidAction}
use Rattle.hpgl.proofs.ValidFacts.{edge-small, limits-small}
use Rattle.hpgl.proofs.ReaderKept.{step-event}
use Rattle.hpgl.proofs.ValidKept.{valid-event}
use Rattle.rulekit.specs.declared.places.Frame.{Frame}
use Rattle.rulekit.specs.declared.hand.Hand.{Hand}
use Rattle.rulekit.specs.declared.hand.Pointed.{Pointed as Placed}
use Rattle.queue.specs.Alone.{action-alone}
use Rattle.queue.specs.First.{place-within}
use Rattle.queue.specs.Corners.{segment_in}
use Rattle.rulekit.specs.Hand.{frame_of, hand_of, carriage_of, core_of, noted_hand, noted-parts, line_of, pointed_of, location_in, ValidParts}
use Rattle.rulekit.specs.Locating.{frame-rows, hand-locatable}
use Rattle.gathering.specs.Gather.{whole, gather_from, record_of}
use Rattle.gathering.specs.Far.{Far, Reached, Batching}
use Rattle.gathering.specs.GatherLaws.{idle-free}
use Rattle.gathering.proofs.Turns.{Unjoined, leaves, reader-on, acting, none-acts, refused-acts, ended-acts, settled-acts, pair-acts, pair-refused, named-acts, unknown-acts, unstored}
use Rattle.gathering.proofs.Gathers.{waits-most, waits-less, byte-remains, none-remains, far-start, far-free, far-silent, put-fits, far-fits, far-halted, far-end, far-draw, far-next, ends}
use Rattle.gathering.proofs.Moving.{letters-position, doing, next-turned, next_fits, next-full, next-kept, next_small, next_drawn, next-point, next-outline, refusal-some, next-refusal, next-refused}
use Rattle.gathering.proofs.Chording.{alone_waits}
use Rattle.gathering.proofs.gather.Goals as goal
use Rattle.gathering.proofs.gather.Goals.{in-Named+else-number-eq0, in-Pair+then-polygon+else-number-eq0-2, in-Pair+else-polygon+else-number-eq0-3, in-Refused}
use Rattle.gathering.proofs.gather.Lts
use Rattle.gathering.proofs.gather.Tie
use Rattle.gathering.proofs.gather.Reads

abbrev After-batched : Type 0
After-batched = Lts.After-batched Tie.the-claims Reads.Pre Reads.Post goal.the-invariant-loop-sines goal.the-decreases-loop-sines Tie.handed_clauses

abbrev After-carried-c : Type 0
After-carried-c = Lts.After-carried Tie.the-claims Reads.Pre Reads.Post goal.the-invariant-loop-sines goal.the-decreases-loop-sines Tie.handed_clauses

abbrev After-core_of : Type 0
After-core_of = Lts.After-core_of3 Tie.the-claims Reads.Pre Reads.Post goal.the-invariant-loop-sines goal.the-decreases-loop-sines Tie.handed_clauses

abbrev After-core_of-core : Type 0
After-core_of-core = Lts.After-core_of Tie.the-claims Reads.Pre Reads.Post goal.the-invariant-loop-sines goal.the-decreases-loop-sines Tie.handed_clauses

abbrev After-core_of-core-2 : Type 0
After-core_of-core-2 = Lts.After-core_of6 Tie.the-claims Reads.Pre Reads.Post goal.the-invariant-loop-sines goal.the-decreases-loop-sines Tie.handed_clauses

abbrev After-core_of-core-in-loop-sines : Type 0
After-core_of-core-in-loop-sines = Lts.After-core_of5 Tie.the-claims Reads.Pre Reads.Post goal.the-invariant-loop-sines goal.the-decreases-loop-sines Tie.handed_clauses

abbrev After-core_of-core-then-overflows : Type 0
After-core_of-core-then-overflows = Lts.After-core_of2 Tie.the-claims Reads.Pre Reads.Post goal.the-invariant-loop-sines goal.the-decreases-loop-sines Tie.handed_clauses

abbrev After-core_of-left : Type 0
After-core_of-left = Lts.After-core_of4 Tie.the-claims Reads.Pre Reads.Post goal.the-invariant-loop-sines goal.the-decreases-loop-sines Tie.handed_clauses

abbrev After-drawn_of-drawn : Type 0
After-drawn_of-drawn = Lts.After-drawn_of Tie.the-claims Reads.Pre Reads.Post goal.the-invariant-loop-sines goal.the-decreases-loop-sines Tie.handed_clauses

abbrev After-drawn_of-drawn-then-number-eq0-3 : Type 0
After-drawn_of-drawn-then-number-eq0-3 = Lts.After-drawn_of2 Tie.the-claims Reads.Pre Reads.Post goal.the-invariant-loop-sines goal.the-decreases-loop-sines Tie.handed_clauses

abbrev After-edge_place : Type 0
After-edge_place = Lts.After-edge_place Tie.the-claims Reads.Pre Reads.Post goal.the-invariant-loop-sines goal.the-decreases-loop-sines Tie.handed_clauses

abbrev After-end_rule-t : Type 0
After-end_rule-t = Lts.After-end_rule Tie.the-claims Reads.Pre Reads.Post goal.the-invariant-loop-sines goal.the-decreases-loop-sines Tie.handed_clauses

abbrev After-frame_of-frame : Type 0
After-frame_of-frame = Lts.After-frame_of Tie.the-claims Reads.Pre Reads.Post goal.the-invariant-loop-sines goal.the-decreases-loop-sines Tie.handed_clauses

abbrev After-frame_of-frame-in-Ended : Type 0
After-frame_of-frame-in-Ended = Lts.After-frame_of2 Tie.the-claims Reads.Pre Reads.Post goal.the-invariant-loop-sines goal.the-decreases-loop-sines Tie.handed_clauses

abbrev After-halted-halt : Type 0
After-halted-halt = Lts.After-halted Tie.the-claims Reads.Pre Reads.Post goal.the-invariant-loop-sines goal.the-decreases-loop-sines Tie.handed_clauses

abbrev After-hand_of-hand : Type 0
After-hand_of-hand = Lts.After-hand_of Tie.the-claims Reads.Pre Reads.Post goal.the-invariant-loop-sines goal.the-decreases-loop-sines Tie.handed_clauses

abbrev After-hand_of-hand-in-Ended : Type 0
After-hand_of-hand-in-Ended = Lts.After-hand_of2 Tie.the-claims Reads.Pre Reads.Post goal.the-invariant-loop-sines goal.the-decreases-loop-sines Tie.handed_clauses

abbrev After-heavy : Type 0
After-heavy = Lts.After-heavy Tie.the-claims Reads.Pre Reads.Post goal.the-invariant-loop-sines goal.the-decreases-loop-sines Tie.handed_clauses

abbrev After-line_of : Type 0
After-line_of = Lts.After-line_of Tie.the-claims Reads.Pre Reads.Post goal.the-invariant-loop-sines goal.the-decreases-loop-sines Tie.handed_clauses

abbrev After-located_in-here-in-Ended : Type 0
After-located_in-here-in-Ended = Lts.After-located_in2 Tie.the-claims Reads.Pre Reads.Post goal.the-invariant-loop-sines goal.the-decreases-loop-sines Tie.handed_clauses

abbrev After-name_number-number : Type 0
After-name_number-number = Lts.After-name_number Tie.the-claims Reads.Pre Reads.Post goal.the-invariant-loop-sines goal.the-decreases-loop-sines Tie.handed_clauses

abbrev After-next-q : Type 0
After-next-q = Lts.After-next Tie.the-claims Reads.Pre Reads.Post goal.the-invariant-loop-sines goal.the-decreases-loop-sines Tie.handed_clauses

abbrev After-noted-hand : Type 0
After-noted-hand = Lts.After-noted Tie.the-claims Reads.Pre Reads.Post goal.the-invariant-loop-sines goal.the-decreases-loop-sines Tie.handed_clauses

abbrev After-noted-hand-in-loop-sines : Type 0
After-noted-hand-in-loop-sines = Lts.After-noted2 Tie.the-claims Reads.Pre Reads.Post goal.the-invariant-loop-sines goal.the-decreases-loop-sines Tie.handed_clauses

abbrev After-outline-work : Type 0
After-outline-work = Lts.After-outline Tie.the-claims Reads.Pre Reads.Post goal.the-invariant-loop-sines goal.the-decreases-loop-sines Tie.handed_clauses

abbrev After-overflows : Type 0
After-overflows = Lts.After-overflows Tie.the-claims Reads.Pre Reads.Post goal.the-invariant-loop-sines goal.the-decreases-loop-sines Tie.handed_clauses

abbrev After-passed_over-reader : Type 0
After-passed_over-reader = Lts.After-passed_over Tie.the-claims Reads.Pre Reads.Post goal.the-invariant-loop-sines goal.the-decreases-loop-sines Tie.handed_clauses

abbrev After-passed_over-reader-in-loop-sines : Type 0
After-passed_over-reader-in-loop-sines = Lts.After-passed_over2 Tie.the-claims Reads.Pre Reads.Post goal.the-invariant-loop-sines goal.the-decreases-loop-sines Tie.handed_clauses

abbrev After-point-t : Type 0
After-point-t = Lts.After-point Tie.the-claims Reads.Pre Reads.Post goal.the-invariant-loop-sines goal.the-decreases-loop-sines Tie.handed_clauses

abbrev After-polygon-in-Ended-1 : Type 0
After-polygon-in-Ended-1 = Lts.After-polygon2 Tie.the-claims Reads.Pre Reads.Post goal.the-invariant-loop-sines goal.the-decreases-loop-sines Tie.handed_clauses

abbrev After-queued-work : Type 0
After-queued-work = Lts.After-queued Tie.the-claims Reads.Pre Reads.Post goal.the-invariant-loop-sines goal.the-decreases-loop-sines Tie.handed_clauses

abbrev After-queued-work-in-Ended : Type 0
After-queued-work-in-Ended = Lts.After-queued2 Tie.the-claims Reads.Pre Reads.Post goal.the-invariant-loop-sines goal.the-decreases-loop-sines Tie.handed_clauses

abbrev After-refusal_record : Type 0
After-refusal_record = Lts.After-refusal_record Tie.the-claims Reads.Pre Reads.Post goal.the-invariant-loop-sines goal.the-decreases-loop-sines Tie.handed_clauses

abbrev After-refusal_record-then-on-2 : Type 0
After-refusal_record-then-on-2 = Lts.After-refusal_record2 Tie.the-claims Reads.Pre Reads.Post goal.the-invariant-loop-sines goal.the-decreases-loop-sines Tie.handed_clauses

abbrev After-remains : Type 0
After-remains = Lts.After-remains Tie.the-claims Reads.Pre Reads.Post goal.the-invariant-loop-sines goal.the-decreases-loop-sines Tie.handed_clauses

abbrev After-segment-s : Type 0
After-segment-s = Lts.After-segment Tie.the-claims Reads.Pre Reads.Post goal.the-invariant-loop-sines goal.the-decreases-loop-sines Tie.handed_clauses

abbrev After-shift-t : Type 0
After-shift-t = Lts.After-shift Tie.the-claims Reads.Pre Reads.Post goal.the-invariant-loop-sines goal.the-decreases-loop-sines Tie.handed_clauses

abbrev After-table-sines : Type 0
After-table-sines = Lts.After-table Tie.the-claims Reads.Pre Reads.Post goal.the-invariant-loop-sines goal.the-decreases-loop-sines Tie.handed_clauses

abbrev After-takes_pairs : Type 0
After-takes_pairs = Lts.After-takes_pairs Tie.the-claims Reads.Pre Reads.Post goal.the-invariant-loop-sines goal.the-decreases-loop-sines Tie.handed_clauses

abbrev After-waiting : Type 0
After-waiting = Lts.After-waiting Tie.the-claims Reads.Pre Reads.Post goal.the-invariant-loop-sines goal.the-decreases-loop-sines Tie.handed_clauses

abbrev At-loop-sines : Type 0
At-loop-sines = Lts.At-loop Tie.the-claims Reads.Pre Reads.Post goal.the-invariant-loop-sines goal.the-decreases-loop-sines Tie.handed_clauses

abbrev In-Ended-2 : Type 0
In-Ended-2 = Lts.After-takes_pairs Tie.the-claims Reads.Pre Reads.Post goal.the-invariant-loop-sines goal.the-decreases-loop-sines Tie.handed_clauses

abbrev Joined-event : Type 0
Joined-event = Lts.At-match-branch Tie.the-claims Reads.Pre Reads.Post goal.the-invariant-loop-sines goal.the-decreases-loop-sines Tie.handed_clauses

abbrev Start : Type 0
Start = Lts.Start Tie.the-claims Reads.Pre Reads.Post goal.the-invariant-loop-sines goal.the-decreases-loop-sines Tie.handed_clauses

-- ---- the places of a turn, by name

abbrev Loop : Type 0
Loop = At-loop-sines

abbrev Going : Type 0
Going = After-waiting

abbrev Waits : Type 0
Waits = After-batched

abbrev Read : Type 0
Read = After-next-q

abbrev Pointed : Type 0
Pointed = After-point-t

abbrev Shifted : Type 0
Shifted = After-shift-t

abbrev Moved : Type 0
Moved = After-overflows

abbrev Ended : Type 0
Ended = After-end_rule-t

-- the core that the rule left is taken apart
abbrev Ruled : Type 0
Ruled = After-polygon-in-Ended-1

abbrev Rule-core : Type 0
Rule-core = After-core_of

abbrev Rule-frame : Type 0
Rule-frame = After-frame_of-frame-in-Ended

abbrev Instructed : Type 0
Instructed = In-Ended-2

abbrev Line-drawn : Type 0
Line-drawn = After-drawn_of-drawn-then-number-eq0-3

abbrev Line-queued : Type 0
Line-queued = After-queued-work

abbrev Action-queued : Type 0
Action-queued = After-queued-work-in-Ended

abbrev Passed : Type 0
Passed = After-passed_over-reader

-- where what is left is a refusal
abbrev Met : Type 0
Met = Joined-event

-- the reader that passes over the rest
abbrev Declined : Type 0
Declined = After-passed_over-reader-in-loop-sines

-- where its number is remembered
abbrev Refusal-noted : Type 0
Refusal-noted = After-noted-hand

abbrev Declined-noted : Type 0
Declined-noted = After-noted-hand-in-loop-sines

abbrev handed : Loop → After-hand_of-hand
handed l = search

abbrev start : After-hand_of-hand → Start
start h = search

abbrev laid : After-hand_of-hand → After-table-sines
laid h = search

abbrev entry : Loop → Start
entry l = start (handed l)

abbrev going : Going → Loop
going e = search

abbrev waits : Waits → Loop
waits w = search

abbrev loop : Read → Loop
loop q = search

abbrev pointing : Pointed → Read
pointing p = search

abbrev shifts : Shifted → Read
shifts t = search

abbrev moved : Moved → Shifted
moved o = search

abbrev moving : Moved → Read
moving o = shifts (moved o)

abbrev ending : Ended → Read
ending a = search

abbrev ended_of : After-hand_of-hand-in-Ended → Ended
ended_of h = search

abbrev hand-now : Ruled → After-hand_of-hand-in-Ended
hand-now r = search

abbrev ended : Ruled → Ended
ended r = ended_of (hand-now r)

abbrev read : Ruled → Read
read r = ending (ended r)

abbrev met : Met → Read
met j = search

-- the machine that the parts make
abbrev here : Loop → State
here l = whole l.loop-sines.reader (core_of l.loop-sines.settings l.loop-sines.hand l.loop-sines.polygon) l.loop-sines.store l.loop-sines.work

-- its core after a pair that moves the carriage
abbrev moved-core : Moved → Core
moved-core o = let l = (loop (moving o)).loop-sines in core_of l.settings (moved o).shift-t.result.hand l.polygon

-- ---- what is called or read again, by name, each with what it tells of the locals

told-ended : (e : Instructed) → let q : Read = search in q.next-q.result.event ≡ event.Ended e.in-Ended.op e.in-Ended.n
told-ended e = e.in-Ended.is

-- the cores that are put together: for an end, and for a rule
halt-core : (k : After-core_of-core) → let l : Loop = search in k.core_of-core.result ≡ (here l).core
halt-core k = k.core_of-core.ensures

full-core : (k : After-core_of-core-then-overflows) → let o : Moved = search in k.core_of-core-then-overflows.result ≡ moved-core o
full-core k = k.core_of-core-then-overflows.ensures

rule-core : (k : Rule-core) → let q : Read = search in k.core_of.result ≡ (here (loop q)).core
rule-core k = k.core_of.ensures

end-core : (k : After-core_of-core-2) → let l : Loop = search in k.core_of-core-2.result ≡ (here l).core
end-core k = k.core_of-core-2.ensures

-- the parts of the core that a rule leaves
abbrev new-hand : Ruled → Hand
new-hand r = (hand-now r).hand_of-hand-in-Ended.result

hand-is : (r : Ruled) → new-hand r ≡ hand_of (ended r).end_rule-t.result.core.carriage
hand-is r = (hand-now r).hand_of-hand-in-Ended.ensures

frame_is : (f : Rule-frame) → let a : Ended = search in f.frame_of-frame-in-Ended.result ≡ frame_of a.end_rule-t.result.core.settings
frame_is f = f.frame_of-frame-in-Ended.ensures

located-now : (r : Ruled) → let f : Rule-frame = search in
    let p : After-located_in-here-in-Ended = search in
    p.located_in-here-in-Ended.result ≡ location_in f.frame_of-frame-in-Ended.result (new-hand r).position
located-now r = let p : After-located_in-here-in-Ended = search in rw (hand-is r) p.located_in-here-in-Ended.ensures

-- what is left of an action that waits
action-queued : (k : Action-queued) → let r : Ruled = search in
    let t = (ended r).end_rule-t.result in
    (turn : ℕ) (es : List Edge) → k.queued-work-in-Ended.result ≡ queued turn es t.core.carriage.polygon.edges t.action
action-queued k = k.queued-work-in-Ended.ensures

-- a line that is drawn
line-is : (d : Line-drawn) → let o : Moved = search in let r = (moved o).shift-t.result in d.drawn_of-drawn-then-number-eq0-3.result ≡ drawn_of (loop (moving o)).loop-sines.frame.limits r.hand.pen.number r.segment
line-is d = d.drawn_of-drawn-then-number-eq0-3.ensures

-- the second tail of a refusal
declined-is : (p : Declined) → let j : Met = search in p.passed_over-reader-in-loop-sines.result ≡ passed_over (met j).next-q.result.reader
declined-is p = p.passed_over-reader-in-loop-sines.ensures

-- the number is remembered in the hand, which stays where it is
declined-noted : (n : Declined-noted) → let j : Met = search in
    let l = (loop (met j)).loop-sines in
    core_of l.settings n.noted-hand-in-loop-sines.result l.polygon ≡ noting j.match-event.number (here (loop (met j))).core
declined-noted n =
    let j : Met = search in
    let l = (loop (met j)).loop-sines in
    ap (λ (h : Hand). core_of l.settings h l.polygon) n.noted-hand-in-loop-sines.ensures ∙ noted-parts l.settings l.hand l.polygon j.match-event.number

declined-place : (n : Declined-noted) → let j : Met = search in n.noted-hand-in-loop-sines.result.position ≡ (loop (met j)).loop-sines.hand.position
unfolding noted_hand
declined-place n = ap (λ (h : Hand). h.position) n.noted-hand-in-loop-sines.ensures

declined-core : (k : After-core_of-core-in-loop-sines) → let j : Met = search in k.core_of-core-in-loop-sines.result ≡ noting j.match-event.number (here (loop (met j))).core
declined-core k = k.core_of-core-in-loop-sines.ensures ∙ declined-noted search

declined-made : (x : After-refusal_record-then-on-2) → let j : Met = search in x.refusal_record-then-on-2.result ≡ record_of (refusal j.match-event.number (met j).next-q.result.at)
declined-made x = x.refusal_record-then-on-2.ensures

-- ---- how far the loop is

-- all that it does, from the machine with this hand
abbrev From : Loop → Hand → Plot
From l h =
    let s = (entry l).args in
    gather_from s.on (whole s.m.reader (core_of s.m.core.settings h s.m.core.carriage.polygon) s.m.store s.m.work) (drop s.from s.bytes.now) s.from (length s.numbers.now / 5)

abbrev All : Loop → Plot
All l = let s = (entry l).args in gather_from s.on s.m (drop s.from s.bytes.now) s.from (length s.numbers.now / 5)

-- the hand that it begins with is the machine's
as-handed : (l : Loop) → From l (handed l).hand_of-hand.result ≡ All l
as-handed l = ap (From l) (handed l).hand_of-hand.ensures

abbrev Goes : Loop → Plot → List ℤ → State → ℕ → ℕ → Type 0
Goes l f numbers m at count = let s = (entry l).args in Far s.on f s.bytes.now s.numbers.now numbers m at count

far : (l : Loop) → Goes l (All l) l.loop-sines.numbers (here l) l.loop-sines.at l.loop-sines.count
far l = subst (λ (f : Plot). Goes l f l.loop-sines.numbers (here l) l.loop-sines.at l.loop-sines.count) (as-handed l) l.loop-sines.invariant.0

again : (l : Loop) {numbers : List ℤ} {m : State} {at count : ℕ} → Goes l (All l) numbers m at count → Goes l (From l (handed l).hand_of-hand.result) numbers m at count
again l {numbers} {m} {at} {count} f = subst (λ (p : Plot). Goes l p numbers m at count) (sym (as-handed l)) f

-- with all of what moves the carriage as it was
goes_on : (l : Loop) {numbers : List ℤ} {m : State} {at count : ℕ} → Goes l (All l) numbers m at count →
    Goes l (From l (handed l).hand_of-hand.result) numbers m at count × (l.loop-sines.frame ≡ frame_of l.loop-sines.settings) × (l.loop-sines.here ≡ location_in l.loop-sines.frame l.loop-sines.hand.position)
goes_on l f = (again l f, l.loop-sines.invariant.1, l.loop-sines.invariant.2)

-- where a byte is taken no segment waits, and there is one
idle : (q : Read) → waiting (loop q).loop-sines.work ≡ 0
idle q = let e : Going = search in omega (arith, e.waiting.ensures)

-- nor a reply
vacant : (q : Read) → occupied (loop q).loop-sines.work ≡ false
vacant q =
    let h : After-halted-halt = search in
    idle-free (loop q).loop-sines.work (idle q) (far-silent (far (loop q)) h.halted-halt.ensures (omega arith))

more : (q : Read) → (loop q).loop-sines.at < length (entry (loop q)).args.bytes.now
more q =
    let t : After-remains = search in
    byte-remains (loop q).loop-sines.work _ _ (sym t.remains.ensures ∙ search) (idle q)

waits-some : (w : Waits) → 0 < waiting (waits w).loop-sines.work
waits-some w = let e : Going = search in omega (arith, e.waiting.ensures)

-- a record is free where a segment waits, and where a refusal may have to be stored
free : (e : Going) → let l = going e in
    (waiting l.loop-sines.work ≡ 0 → (entry l).args.on ≡ true) → l.loop-sines.count < length (entry l).args.numbers.now / 5
free e f = let h : After-halted-halt = search in far-free (far (going e)) h.halted-halt.ensures (omega arith) f

free-drawn : (w : Waits) → let l = waits w in l.loop-sines.count < length (entry l).args.numbers.now / 5
free-drawn w = let e : Going = search in free e (λ z. absurd (omega (arith, z, waits-some w)))

free-taken : (q : Read) → let l = loop q in (entry l).args.on ≡ true → l.loop-sines.count < length (entry l).args.numbers.now / 5
free-taken q o = let e : Going = search in free e (λ z. o)

-- ---- a draw

-- by the table of the settings, within their limits
rows : (l : Loop) → l.loop-sines.frame.rows ≡ rows_of l.loop-sines.settings.turn
unfolding frame_of
rows l = ap (λ (f : Frame). f.rows) l.loop-sines.invariant.1

limited : (l : Loop) → l.loop-sines.frame.limits ≡ limits l.loop-sines.settings
unfolding frame_of
limited l = ap (λ (f : Frame). f.limits) l.loop-sines.invariant.1

limits-fit : (l : Loop) → SmallRect l.loop-sines.frame.limits
limits-fit l = subst SmallRect (sym (limited l)) (limits-small (far l).valid.core.settings)

-- the parts are those of a valid core
parts : (l : Loop) → ValidParts l.loop-sines.frame l.loop-sines.hand l.loop-sines.polygon
parts l = record { settings = l.loop-sines.settings; frame = l.loop-sines.invariant.1; core = (far l).valid.core }

-- by a loop of its own
abbrev batching : (w : Waits) → let l = (waits w).loop-sines in Batching l.numbers l.frame l.hand.pen.number l.work l.count
batching w =
    let l = waits w in
    let s = (entry l).args in
    record {
      on = s.on;
      all = All l;
      bytes = s.bytes.now;
      entry = s.numbers.now;
      reader = l.loop-sines.reader;
      core = (here l).core;
      store = l.loop-sines.store;
      at = l.loop-sines.at;
      framed = l.loop-sines.invariant.1;
      held = refl;
      some = waits-some w;
      far = far l;
    }

-- the edge that is read is one of the store, and the one that waits first
edge-within : (p : After-edge_place) → p.edge_place.result < most_edges
edge-within p = let l : Loop = search in omega (arith, place-within l.loop-sines.work (far l).valid.work, p.edge_place.ensures)

waited : (g : After-segment-s) → let w : Waits = search in g.segment-s.result ≡ segment_of (here (waits w))
waited g =
    let w : Waits = search in
    let l = (waits w).loop-sines in
    g.segment-s.ensures
    ∙ (λ i. segment_in l.frame.rows (get_or l.store.edges (g.edge_place.ensures i) no_edge) l.work l.here l.here)
    ∙ alone_waits (here (waits w)) l.here (rows (waits w)) (sym w.batched.ensures ∙ search)

drew : (d : After-drawn_of-drawn) → let w : Waits = search in d.drawn_of-drawn.result ≡ draw_answer (here (waits w))
drew d =
    let w : Waits = search in
    let l = waits w in
    d.drawn_of-drawn.ensures ∙ (λ i. drawn_of (limited l i) l.loop-sines.hand.pen.number (waited (search) i)) ∙ sym (segment-drawn (here l))

-- ---- a byte

abbrev Reaches : (l : Loop) → Next → Type 0
Reaches l n = let s = (entry l).args in Reached s.on (All l) s.bytes.now s.numbers.now l.loop-sines.numbers (here l) l.loop-sines.at l.loop-sines.count n

reached : (q : Read) → Reaches (loop q) q.next-q.result
reached q =
    let l = loop q in
    subst (Reaches l) (sym q.next-q.ensures) (far-next (free-taken q) (far l) (vacant q) (more q))

abbrev told : Read → Event
told q = q.next-q.result.event

abbrev held : Read → Core
held q = (here (loop q)).core

event-valid : (q : Read) → ValidEvent (held q) (told q)
event-valid q = let k = reached q in subst (ValidEvent (held q)) (sym (ap (λ (x : Step). x.event) k.step)) (step-event _ k.far.valid)

pair_small : (q : Read) {n : Coordinates} → told q ≡ event.Pair n → SmallPair n
pair_small q e = subst (ValidEvent (held q)) e (event-valid q)

acts-valid : (q : Read) {t : Acted} → t ≡ act_on (held q) (told q) → ValidActed (held q) t
acts-valid q e = subst (ValidActed (held q)) (sym e) (valid-event (told q) (far (loop q)).valid.core (event-valid q))

-- a turn that leaves work which may wait
abbrev less_by : Read → Work → Type 0
less_by q w =
    let l = loop q in
    let n = length (entry l).args.bytes.now in
    (n - q.next-q.result.at) * 721 + waiting w < (n - l.loop-sines.at) * 721 + waiting l.loop-sines.work

less : (q : Read) (w : Work) → waiting w ≤ 720 → less_by q w
less q w h = let k = reached q in omega (arith, h, k.further, k.within, k.ends)

none-less : (q : Read) → less_by q Nothing
unfolding waiting
none-less q = less q Nothing (omega arith)

-- the place of a byte is a number that a record holds
place-small : (q : Read) → q.next-q.result.at < 2 ^ 63
place-small q = let k = reached q in omega (arith, (entry (loop q)).well_formed.1.0.1, k.within, k.ends)

-- how far it is after a byte, where nothing is stored
abbrev Left : Read → Core → Store → Work → Type 0
Left q c st w = let l = loop q in Goes l (All l) l.loop-sines.numbers (whole q.next-q.result.reader c st w) q.next-q.result.at l.loop-sines.count

left_less : (q : Read) {c : Core} {st : Store} {w : Work} → Left q c st w → less_by q w
left_less q {w = w} f = less q w (waits-most w f.valid.work)

-- nothing is drawn
quiet : (q : Read) {h : Hand} {e : Event} → told q ≡ e → let l = (loop q).loop-sines in acting l.settings h l.polygon Keep 0 ≡ act_on (held q) e → Left q (core_of l.settings h l.polygon) l.store Nothing
unfolding line_of
quiet q t acts = next-kept (reached q) _ (acts ∙ ap (act_on (held q)) (sym t)) (free-taken q)

-- a refusal: all is as it was
abbrev refusing : Read → ℕ → Acted
refusing q n = let l = (loop q).loop-sines in acting l.settings l.hand l.polygon Keep n

-- a pair
pair-does : (q : Read) {n : Coordinates} {t : Acted} → told q ≡ event.Pair n → t ≡ pair_rule (held q) n → t ≡ act_on (held q) (told q)
pair-does q e f = let l = (loop q).loop-sines in pair-acts l.settings l.hand l.polygon _ f ∙ ap (act_on (held q)) (sym e)

-- a point of a polygon
point-refused : (q : Read) (t : Placed) → (t.number ≡ 0 → ⊥) → let l = (loop q).loop-sines in
    pointed_of l.settings l.hand l.polygon t ≡ act_on (held q) (told q) → refusing q t.number ≡ act_on (held q) (told q)
unfolding pointed_of refuse
point-refused q t f e = sym (rw (ne_eqb t.number 0 f) refl) ∙ e

-- where it is the first of a subpolygon, and where it ends an edge
abbrev grown : Pointed → Bool → Store
grown p b = let l = (loop (pointing p)).loop-sines in record { edges = cond b l.store.edges (set l.store.edges l.polygon.edges p.point-t.result.edge) }

points : (p : Pointed) (b : Bool) {g : Polygon} → let q = pointing p in
    let l = (loop q).loop-sines in
    let t = p.point-t.result in
    t.number ≡ 0 → l.polygon.empty ≡ b → g ≡ longer l.polygon t.cost t.hand.position → Left q (core_of l.settings t.hand g) (grown p b) Nothing
points p b z e =
    let q = pointing p in
    let l = (loop q).loop-sines in
    next-point (reached q) p.point-t.result (free-taken q) z (pair-does q (search) (p.point-t.ensures.result_value l.settings l.polygon l.invariant.1 (search) refl)) b e

-- there is room for it
longer-fits : (p : Pointed) (b : Bool) → let g = (loop (pointing p)).loop-sines.polygon in
    let t = p.point-t.result in
    t.number ≡ 0 → g.empty ≡ b → (g.bytes + t.cost ≤ polygon_bytes) × (g.edges ≤ most_edges)
unfolding longer
longer-fits p b z e = ((points p b z e refl).valid.core.polygon.bytes, (far (loop (pointing p))).valid.core.polygon.edges)

edge-fits : (p : Pointed) → p.point-t.result.number ≡ 0 → let g = (loop (pointing p)).loop-sines.polygon in g.empty ≡ false → g.edges < most_edges
unfolding longer
edge-fits p z e =
    let g = (loop (pointing p)).loop-sines.polygon in
    let k : cond g.empty g.edges (g.edges + 1) ≡ g.edges + 1 = ap (λ (b : Bool). cond b g.edges (g.edges + 1)) e in
    omega (arith, (points p false z e refl).valid.core.polygon.edges, k)

-- a pair outside polygon mode
shift-acts : (o : Moved) → let q = moving o in doing (moved-core o) (moved o).shift-t.result.segment ≡ act_on (held q) (told q)
shift-acts o =
    let t = moved o in
    let q = moving o in
    let l = (loop q).loop-sines in
    let z : t.shift-t.result.number ≡ 0 = search in
    ap (λ (n : ℕ). record { core = moved-core o; action = line_of t.shift-t.result.segment; number = n }) (sym z) ∙ pair-does q (search) (t.shift-t.ensures.result_value l.settings l.polygon l.invariant.1 (search))

shift-refused : (q : Read) {n : Coordinates} {t : Acted} → told q ≡ event.Pair n → (t.number ≡ 0 → ⊥) → t ≡ pair_rule (held q) n → refusing q t.number ≡ act_on (held q) (told q)
unfolding refuse
shift-refused q e f same =
    let number = ap (λ (x : Acted). x.number) same in
    pair-does q e (ap (refuse (held q)) number ∙ sym (pair-refused (held q) _ (λ z. f (number ∙ z))))

-- ---- an instruction that ends

abbrev did : Ruled → Acted
did r = (ended r).end_rule-t.result

acts : (a : Ended) → a.end_rule-t.result ≡ act_on (held (ending a)) (told (ending a))
acts a =
    let q = ending a in
    let e : Instructed = search in
    let k : Rule-core = search in
    let l = (loop q).loop-sines in
    settled-acts l.settings l.hand l.polygon _ _ (rule-core k) a.end_rule-t.ensures ∙ ap (act_on (held q)) (sym (told-ended e))

act-valid : (a : Ended) → ValidActed (held (ending a)) a.end_rule-t.result
act-valid a = acts-valid (ending a) (acts a)

-- the parts of the core
abbrev core-now : Ruled → Core
core-now r = core_of (did r).core.settings (new-hand r) (did r).core.carriage.polygon

core_is : (r : Ruled) → core-now r ≡ (did r).core
core_is r = ap (λ (h : Hand). core_of (did r).core.settings h (did r).core.carriage.polygon) (hand-is r)

-- carried out, there is nothing to remember
core-kept : (r : Ruled) → (did r).number ≡ 0 → core-now r ≡ noting (did r).number (did r).core
unfolding noting remembering remembered
core-kept r z = core_is r ∙ sym (ap (λ (k : ℕ). noting k (did r).core) z)

-- refused, its number is, in the hand, which stays where it is
refusal-noted : (n : Refusal-noted) → let r : Ruled = search in
    core_of (did r).core.settings n.noted-hand.result (did r).core.carriage.polygon ≡ noting (did r).number (did r).core
refusal-noted n =
    let r : Ruled = search in
    let s = (did r).core.settings in
    let g = (did r).core.carriage.polygon in
    ap (λ (h : Hand). core_of s h g) n.noted-hand.ensures ∙ noted-parts s (new-hand r) g (did r).number ∙ ap (noting (did r).number) (core_is r)

refusal-place : (n : Refusal-noted) → let r : Ruled = search in n.noted-hand.result.position ≡ (new-hand r).position
unfolding noted_hand
refusal-place n = ap (λ (h : Hand). h.position) n.noted-hand.ensures

refusal-core : (k : After-core_of-left) → let r : Ruled = search in k.core_of-left.result ≡ noting (did r).number (did r).core
refusal-core k = k.core_of-left.ensures ∙ refusal-noted search

-- carried out, with the edges and the work that the action leaves
taken : (r : Ruled) {st : Store} {w : Work} → (did r).number ≡ 0 → let l = (loop (read r)).loop-sines in
    st.edges ≡ stored l.store.edges l.polygon.edges (did r).action → w ≡ leaves l.store.edges l.polygon.edges (did r).core (did r).action → Left (read r) (core-now r) st w
taken r z e f =
    let q = read r in
    next-turned (reached q) (record { step = (reached q).step; act = acts (ended r); reader = reader-on _ z; core = core-kept r z; edges = e; work = f }) z (free-taken q)

refused : (p : Passed) → let r : Ruled = search in (did r).number ≡ 0 → ⊥
refused p e = omega (arith, e)

-- an edge that is joined finds its place
joins-edge : (r : Ruled) {e : Edge} → (did r).action ≡ Join e → (loop (read r)).loop-sines.polygon.edges < most_edges
joins-edge r joins = (subst (ValidAction (loop (read r)).loop-sines.polygon.edges) joins (act-valid (ended r)).action).1

carried : (k : After-carried-c) → let r : Ruled = search in Left (read r) (core-now r) k.carried-c.result.store k.carried-c.result.work
carried k = let r : Ruled = search in taken r (omega arith) k.carried-c.ensures.0 (k.carried-c.ensures.1 _ _)

-- other actions leave the store
unmoved : (h : After-heavy) {w : Work} → h.heavy.result ≡ false → let r : Ruled = search in
    Unjoined (did r).action → ((turn : ℕ) (es : List Edge) → w ≡ queued turn es (did r).core.carriage.polygon.edges (did r).action) → Left (read r) (core-now r) (loop (read r)).loop-sines.store w
unmoved h e alone f =
    let r : Ruled = search in
    let l = (loop (read r)).loop-sines in
    taken r (omega arith) (unstored l.store.edges l.polygon.edges (did r).action (sym h.heavy.ensures ∙ e) alone) (f _ _)

-- EP
outlined : (o : After-outline-work) → let q : Read = search in Left q (held q) (loop q).loop-sines.store o.outline-work.result
outlined o = let q : Read = search in let e : Instructed = search in next-outline (reached q) (told-ended e) (search) o.outline-work.ensures (free-taken q)

-- ---- a refusal of a name, a pair or a byte

record Declines (j : Met) : Type 0 where
  does : refusing (met j) j.match-event.number ≡ act_on (held (met j)) (told (met j))
  some : j.match-event.number ≡ 0 → ⊥

by : (j : Met) {n : ℕ} → j.match-event.number ≡ n → (n ≡ 0 → ⊥) → refusing (met j) n ≡ act_on (held (met j)) (told (met j)) → Declines j
by j e some does = record { does = ap (refusing (met j)) e ∙ does; some = λ z. some (sym e ∙ z) }

declines : (j : Met) → Declines j
declines j =
    let q = met j in
    let l = (loop q).loop-sines in
    elim j.match-event.branch [
      | in-Named+else-number-eq0 w ↦
          by j w.number-is w.if-number-eq0.false (unknown-acts l.settings l.hand l.polygon _ w.name_number-number.ensures w.if-number-eq0.false ∙ ap (act_on (held q)) (sym w.in-Named.is))
      | in-Pair+then-polygon+else-number-eq0-2 w ↦
          by j w.number-is w.if-number-eq0-2.false (point-refused q w.point-t.result w.if-number-eq0-2.false (pair-does q w.in-Pair.is (w.point-t.ensures.result_value l.settings l.polygon l.invariant.1 w.if-polygon.true refl)))
      | in-Pair+else-polygon+else-number-eq0-3 w ↦
          by j w.number-is w.if-number-eq0-3.false (shift-refused q w.in-Pair.is w.if-number-eq0-3.false (w.shift-t.ensures.result_value l.settings l.polygon l.invariant.1 w.if-polygon.false))
      | in-Refused w ↦
          by j w.number-is (refusal-some (reached q) w.in-Refused.is) (refused-acts l.settings l.hand l.polygon _ ∙ ap (act_on (held q)) (sym w.in-Refused.is))
    ]

-- ---- the needs

pub located_in-here-requires : goal.located_in-here-requires
located_in-here-requires c =
    let s : Start = search in
    let f : After-frame_of-frame = search in
    hand-locatable {h = hand_of s.args.m.core.carriage} {g = s.args.m.core.carriage.polygon}
    (record { settings = s.args.m.core.settings; frame = f.frame_of-frame.ensures; core = s.requires.core })

pub loop-sines-init : goal.loop-sines-init
loop-sines-init c =
    let h = c.before.before.before.before in
    let s = (start h).args in
    rw h.hand_of-hand.ensures (far-start s.on s.m s.bytes.now s.numbers.now s.from (start h).requires, c.frame_of-frame.ensures, c.located_in-here.ensures)

pub returns-then-halt-gt0 : goal.returns-then-halt-gt0
returns-then-halt-gt0 c =
    let l : Loop = search in
    let o : After-remains = search in
    let t : After-halted-halt = search in
    ends (search) (halt-core search) (far-halted (far l) (sym o.remains.ensures ∙ search) t.halted-halt.ensures (omega arith))

pub batch-b-requires : goal.batch-b-requires
batch-b-requires c =
    let w : Waits = search in
    let l = waits w in
    (batching w, omega (arith, free-drawn w, ap (λ (n : ℕ). n / 5) (far l).long), (laid (handed l)).table-sines.ensures, sym w.batched.ensures ∙ search)

pub loop-sines-preserved-then-waiting-gt0 : goal.loop-sines-preserved-then-waiting-gt0
loop-sines-preserved-then-waiting-gt0 c =
    let w : Waits = search in
    let l = waits w in
    goes_on l (far-draw (far l) (waits-some w) (free-drawn w) (drew search) (search) (search) c.work_after-work.ensures)

pub loop-sines-preserved-then-number-eq0 : goal.loop-sines-preserved-then-number-eq0
loop-sines-preserved-then-number-eq0 c =
    let q : Read = search in
    let n : After-name_number-number = search in
    let l = loop q in
    let h = l.loop-sines.hand in
    let g = l.loop-sines.polygon in
    let same = ap (λ (k : Carriage). k.position) (c.letters-hand.ensures g) ∙ letters-position (carriage_of h g) _ in (
      again l (quiet q (search) (named-acts l.loop-sines.settings h g _ n.name_number-number.ensures c.letters-hand.result (search) (c.letters-hand.ensures g))),
      l.loop-sines.invariant.1,
      l.loop-sines.invariant.2 ∙ ap (location_in l.loop-sines.frame) (sym same),
    )

pub queued-work-requires : goal.queued-work-requires
queued-work-requires c =
    let o : Moved = search in
    let q = moving o in
    rw c.line_of.ensures (action-alone (loop q).loop-sines.polygon.edges (line_of (moved o).shift-t.result.segment) (acts-valid q (shift-acts o)).action)

pub returns-then-overflows : goal.returns-then-overflows
returns-then-overflows c =
    let o : Moved = search in
    let n : After-line_of = search in
    let k : Line-queued = search in
    let q = moving o in
    let l = (loop q).loop-sines in
    let w = k.queued-work.ensures _ _ ∙ ap (leaves l.store.edges l.polygon.edges (moved-core o)) n.line_of.ensures in
    ends (search) (full-core search) (next-full (reached q) (moved-core o) (moved o).shift-t.result.segment (sym o.overflows.ensures ∙ search) (shift-acts o) (free-taken q) w)

pub drawn_of-drawn-requires-then-number-eq0-3 : goal.drawn_of-drawn-requires-then-number-eq0-3
drawn_of-drawn-requires-then-number-eq0-3 c =
    let o : Moved = search in
    let q = moving o in
    (limits-fit (loop q), next_small (reached q) (moved-core o) (moved o).shift-t.result.segment (shift-acts o))

pub put-count-requires-then-number-eq0-3 : goal.put-count-requires-then-number-eq0-3
put-count-requires-then-number-eq0-3 c =
    let o : Moved = search in
    let d : Line-drawn = search in
    next_fits (reached (moving o)) (moved o).shift-t.result.segment (sym o.overflows.ensures ∙ search) _ _ (line-is d)

pub loop-sines-preserved-then-number-eq0-3 : goal.loop-sines-preserved-then-number-eq0-3
loop-sines-preserved-then-number-eq0-3 c =
    let o : Moved = search in
    let d : Line-drawn = search in
    let q = moving o in
    let l = loop q in
    let r = (moved o).shift-t.result in
    let drawn = line-is d ∙ ap (λ (b : Rect). drawn_of b r.hand.pen.number r.segment) (limited l) in
    (again l (next_drawn (reached q) (moved-core o) (free-taken q) r.segment (sym o.overflows.ensures ∙ search) (shift-acts o) drawn (search) (search)), l.loop-sines.invariant.1, (moved o).shift-t.ensures.here_value)

pub loop-sines-preserved-then-takes_pairs : goal.loop-sines-preserved-then-takes_pairs
loop-sines-preserved-then-takes_pairs c =
    let q : Read = search in
    let k : After-takes_pairs = search in
    goes_on (loop q) (quiet q (told-ended search) (ended-acts _ _ _ _ _ (sym k.takes_pairs.ensures ∙ search)))

pub end_rule-t-requires : goal.end_rule-t-requires
end_rule-t-requires c =
    let q : Read = search in
    let e : Instructed = search in
    rw (rule-core c.before) ((far (loop q)).valid.core, (subst (ValidEvent (held q)) (told-ended e) (event-valid q)).0.numbers)

pub located_in-here-requires-in-Ended : goal.located_in-here-requires-in-Ended
located_in-here-requires-in-Ended c =
    let a : Ended = search in
    let f : Rule-frame = search in
    let k = a.end_rule-t.result.core in
    hand-locatable {h = hand_of k.carriage} {g = k.carriage.polygon} (record { settings = k.settings; frame = frame_is f; core = (act-valid a).core })

pub loop-sines-preserved-then-on : goal.loop-sines-preserved-then-on
loop-sines-preserved-then-on c =
    let r : Ruled = search in
    let p : Passed = search in
    let n : Refusal-noted = search in
    let x : After-refusal_record = search in
    let f : Rule-frame = search in
    let q = read r in
    let o : (entry (loop q)).args.on ≡ true = search in (
      again (loop q) (next-refusal (reached q) (acts (ended r)) (refused p) p.passed_over-reader.ensures (refusal-noted n) o (free-taken q o) x.refusal_record.ensures (search) (search)),
      search,
      located-now r ∙ ap (location_in f.frame_of-frame-in-Ended.result) (sym (refusal-place n)),
    )

pub returns-then-t-gt0 : goal.returns-then-t-gt0
returns-then-t-gt0 c =
    let r : Ruled = search in
    let p : Passed = search in
    ends (search) (refusal-core search) (next-refused (reached (read r)) (acts (ended r)) (refused p) p.passed_over-reader.ensures refl (search))

pub loop-sines-preserved-in-Join : goal.loop-sines-preserved-in-Join
unfolding stored queued
loop-sines-preserved-in-Join c =
    let r : Ruled = search in
    let l = (loop (read r)).loop-sines in
    let joins = sym c.in-Join.is in
    (again (loop (read r)) (taken r (omega arith) (ap (stored l.store.edges l.polygon.edges) joins) (ap (leaves l.store.edges l.polygon.edges (did r).core) joins)), search, located-now r)

pub loop-sines-preserved : goal.loop-sines-preserved
loop-sines-preserved c =
    let j : Met = search in
    let q = met j in
    let l = loop q in
    let o : (entry l).args.on ≡ true = search in
    let n : Declined-noted = search in (
      again l (next-refusal (reached q) (declines j).does (declines j).some (declined-is (search)) (declined-noted n) o (free-taken q o) (declined-made (search)) (search) (search)),
      l.loop-sines.invariant.1,
      l.loop-sines.invariant.2 ∙ ap (location_in l.loop-sines.frame) (sym (declined-place n)),
    )

pub returns-in-loop-sines : goal.returns-in-loop-sines
returns-in-loop-sines c =
    let j : Met = search in
    ends (search) (declined-core search) (next-refused (reached (met j)) (declines j).does (declines j).some (declined-is (search)) refl (search))

pub returns : goal.returns
returns c =
    let l : Loop = search in
    let e : After-remains = search in
    let n = none-remains l.loop-sines.work _ _ (sym e.remains.ensures ∙ search) in
    ends (search) (end-core search) (far-end (far l) n.0 n.1)

pub loop-sines-preserved-then-batched : goal.loop-sines-preserved-then-batched
loop-sines-preserved-then-batched c = let w : Waits = search in goes_on (waits w) (c.batch-b.ensures.drew (batching w))

pub offset_bounds-store-edge_place : goal.offset_bounds-store-edge_place
offset_bounds-store-edge_place c = record { fits = omega (arith, edge-within search) }

pub bounds-store-edge_place : goal.bounds-store-edge_place
bounds-store-edge_place c = omega (arith, edge-within search)

pub segment-s-requires : goal.segment-s-requires
segment-s-requires c = let w : Waits = search in (frame-rows (parts (waits w)), edge-small (far (waits w)).valid.edges _)

pub drawn_of-drawn-requires : goal.drawn_of-drawn-requires
drawn_of-drawn-requires c =
    let w : Waits = search in
    let g : After-segment-s = search in
    (limits-fit (waits w), subst SmallSegment (sym (waited g)) (segment-small (far (waits w)).valid))

pub put-count-requires : goal.put-count-requires
put-count-requires c = let w : Waits = search in put-fits _ _ _ (far-fits (far (waits w)) (free-drawn w))

pub loop-sines-smaller-then-waiting-gt0 : goal.loop-sines-smaller-then-waiting-gt0
loop-sines-smaller-then-waiting-gt0 c = let w : Waits = search in omega (arith, waits-less (here (waits w)) _ (waits-some w) c.work_after-work.ensures)

pub loop-sines-smaller-in-Nothing : goal.loop-sines-smaller-in-Nothing
loop-sines-smaller-in-Nothing c = let q : Read = search in none-less q

pub loop-sines-preserved-in-Nothing : goal.loop-sines-preserved-in-Nothing
loop-sines-preserved-in-Nothing c = let q : Read = search in goes_on (loop q) (quiet q c.in-Nothing.is (none-acts _ _ _))

pub loop-sines-smaller-then-number-eq0 : goal.loop-sines-smaller-then-number-eq0
loop-sines-smaller-then-number-eq0 c = let q : Read = search in none-less q

pub point-t-requires : goal.point-t-requires
point-t-requires c = let q : Read = search in let l = loop q in (record { polygon = l.loop-sines.polygon; parts = parts l }, pair_small q c.in-Pair.is, l.loop-sines.invariant.2, (far l).valid.core.polygon.bytes)

pub longer-polygon-requires : goal.longer-polygon-requires
longer-polygon-requires c = let p : Pointed = search in longer-fits p true (search) (search)

pub loop-sines-smaller-then-polygon-2 : goal.loop-sines-smaller-then-polygon-2
loop-sines-smaller-then-polygon-2 c = let q : Read = search in none-less q

pub loop-sines-preserved-then-polygon-2 : goal.loop-sines-preserved-then-polygon-2
loop-sines-preserved-then-polygon-2 c = let p : Pointed = search in (again (loop (pointing p)) (points p true (search) (search) (search)), (loop (pointing p)).loop-sines.invariant.1, p.point-t.ensures.here_value)

pub bounds-store-k : goal.bounds-store-k
bounds-store-k c = let p : Pointed = search in omega (arith, edge-fits p (search) (search))

pub longer-polygon-requires-then-number-eq0-2 : goal.longer-polygon-requires-then-number-eq0-2
longer-polygon-requires-then-number-eq0-2 c = let p : Pointed = search in longer-fits p false (search) (search)

pub loop-sines-smaller-then-number-eq0-2 : goal.loop-sines-smaller-then-number-eq0-2
loop-sines-smaller-then-number-eq0-2 c = let q : Read = search in none-less q

pub loop-sines-preserved-then-number-eq0-2 : goal.loop-sines-preserved-then-number-eq0-2
loop-sines-preserved-then-number-eq0-2 c = let p : Pointed = search in (again (loop (pointing p)) (points p false (search) (search) (search)), (loop (pointing p)).loop-sines.invariant.1, p.point-t.ensures.here_value)

pub shift-t-requires : goal.shift-t-requires
shift-t-requires c = let q : Read = search in let l = loop q in (record { polygon = l.loop-sines.polygon; parts = parts l }, pair_small q c.in-Pair.is, l.loop-sines.invariant.2)

pub loop-sines-smaller-then-number-eq0-3 : goal.loop-sines-smaller-then-number-eq0-3
loop-sines-smaller-then-number-eq0-3 c = let q : Read = search in none-less q

pub loop-sines-smaller-then-takes_pairs : goal.loop-sines-smaller-then-takes_pairs
loop-sines-smaller-then-takes_pairs c = let q : Read = search in none-less q

pub loop-sines-smaller-then-op-eq-EP : goal.loop-sines-smaller-then-op-eq-EP
loop-sines-smaller-then-op-eq-EP c = let q : Read = search in left_less q (outlined search)

pub loop-sines-preserved-then-op-eq-EP : goal.loop-sines-preserved-then-op-eq-EP
loop-sines-preserved-then-op-eq-EP c = let q : Read = search in goes_on (loop q) (outlined search)

pub frame_of-frame-requires-in-Ended : goal.frame_of-frame-requires-in-Ended
frame_of-frame-requires-in-Ended c = let a : Ended = search in (act-valid a).core.settings

pub refusal_record-requires : goal.refusal_record-requires
refusal_record-requires c = let r : Ruled = search in place-small (read r)

pub put_record-count-requires : goal.put_record-count-requires
put_record-count-requires c = let r : Ruled = search in far-fits (far (loop (read r))) (free-taken (read r) (search))

pub loop-sines-smaller-then-on : goal.loop-sines-smaller-then-on
loop-sines-smaller-then-on c = let r : Ruled = search in none-less (read r)

pub bounds-store-k-in-Join : goal.bounds-store-k-in-Join
bounds-store-k-in-Join c = let r : Ruled = search in omega (arith, joins-edge r c.in-Join.is)

pub loop-sines-smaller-in-Join : goal.loop-sines-smaller-in-Join
loop-sines-smaller-in-Join c = let r : Ruled = search in none-less (read r)

pub carried-c-requires : goal.carried-c-requires
carried-c-requires c = let r : Ruled = search in (act-valid (ended r)).action

pub loop-sines-smaller-then-heavy : goal.loop-sines-smaller-then-heavy
loop-sines-smaller-then-heavy c = let r : Ruled = search in left_less (read r) (carried search)

pub loop-sines-preserved-then-heavy : goal.loop-sines-preserved-then-heavy
loop-sines-preserved-then-heavy c = let r : Ruled = search in (again (loop (read r)) (carried search), search, located-now r)

pub queued-work-requires-in-Ended : goal.queued-work-requires-in-Ended
queued-work-requires-in-Ended c = let r : Ruled = search in action-alone (loop (read r)).loop-sines.polygon.edges (did r).action (act-valid (ended r)).action

pub loop-sines-smaller-in-Ended : goal.loop-sines-smaller-in-Ended
loop-sines-smaller-in-Ended c = let r : Ruled = search in left_less (read r) (unmoved (search) (search) c.in_default.not-Join (action-queued search))

pub loop-sines-preserved-in-Ended : goal.loop-sines-preserved-in-Ended
loop-sines-preserved-in-Ended c = let r : Ruled = search in (again (loop (read r)) (unmoved (search) (search) c.in_default.not-Join (action-queued search)), search, located-now r)

pub refusal_record-requires-then-on-2 : goal.refusal_record-requires-then-on-2
refusal_record-requires-then-on-2 c = let j : Met = search in place-small (met j)

pub put_record-count-requires-then-on-2 : goal.put_record-count-requires-then-on-2
put_record-count-requires-then-on-2 c = let j : Met = search in far-fits (far (loop (met j))) (free-taken (met j) (search))

pub loop-sines-smaller : goal.loop-sines-smaller
loop-sines-smaller c = let j : Met = search in none-less (met j)
