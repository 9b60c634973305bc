-- What is left to draw comes to the same, and each draw leaves fewer.
use mathlib.Core.Bool.{true, false}
use mathlib.Core.Path.{◌≡◌, sym, ap, ◌∙◌, subst}
use Prim.Native.Nat.{◌<◌}
use Rattle.hpgl.specs.Machine.{waiting, draw_state, draw_answer}
use Rattle.hpgl.specs.Segment.{segment_of}
use Rattle.machine.specs.Calls.{Drew, worked_of}
use Rattle.counting.specs.Tally.{counted_of}
use Rattle.repeats.specs.Repeats.{painted_all}
use Rattle.repeats.specs.Laws.{painted-append, painted-none}
use Rattle.surveying.specs.Drawing.{waits_of, drawn_off}
use Rattle.surveying.specs.Laws.{off-draw, off-idle, draw-fewer, idle-segment}
use Rattle.surveying.specs.Strokes.{rows_of, strokes_at}
use Rattle.surveying.specs.StrokeLaws.{strokes-draw, strokes-idle}
use Rattle.surveying.proofs.drawn_off.Goals as goal

pub returns-then-not-waits : goal.returns-then-not-waits
returns-then-not-waits c =
    let m = c.loop-s.machine.state in
    let no : waits_of (segment_of m) ≡ false = sym (c.waits.ensures ∙ ap waits_of c.segment-s.ensures) ∙ c.if-not-waits.true in
    let z = idle-segment m c.loop-s.tally no in
    record { value = (sym (c.loop-s.invariant.0 ∙ off-idle m c.loop-s.tally z), z); lines_after = sym (c.loop-s.invariant.2 ∙ ap (painted_all c.loop-s.lines) (strokes-idle m z) ∙ painted-none c.loop-s.lines) }

pub loop-s-smaller : goal.loop-s-smaller
unfolding worked_of
loop-s-smaller c =
    let some : waits_of (segment_of c.loop-s.machine.state) ≡ true = sym (c.waits.ensures ∙ ap waits_of c.segment-s.ensures) ∙ c.if-not-waits.false in
    subst (λ (w : Drew). waiting w.state.work < waiting c.loop-s.machine.state.work) (sym c.draw-w.ensures.value) (draw-fewer c.loop-s.machine.state c.loop-s.tally some)

pub loop-s-preserved : goal.loop-s-preserved
unfolding worked_of
loop-s-preserved c =
    let l = c.loop-s in
    let m = l.machine.state in
    -- a segment waits
    let some : waits_of (segment_of m) ≡ true = sym (c.waits.ensures ∙ ap waits_of c.segment-s.ensures) ∙ c.if-not-waits.false in
    let worked = c.draw-w.ensures.value in
    let tallied = c.counted-tally.ensures ∙ (λ i. counted_of l.tally (c.segment-s.ensures i) (worked i).drawn) in
    let kept = c.traced.ensures ∙ ap (λ (w : Drew). painted_all l.lines (rows_of w.drawn)) worked in (
      l.invariant.0 ∙ off-draw m l.tally some ∙ (λ i. drawn_off (waiting (sym worked i).state.work) (sym worked i).state (sym tallied i)),
      c.traced.auto.lines ∙ l.invariant.1,
      l.invariant.2 ∙ ap (painted_all l.lines) (strokes-draw m some) ∙ painted-append l.lines (rows_of (draw_answer m)) (strokes_at (draw_state m))
          ∙ (λ i. painted_all (sym kept i) (strokes_at (sym worked i).state)),
    )
