-- Each turn goes further, and what is left comes to the same.
use borrow.Author.Rules.{rules}
use mathlib.Core.Path.{refl, sym, ap, ◌∙◌}
use native.Mathlib.Omega.{arith}
use mathlib.Core.List.{List}
use lib.IntN.{ℤ}
use Rattle.hpgl.specs.Machine.{occupied}
use Rattle.machine.specs.Run.{ran_by}
use Rattle.repeats.specs.Repeats.{painted_all}
use Rattle.surveying.specs.States.{DrawingAt, PaintedAt, RepliedAt, drawing_by}
use Rattle.surveying.specs.Drawing.{unnamed_in, fetched_off}
use Rattle.surveying.specs.Laws.{far-begun, far-ended, ran-further, ran-outside, far-drawn, far-refused, stretch-within, plotted-further, plotted-few, far-plotted}
use Rattle.surveying.specs.StrokeLaws.{off-settled, traced-end, traced-drawn, traced-refused, plotted-strokes}
use Rattle.surveying.proofs.block_of.Goals as goal

pub loop-at-init : goal.loop-at-init
loop-at-init c =
    (far-begun (drawing_by c.args.d) c.args.block.now c.args.d.machine.usable c.requires, sym c.records-space.ensures, refl, refl)

-- a run takes a byte, so that fewer are left
pub loop-at-smaller-then-number-eq0 : goal.loop-at-smaller-then-number-eq0
loop-at-smaller-then-number-eq0 c =
    let h = c.loop-at-test.true in
    omega (arith, h, ran-further (drawing_by c.args.d) c.args.block.now c.loop-at.invariant.0 (ran_by c.run-r.result) c.run-r.ensures h)

pub loop-at-preserved-then-number-eq0 : goal.loop-at-preserved-then-number-eq0
loop-at-preserved-then-number-eq0 c =
    let d = drawing_by c.args.d in
    let block = c.args.block.now in
    let l = c.loop-at in
    let r = c.run-r in
    let p = c.drawn_off-p in
    let f = c.fetched_off-f in (
      far-drawn d block l.invariant.0 (ran_by r.result) r.ensures c.judged-number.ensures c.if-number-eq0.true p.ensures.value.0 p.result.machine.usable p.ensures.value.1 f.ensures f.result.machine.usable,
      l.invariant.1,
      p.auto.lines ∙ l.invariant.2,
      l.invariant.3 ∙ traced-drawn block l.lines l.machine.state l.at l.invariant.0.free r.ensures p.ensures.lines_after
          (ap (λ (x : RepliedAt). x.machine.state) (f.ensures ∙ ap (λ (x : PaintedAt). fetched_off x.machine.state l.replies) p.ensures.value.0) ∙ off-settled r.result.machine.state l.tally l.replies),
    )

pub loop-at-smaller-then-n-lt-SHORT : goal.loop-at-smaller-then-n-lt-SHORT
loop-at-smaller-then-n-lt-SHORT c =
    let h = c.loop-at-test.true in
    omega (arith, h, ran-further (drawing_by c.args.d) c.args.block.now c.loop-at.invariant.0 (ran_by c.run-r.result) c.run-r.ensures h)

pub loop-at-preserved-then-n-lt-SHORT : goal.loop-at-preserved-then-n-lt-SHORT
loop-at-preserved-then-n-lt-SHORT c =
    let d = drawing_by c.args.d in
    let block = c.args.block.now in
    let l = c.loop-at in
    let r = c.run-r in
    let o = ran-outside d block l.invariant.0 (ran_by r.result) r.ensures c.judged-number.ensures c.if-number-eq0.false in (
      far-refused d block l.invariant.0 (ran_by r.result) r.ensures c.judged-number.ensures c.if-number-eq0.false c.refused-refusals.ensures,
      l.invariant.1,
      l.invariant.2,
      l.invariant.3 ∙ traced-refused block l.lines l.machine.state l.at l.invariant.0.free r.ensures o,
    )

-- ---- after a refusal, a stretch: `f` is that the refusal is noted

pub overflow_add-at : goal.overflow_add-at
overflow_add-at c =
    let f = far-refused (drawing_by c.args.d) c.args.block.now c.loop-at.invariant.0 (ran_by c.run-r.result) c.run-r.ensures c.judged-number.ensures c.if-number-eq0.false c.refused-refusals.ensures in
    let h = stretch-within (drawing_by c.args.d) c.args.block.now f c.letterless-n.result c.letterless-n.ensures in
    search (rules, h)

pub slice_bounds-plot-end : goal.slice_bounds-plot-end
slice_bounds-plot-end c =
    let f = far-refused (drawing_by c.args.d) c.args.block.now c.loop-at.invariant.0 (ran_by c.run-r.result) c.run-r.ensures c.judged-number.ensures c.if-number-eq0.false c.refused-refusals.ensures in
    let h = stretch-within (drawing_by c.args.d) c.args.block.now f c.letterless-n.result c.letterless-n.ensures in
    search (rules, h)

pub unnamed-refusals-requires : goal.unnamed-refusals-requires
unnamed-refusals-requires c =
    let f = far-refused (drawing_by c.args.d) c.args.block.now c.loop-at.invariant.0 (ran_by c.run-r.result) c.run-r.ensures c.judged-number.ensures c.if-number-eq0.false c.refused-refusals.ensures in
    let h = plotted-few (drawing_by c.args.d) c.args.block.now f c.letterless-n.result c.letterless-n.ensures _ c.plot-g.ensures.value in
    let few = rw c.loop-at.invariant.1 at h in
    (few, omega (arith, few, c.plot-g.auto.numbers, c.loop-at.invariant.1))

pub loop-at-smaller : goal.loop-at-smaller
loop-at-smaller c =
    let f = far-refused (drawing_by c.args.d) c.args.block.now c.loop-at.invariant.0 (ran_by c.run-r.result) c.run-r.ensures c.judged-number.ensures c.if-number-eq0.false c.refused-refusals.ensures in
    let h = c.loop-at-test.true in
    omega (
      arith,
      h,
      ran-further (drawing_by c.args.d) c.args.block.now c.loop-at.invariant.0 (ran_by c.run-r.result) c.run-r.ensures h,
      plotted-further (drawing_by c.args.d) c.args.block.now f c.letterless-n.result c.letterless-n.ensures _ c.plot-g.ensures.value,
    )

pub loop-at-preserved : goal.loop-at-preserved
loop-at-preserved c =
    let d = drawing_by c.args.d in
    let block = c.args.block.now in
    let l = c.loop-at in
    let r = c.run-r in
    let n = c.letterless-n in
    let g = c.plot-g in
    let f = far-refused d block l.invariant.0 (ran_by r.result) r.ensures c.judged-number.ensures c.if-number-eq0.false c.refused-refusals.ensures in
    let o = ran-outside d block l.invariant.0 (ran_by r.result) r.ensures c.judged-number.ensures c.if-number-eq0.false in (
      far-plotted d block f n.result n.ensures _ g.ensures.value o _
          (c.unnamed-refusals.ensures ∙ ap (λ (ns : List ℤ). unnamed_in c.refused-refusals.result d.nobody d.before ns g.result.stored) g.ensures.numbers_after),
      g.auto.numbers ∙ l.invariant.1,
      l.invariant.2,
      l.invariant.3
          ∙ traced-refused block l.lines l.machine.state l.at l.invariant.0.free r.ensures o
          ∙ ap (painted_all l.lines) (plotted-strokes d block f n.result n.ensures _ g.ensures.value o),
    )

pub returns : goal.returns
returns c =
    let l = c.loop-at in
    let is = c.ended.ensures in
    let all = far-ended (drawing_by c.args.d) c.args.block.now l.invariant.0 (omega arith) in
    record { value = (is ∙ all, ap (λ (x : DrawingAt). occupied x.machine.state.work) is ∙ l.invariant.0.free); lines_after = sym (l.invariant.3 ∙ traced-end l.lines l.machine.state c.args.block.now l.at (omega arith)) }
