-- What is left of the room, and of the text.
use Rattle.std.proofs.Common.{◌+◌, ◌<◌, length, drop, sym, ap, ◌∙◌, arith}
use borrow.Author.Tests.{le-leb, lt-leb}
use Rattle.hpgl.specs.declared.Stroke.{Stroke}
use Rattle.redrawn.specs.Redrawn.{fits_in, writable, all_writable, stroke_text}
use Rattle.redrawn.specs.RedrawnLaws.{both}
use Rattle.redrawn.proofs.FirstStroke.{text-long}
use Rattle.redrawing.specs.Lists.{nth}
use Rattle.redrawing.specs.RedrawingLaws.{writable-more, long-more, text-end}
use Rattle.redrawing.proofs.fits.Goals as goal

pub returns-then-room-lt-START : goal.returns-then-room-lt-START
unfolding fits_in
returns-then-room-lt-START g c =
    let ss = g.S.Strokes.strokes c.args.list.now in
    sym (lt-leb _ _ (omega (arith, text-long ss c.requires, c.if-room-lt-START.true)))

pub stroke_length-n-requires : goal.stroke_length-n-requires
stroke_length-n-requires g c =
    let ss = g.S.Strokes.strokes c.args.list.now in
    let i = c.loop-i.i in
    let h : i < length ss = omega (arith, c.loop-i-test.true, c.count-i-end.ensures) in
    ap writable c.stroke-s.ensures ∙ (both (writable (nth ss i)) (all_writable (drop (i + 1) ss)) (sym (writable-more ss i h) ∙ c.loop-i.invariant.0)).0

pub returns-then-left-n : goal.returns-then-left-n
unfolding fits_in
returns-then-left-n g c =
    let ss = g.S.Strokes.strokes c.args.list.now in
    let i = c.loop-i.i in
    let before = c.loop-i.before in
    let h : i < length ss = omega (arith, c.loop-i-test.true, c.count-i-end.ensures) in
    let n = c.stroke_length-n.ensures ∙ ap (λ (s : Stroke). length (stroke_text before s)) c.stroke-s.ensures in
    sym (lt-leb _ _ (omega (arith, text-long ss c.requires, c.loop-i.invariant.1, long-more ss i h before, n, c.if-left-n.true)))

pub loop-i-preserved : goal.loop-i-preserved
loop-i-preserved g c =
    let ss = g.S.Strokes.strokes c.args.list.now in
    let i = c.loop-i.i in
    let before = c.loop-i.before in
    let h : i < length ss = omega (arith, c.loop-i-test.true, c.count-i-end.ensures) in
    let n = c.stroke_length-n.ensures ∙ ap (λ (s : Stroke). length (stroke_text before s)) c.stroke-s.ensures in
    rw c.stroke-s.ensures (
      (both (writable (nth ss i)) (all_writable (drop (i + 1) ss)) (sym (writable-more ss i h) ∙ c.loop-i.invariant.0)).1,
      omega (arith, c.loop-i.invariant.1, long-more ss i h before, n, c.if-left-n.false),
    )

pub returns : goal.returns
unfolding fits_in
returns g c =
    let ss = g.S.Strokes.strokes c.args.list.now in
    let end = ap length (text-end ss c.loop-i.i (omega (arith, c.loop-i-test.false, c.count-i-end.ensures)) c.loop-i.before) in
    sym (le-leb _ _ (omega (arith, text-long ss c.requires, c.loop-i.invariant.1, end)))
