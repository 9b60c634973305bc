-- The strokes passed can be written.
use Rattle.std.proofs.Common.{◌≡◌, Bool, true, false, ◌&&◌, ◌+◌, ◌<◌, length, drop, sym, ap, ◌∙◌, arith}
use Rattle.redrawn.specs.Redrawn.{writable, all_writable}
use Rattle.redrawing.specs.Lists.{nth}
use Rattle.redrawing.specs.RedrawingLaws.{writable-more, writable-end}
use Rattle.redrawing.proofs.all_writable.Goals as goal

pub returns-then-not-writable : goal.returns-then-not-writable
returns-then-not-writable g c =
    let ss = g.S.Strokes.strokes c.args.list.now in
    let i = c.loop-i.i in
    let h : i < length ss = omega (arith, c.loop-i-test.true, c.count-i-end.ensures) in
    let w : writable (nth ss i) ≡ false = ap writable (sym c.stroke.ensures) ∙ sym c.writable.ensures ∙ c.if-not-writable.true in
    sym (c.loop-i.invariant ∙ writable-more ss i h ∙ ap (λ (b : Bool). b && all_writable (drop (i + 1) ss)) w)

pub loop-i-preserved : goal.loop-i-preserved
loop-i-preserved g c =
    let ss = g.S.Strokes.strokes c.args.list.now in
    let i = c.loop-i.i in
    let h : i < length ss = omega (arith, c.loop-i-test.true, c.count-i-end.ensures) in
    let w : writable (nth ss i) ≡ true = ap writable (sym c.stroke.ensures) ∙ sym c.writable.ensures ∙ c.if-not-writable.false in
    c.loop-i.invariant ∙ writable-more ss i h ∙ ap (λ (b : Bool). b && all_writable (drop (i + 1) ss)) w

pub returns : goal.returns
returns g c =
    let ss = g.S.Strokes.strokes c.args.list.now in
    sym (c.loop-i.invariant ∙ writable-end ss c.loop-i.i (omega (arith, c.loop-i-test.false, c.count-i-end.ensures)))
