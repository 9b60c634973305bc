-- None of the slots that are passed has these ends.
use Rattle.std.proofs.Common.{◌≡◌, refl, sym, ap, ◌∙◌, ℕ, arith}
use Rattle.repeats.specs.Repeats.{among}
use Rattle.repeats.specs.Laws.{among-here, among_later, among_none}
use Rattle.repeats.proofs.among.Goals as goal

pub loop-i-init : goal.loop-i-init
loop-i-init c = (omega arith, refl)

pub returns-then-same : goal.returns-then-same
returns-then-same c =
    sym (c.loop-i.invariant.1 ∙ among-here c.args.lines.now c.loop-i.i c.args.l c.loop-i-test.true c.row_at.ensures (sym c.same.ensures ∙ c.if-same.true))

pub loop-i-preserved : goal.loop-i-preserved
loop-i-preserved c =
    (omega (arith, c.loop-i.invariant.0), c.loop-i.invariant.1 ∙ among_later c.args.lines.now c.loop-i.i c.args.l c.loop-i-test.true c.row_at.ensures (sym c.same.ensures ∙ c.if-same.false))

pub returns : goal.returns
returns c =
    let z : c.loop-i.i ≡ 0 = omega arith in
    sym (c.loop-i.invariant.1 ∙ ap (λ (n : ℕ). among c.args.lines.now n c.args.l) z ∙ among_none c.args.lines.now c.args.l)
