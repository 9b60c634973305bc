-- The bytes passed are the same in both.
use Rattle.std.proofs.Common.{arith}
use Rattle.delivery.specs.ComparedLaws.{common-more, common-end, common-other, common-done}
use Rattle.delivery.proofs.edge.common.Goals as goal
use Rattle.delivery.proofs.edge.common.Goals.{then-i-b-via-then-i-b, then-i-b-via-else-i-b+then-x-b}

pub returns-then-i-b-clause-value : goal.returns-then-i-b-clause-value
returns-then-i-b-clause-value c =
    let l = c.loop-i in
    elim c.then-i-b.branch [
      | then-i-b-via-then-i-b w ↦ omega (arith, l.invariant, common-end c.args.a.now c.args.b.now l.i c.loop-i-test.true w.if-i-b.true)
      | then-i-b-via-else-i-b+then-x-b w ↦ omega (arith, l.invariant, common-other c.args.a.now c.args.b.now l.i c.loop-i-test.true w.if-i-b.false w.if-x-b.true)
    ]

pub loop-i-preserved : goal.loop-i-preserved
loop-i-preserved c =
    let l = c.loop-i in
    omega (arith, l.invariant, common-more c.args.a.now c.args.b.now l.i c.loop-i-test.true c.if-i-b.false c.if-x-b.false)

pub returns-clause-value : goal.returns-clause-value
returns-clause-value c =
    omega (arith, c.loop-i.invariant, c.loop-i.auto.i-end, common-done c.args.a.now c.args.b.now c.loop-i.i c.loop-i-test.false)
