-- What the bytes from `from` on come to is what those from `at` on come to, for the reader that the ones between them left.
use mathlib.Core.Path.{refl, sym, ◌∙◌}
use native.Mathlib.Omega.{arith}
use Rattle.reader.proofs.NextLaws.{next_past}
use Rattle.reading.proofs.Places.{in-number, quiet_at, event-at, scanned-at}
use Rattle.reading.proofs.by_steps.Goals as goal

pub loop-at-init : goal.loop-at-init
loop-at-init c = refl

pub bounds-bytes-at : goal.bounds-bytes-at
bounds-bytes-at c = omega arith

pub with_digits-scanned-requires : goal.with_digits-scanned-requires
with_digits-scanned-requires c =
    let l = c.loop-at in
    (c.loop-at-test.true, (in-number l.reader.mode _ (sym c.more_digits.ensures ∙ c.if-more_digits.true)).1)

pub loop-at-smaller-then-more_digits : goal.loop-at-smaller-then-more_digits
loop-at-smaller-then-more_digits c =
    let l = c.loop-at in
    omega (arith, (scanned-at l.reader _ l.at c.loop-at-test.true (sym c.more_digits.ensures ∙ c.if-more_digits.true) c.with_digits-scanned.result c.with_digits-scanned.ensures).0)

pub loop-at-preserved-then-more_digits : goal.loop-at-preserved-then-more_digits
loop-at-preserved-then-more_digits c =
    let l = c.loop-at in
    l.invariant ∙ (scanned-at l.reader _ l.at c.loop-at-test.true (sym c.more_digits.ensures ∙ c.if-more_digits.true) c.with_digits-scanned.result c.with_digits-scanned.ensures).1

pub overflow_add-at : goal.overflow_add-at
overflow_add-at c = omega arith

pub loop-at-smaller : goal.loop-at-smaller
loop-at-smaller c = omega arith

pub loop-at-preserved : goal.loop-at-preserved
loop-at-preserved c =
    let l = c.loop-at in
    l.invariant ∙ quiet_at l.reader _ l.at c.loop-at-test.true c.step-stepped.result c.step-stepped.ensures (sym c.is_nothing.ensures ∙ c.if-is_nothing.true)

pub returns-in-loop-at : goal.returns-in-loop-at
returns-in-loop-at c =
    let l = c.loop-at in
    sym (l.invariant ∙ event-at l.reader _ l.at c.loop-at-test.true c.step-stepped.result c.step-stepped.ensures (sym c.is_nothing.ensures ∙ c.if-is_nothing.false))

pub returns : goal.returns
returns c =
    let l = c.loop-at in
    sym (l.invariant ∙ next_past l.reader _ l.at c.loop-at-test.false)
