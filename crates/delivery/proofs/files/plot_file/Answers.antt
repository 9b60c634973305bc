-- Between two blocks all that was read is printed. A turn reads at most 65,536 bytes, so that 2^47 of them do not count past 2^63.
use Rattle.std.proofs.Common.{◌≡◌, Err, sym, ap, ◌∙◌, arith}
use Rattle.std.proofs.lemmas.Result.{IfErr-at_err, err_from_is_err_and}
use borrow.Author.Tests.{not-true}
use Rattle.delivery.specs.declared.edge.Tally.{Tally}
use Rattle.delivery.specs.declared.files.Fault.{Fault}
use Rattle.delivery.specs.declared.files.Fault.TheVariants.{Undelivered}
use Rattle.delivery.specs.RanLaws.{stands-first, stands_read, stands-still, stands-next, ran}
use Rattle.delivery.proofs.files.plot_file.Goals as goal

pub loop-turn-init : goal.loop-turn-init
loop-turn-init c =
    let read = ap (λ (t : Tally). t.read) c.requires.nothing in
    (c.large_buffer-block.ensures, c.large_buffer-text.ensures, omega (arith, read), stands-first c.requires.work_value read (ap (λ (t : Tally). t.handed) c.requires.nothing))

pub returns-then-not-got : goal.returns-then-not-got
returns-then-not-got c =
    let e = c.read_block-got.ensures in
    let i = stands-still c.loop-turn.invariant.3 e.tally_after e.tally_unchanged (e.count_value (not-true _ c.if-not-got.true)) in
    ran c.read_block-got.new.tally i.reached (λ n. i.nothing)

pub returns-then-n-eq0 : goal.returns-then-n-eq0
returns-then-n-eq0 c =
    let e = c.read_block-got.ensures in
    let i = stands-still c.loop-turn.invariant.3 e.tally_after e.tally_unchanged c.if-n-eq0.true in
    ran c.read_block-got.new.tally i.reached (λ n. i.nothing)

pub deliver_block-requires-clause-begins : goal.deliver_block-requires-clause-begins
deliver_block-requires-clause-begins c =
    let e = c.read_block-got.ensures in
    stands_read c.loop-turn.invariant.3 (omega (arith, e.prefix_len.1, e.tally_after)) e.tally_unchanged

pub returns-in_err-machine : goal.returns-in_err-machine
returns-in_err-machine c =
    let l = c.deliver_block.ensures.leaves in
    let fault = IfErr-at_err (λ (f : Fault). f ≡ Undelivered) c.in_err-machine.was l.fault in
    let p = err_from_is_err_and c.from_residual.result c.from_residual.ensures.1 in
    ran c.deliver_block.new.tally l.reached (λ n. absurd (n (p.1 ∙ ap Err (p.2 ∙ fault))))

pub loop-turn-preserved : goal.loop-turn-preserved
loop-turn-preserved c =
    let i = c.loop-turn.invariant in
    let r = c.read_block-got.ensures in
    let e = c.deliver_block.ensures in (
      i.0 ∙ sym c.read_block-got.auto.block,
      i.1 ∙ sym c.deliver_block.auto.text,
      omega (arith, i.2, i.0, c.read_block-got.auto.block, r.tally_after, r.prefix_len.0, r.prefix_len.1, e.tally_unchanged),
      stands-next c.in_ok-machine.machine e.leaves c.in_ok-machine.was,
    )
