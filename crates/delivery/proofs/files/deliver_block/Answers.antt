-- Each turn hands the next part over, and makes what the block still asks for shorter.
use Rattle.std.proofs.Common.{◌≤◌, ℕ, List, length, refl, ◌∙◌, arith, length-take-le}
use Rattle.decimals.specs.Puts.{Puts, puts-length}
use Rattle.plotting.specs.PlottedLaws.{begins, empties, left_less}
use Rattle.delivery.specs.RanLaws.{midway-first, midway-next, midway-again, leaves-part, leaves_all}
use Rattle.delivery.proofs.files.deliver_block.Goals as goal

-- a text that was put is within the buffer
fits : {text before after : List ℕ} {at end : ℕ} → Puts text before after at end → end ≤ length after
fits p = omega (arith, p.room, p.ends, puts-length p)

pub loop-p-init : goal.loop-p-init
loop-p-init c =
    let e = c.begun-p.ensures in
    (begins e c.requires.block_bound, c.requires.text_len, refl, midway-first e c.requires.begins)

pub fill-p-requires : goal.fill-p-requires
fill-p-requires c =
    record { ready = c.loop-p.invariant.0.ready; length_in_bounds = omega (arith, c.loop-p.invariant.0.empty) }

pub slice_bounds-hand-end : goal.slice_bounds-hand-end
slice_bounds-hand-end c = fits c.fill-p.ensures.plotted.puts

pub hand-requires : goal.hand-requires
hand-requires c =
    let e = c.fill-p.ensures.plotted in
    record {
      text_len_bound = omega (arith, c.loop-p.invariant.1, puts-length e.puts, length-take-le _ _ (fits e.puts));
      next = midway-next c.loop-p.invariant.3 e c.loop-p.invariant.0.empty;
    }

pub returns-then-not-hand : goal.returns-then-not-hand
returns-then-not-hand c =
    record { tally_unchanged = c.hand.ensures.tally_unchanged ∙ c.loop-p.invariant.2; leaves = leaves-part c.loop-p.invariant.3 c.fill-p.ensures.plotted c.loop-p.invariant.0.empty c.hand.ensures.tally_unchanged c.hand.ensures.tally_after }

pub loop-p-smaller : goal.loop-p-smaller
loop-p-smaller c =
    let e = c.fill-p.ensures in
    left_less e.plotted c.loop-p-test.true (λ m. omega (arith, e.text_len_bound m, c.loop-p.invariant.0.empty, c.loop-p.invariant.1)) c.emptied-p.ensures

pub loop-p-preserved : goal.loop-p-preserved
loop-p-preserved c =
    let e = c.fill-p.ensures.plotted in (
      empties c.emptied-p.ensures e.ready,
      puts-length e.puts ∙ c.loop-p.invariant.1,
      c.hand.ensures.tally_unchanged ∙ c.loop-p.invariant.2,
      midway-again c.loop-p.invariant.3 e c.loop-p.invariant.0.empty c.hand.ensures.tally_unchanged c.hand.ensures.tally_after c.emptied-p.ensures,
    )

pub returns : goal.returns
returns c =
    let i = c.loop-p.invariant in
    record { tally_unchanged = i.2; leaves = leaves_all i.3 i.0.ready c.loop-p-test.false }
