-- The loop has put the lines of i marks.
use Rattle.std.proofs.Common.{◌≡◌, ap, add-one, arith}
use Rattle.textlines.specs.Text.{marks_below}
use Rattle.decimals.specs.Puts.{puts-same, puts-nothing, puts_then, puts-length}
use Rattle.textlines.proofs.mark_lines.Goals as goal

pub loop-i-init : goal.loop-i-init
unfolding marks_below
loop-i-init c = (puts-nothing _ (omega arith), omega arith)

pub mark_line-end-requires : goal.mark_line-end-requires
mark_line-end-requires c = record { longest_in_bounds = omega (arith, puts-length c.loop-i.invariant.0); i_in_bounds = omega arith }

pub loop-i-preserved : goal.loop-i-preserved
unfolding marks_below
loop-i-preserved c =
    let e = c.mark_line-end.ensures in
    (rw add-one (puts_then c.loop-i.invariant.0 e.puts), omega (arith, e.upper_bound))

pub shape_of-out : goal.shape_of-out
shape_of-out c = puts-length c.loop-i.invariant.0

pub returns : goal.returns
returns c =
    let e : c.loop-i.i ≡ c.args.count = omega arith in
    record { puts = puts-same (ap (marks_below c.args.before c.args.numbers.now) e) c.loop-i.invariant.0; upper_bound = omega arith }
