-- A mark has its place, and no more lines are kept than the slots.
use Rattle.std.proofs.Common.{arith}
use Rattle.repeats.specs.Laws.{mark-below, kept-few}
use Rattle.repeats.proofs.sought.Goals as goal

pub overflow_add-mark : goal.overflow_add-mark
overflow_add-mark c = omega (arith, c.mark.ensures, mark-below c.args.l)

pub size_at-last-requires : goal.size_at-last-requires
size_at-last-requires c = omega (arith, c.requires, c.mark.ensures, mark-below c.args.l)

pub among-requires : goal.among-requires
among-requires c = (rw c.kept.ensures (kept-few c.size_at-count.result), c.requires)
