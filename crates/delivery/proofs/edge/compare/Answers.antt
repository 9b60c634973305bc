-- The parts of the buffers are within them.
use Rattle.std.proofs.Common.{sym, arith, length-append, length-take-le}
use Rattle.delivery.proofs.edge.compare.Goals as goal

pub slice_bounds-read_full-end : goal.slice_bounds-read_full-end
slice_bounds-read_full-end c = sym (length-take-le _ _ (omega arith))

pub slice_bounds-space-end-2 : goal.slice_bounds-space-end-2
slice_bounds-space-end-2 c = simp length-append (omega arith)

pub slice_bounds-common-end : goal.slice_bounds-common-end
slice_bounds-common-end c = sym (length-take-le _ _ (simp length-append (omega arith)))

pub slice_bounds-line_ends-end : goal.slice_bounds-line_ends-end
slice_bounds-line_ends-end c = sym (length-take-le _ _ (omega arith))
