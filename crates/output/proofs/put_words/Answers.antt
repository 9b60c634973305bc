-- A text is not shorter than without its blanks.
use mathlib.Core.Path.{sym}
use lib.Seq.{length-take-le}
use Rattle.output.proofs.put_words.Goals as goal

pub slice_bounds-put_bytes-end : goal.slice_bounds-put_bytes-end
slice_bounds-put_bytes-end c =
    sym (length-take-le _ _ c.trimmed_length-n.ensures.upper_bound)

pub returns : goal.returns
returns c =
    rw (← c.trimmed_length-n.ensures.value) c.put_bytes.ensures
