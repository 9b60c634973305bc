-- The digits are put.
use Rattle.output.proofs.put_natural.Goals as goal

pub returns : goal.returns
returns c =
    record { count = c.decimal-count.result; fewest = c.decimal-count.ensures.len; puts = rw (← c.decimal-count.ensures.digits) c.put_bytes.ensures }
