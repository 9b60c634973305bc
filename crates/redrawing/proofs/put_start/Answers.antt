-- One byte after another.
use Rattle.decimals.specs.Puts.{puts_then}
use Rattle.redrawing.proofs.put_start.Goals as goal

pub returns : goal.returns
returns c =
    puts_then c.put_byte-first.ensures (puts_then c.put_byte-second.ensures c.put_byte.ensures)
