-- The proof of `put_four`: two digits after two others.
use Rattle.decimals.specs.Puts.{puts_then}
use Rattle.decimals.proofs.put_four.Goals as goal

pub returns : goal.returns
returns c =
    puts_then c.put_two-next.ensures c.put_two.ensures
