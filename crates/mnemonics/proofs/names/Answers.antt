-- The proof of `names`: two letters are compared as one number.
use mathlib.Core.Path.{◌∙◌}
use lib.Dec.{eqb}
use lib.ListN.{get_or}
use Rattle.mnemonics.proofs.Letters.{both-same}
use Rattle.mnemonics.proofs.names.Goals as goal

pub returns : goal.returns
returns c =
    let row = c.args.row.now in
    (λ i. eqb (c.both.ensures.0 i) (c.both-2.ensures.0 i))
    ∙ both-same (get_or row 0 0) (get_or row 1 0) c.args.first c.args.second c.both.ensures.1 c.both-2.ensures.1
