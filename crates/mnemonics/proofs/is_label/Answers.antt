-- The proof of `is_label`: two letters are compared as one number.
use mathlib.Core.Path.{◌∙◌}
use lib.Dec.{eqb}
use Rattle.mnemonics.specs.Table.{is_label}
use Rattle.mnemonics.proofs.Letters.{both-same}
use Rattle.mnemonics.proofs.is_label.Goals as goal

pub returns : goal.returns
unfolding is_label
returns c =
    (λ i. eqb (c.both.ensures.0 i) (c.both-2.ensures.0 i))
    ∙ both-same c.args.first c.args.second 76 66 c.both.ensures.1 c.both-2.ensures.1
