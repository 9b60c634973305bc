-- The proof of `begins_name`: a capital by its bit, and no other byte.
use Rattle.std.proofs.Common.{arith, ◌∙◌}
use Rattle.mnemonics.specs.Table.{cell_of, begins_from, begins_name}
use Rattle.mnemonics.proofs.Letters.{capital, no-capital}
use Rattle.mnemonics.proofs.begins_name.Goals as goal

pub returns-then-is_ascii_uppercase : goal.returns-then-is_ascii_uppercase
unfolding begins_name begins_from cell_of
returns-then-is_ascii_uppercase c = let k = c.if-is_ascii_uppercase.ensures.cases in capital _ k.0 k.1

pub returns-else-is_ascii_uppercase : goal.returns-else-is_ascii_uppercase
returns-else-is_ascii_uppercase c = c.if-is_ascii_uppercase.false ∙ no-capital _ (λ h k. omega (arith, h, k, c.if-is_ascii_uppercase.ensures.cases))
