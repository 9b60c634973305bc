-- No name begins with another letter. The place of the row is what the search of the whole table finds, row by row.
use Rattle.std.proofs.Common.{sym, ◌∙◌}
use Rattle.std.proofs.lemmas.Iterator.Adapters.{position_from-zero}
use Rattle.mnemonics.specs.Table.{table, names_of, named_of, find_from, find_of}
use Rattle.mnemonics.proofs.Laws.{none-begins}
use Rattle.mnemonics.proofs.find.Goals as goal

pub returns-then-not-begins_name : goal.returns-then-not-begins_name
returns-then-not-begins_name c = let a = c.args in sym (none-begins a.first a.second (sym c.begins_name.ensures ∙ c.if-not-begins_name.true))

pub returns : goal.returns
unfolding find_of find_from named_of
returns c = c.place.ensures ∙ position_from-zero (λ row. names_of row c.args.first c.args.second) table
