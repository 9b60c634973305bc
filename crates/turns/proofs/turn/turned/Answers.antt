-- The proof of `turned`: a turn's rows are units.
use Rattle.std.proofs.Common.{◌∙◌}
use Rattle.turns.proofs.TurnLaws.{by_rows, rows-unit}
use Rattle.turns.proofs.turn.turned.Goals as goal

pub turned_by-requires : goal.turned_by-requires
turned_by-requires c = rw c.rows_of.ensures (rows-unit c.requires.1, c.requires.0)

pub returns : goal.returns
returns c = c.turned_by.ensures ∙ rw c.rows_of.ensures (by_rows c.args.p c.args.turn)
