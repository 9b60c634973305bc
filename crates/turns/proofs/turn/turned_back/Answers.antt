-- The proof of `turned_back`: the columns of a turn's rows are units too.
use Rattle.std.proofs.Common.{◌≡◌, refl, ◌∙◌, ◌<◌, ℕ}
use Rattle.clip.specs.declared.Point.{Point}
use Rattle.turns.specs.Turn.{turn_count, rows_of, transposed_of, turned_by, turned_back_of, UnitRows}
use Rattle.turns.proofs.TurnLaws.{rows-unit}
use Rattle.turns.proofs.turn.turned_back.Goals as goal

columns-unit : {t : ℕ} → t < turn_count → UnitRows (transposed_of (rows_of t))
unfolding transposed_of
columns-unit h = let u = rows-unit h in record { xx = u.xx; xy = u.yx; yx = u.xy; yy = u.yy }

by_columns : (p : Point) (t : ℕ) → turned_by (transposed_of (rows_of t)) p ≡ turned_back_of p t
unfolding transposed_of rows_of turned_by turned_back_of
by_columns p t = refl

pub turned_by-requires : goal.turned_by-requires
turned_by-requires c = rw (c.transposed.ensures, c.rows_of.ensures) (columns-unit c.requires.1, c.requires.0)

pub returns : goal.returns
returns c = c.turned_by.ensures ∙ rw (c.transposed.ensures, c.rows_of.ensures) (by_columns c.args.p c.args.turn)
