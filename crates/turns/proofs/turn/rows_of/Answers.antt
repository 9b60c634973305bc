-- The proof of `rows_of`: the constant has the definition's tables, and so the four numbers of any turn.
use Rattle.std.proofs.Common.{◌≡◌, refl, sym, ap, ◌∙◌, ℕ, ◌<◌, ℤ, List, [], map, get_or, slice_index_or}
use Rattle.std.proofs.lemmas.List.{get_or-map}
use Rattle.turns.specs.Turn as def
use Rattle.turns.specs.Turn.{turn_count, turns, table_of, rows_of}
use Rattle.turns.specs.declared.turn.Turn.{Turn}
use Rattle.turns.specs.declared.turn.TheConstants.{TURNS}
use Rattle.turns.proofs.Rows.{table}
use Rattle.turns.proofs.turn.rows_of.Goals as goal

-- the tables of the code's turns are those of the definition's
tables : map (λ (u : Turn). u.table) TURNS ≡ map (λ (r : def.Turn). r.table) turns
unfolding turns
tables = refl

-- so the one that is read is the turn's; d stands past the last
read : (t : ℕ) (d : Turn) → t < turn_count → (slice_index_or TURNS t d).table ≡ table_of t
read t d h = sym (get_or-map (λ (u : Turn). u.table) TURNS t d [] h) ∙ ap (λ (l : List (List (List ℤ))). get_or l t []) tables

pub returns : goal.returns
unfolding rows_of
returns c =
    let n = table (read c.args.turn _ c.requires) c.requires in
    λ i. record { xx = n.xx.is i; xy = n.xy.is i; yx = n.yx.is i; yy = n.yy.is i }
