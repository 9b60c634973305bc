-- The place in the store of the edge that waits first.
use Rattle.std.specs.Prelude.{ℕ, zero, suc, ◌<◌}
use Rattle.std.proofs.Common.{arith, lit<}
use Rattle.hpgl.specs.declared.Work.{Work}
use Rattle.hpgl.specs.declared.Work.TheVariants.{Nothing, Line, Chords, Edges, Answer}
use Rattle.hpgl.specs.Numbers.{most_edges}
use Rattle.hpgl.specs.Valid.{ValidWork}

unfoldable pub edge_place : Work → ℕ
edge_place Nothing = 0
edge_place (Line a b) = 0
edge_place (Chords o i n) = 0
edge_place (Edges i zero) = 0
edge_place (Edges i (suc n)) = i
edge_place (Answer r) = 0

-- it is within the store
pub place-within : (w : Work) → ValidWork w → edge_place w < most_edges
unfolding edge_place
place-within Nothing h = lit< tt
place-within (Line a b) h = lit< tt
place-within (Chords o i n) h = lit< tt
place-within (Edges i zero) h = lit< tt
place-within (Edges i (suc n)) h = omega arith
place-within (Answer r) h = lit< tt
