-- The proof of `edge_of`: by its parts.
use mathlib.Core.Path.{refl}
use Rattle.saved.specs.Saved.{edge_of}
use Rattle.saving.proofs.edges.edge_of.Goals as goal

pub returns : goal.returns
unfolding edge_of
returns c =
    simp (c.from_of.ensures, c.to_of.ensures, c.flag_in.ensures) refl
