-- The proof of `stored`: by its arms. An action that joins an edge has a place for it.
use mathlib.Core.Path.{subst}
use Rattle.hpgl.specs.Valid.{ValidAction}
use Rattle.queue.proofs.storing.stored.Goals as goal

pub joined-requires : goal.joined-requires
joined-requires c =
    (subst (ValidAction c.args.count) c.in-Join.is c.requires).1
