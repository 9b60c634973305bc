-- The proof of `pm2_in`: by its tests; in polygon mode the first point may be located.
use mathlib.Core.Path.{refl}
use borrow.Author.Tests.{le-leb, lt-leb}
use Rattle.hpgl.specs.Rules.{pm2_in}
use Rattle.rulekit.specs.Locating.{first-locatable}
use Rattle.shapes.proofs.polygons.pm2_in.Goals as goal

pub edge_to-requires : goal.edge_to-requires
edge_to-requires c =
    (c.requires.0, first-locatable c.requires.0 c.requires.1)

pub returns-then-g-le-POLYGON_BYTES : goal.returns-then-g-le-POLYGON_BYTES
unfolding pm2_in
returns-then-g-le-POLYGON_BYTES c =
    simp (
      c.done.ensures,
      ← c.edge_to.ensures,
      ← c.leave.ensures,
      le-leb _ _ c.if-g-le-POLYGON_BYTES.true,
      c.if-closes.true,
      ← c.closes.ensures,
    )
    refl

pub returns-then-closes : goal.returns-then-closes
unfolding pm2_in
returns-then-closes c =
    simp (
      c.refuse.ensures,
      ← c.leave-then-closes.ensures,
      lt-leb _ _ c.if-g-le-POLYGON_BYTES.false,
      c.if-closes.true,
      ← c.closes.ensures,
    )
    refl

pub returns : goal.returns
unfolding pm2_in
returns c =
    simp (c.done-2.ensures, ← c.leave-2.ensures, c.if-closes.false, ← c.closes.ensures) refl
