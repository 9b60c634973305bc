-- The proof of `pm1_in`: by its tests; in polygon mode the first point may be located.
use mathlib.Core.Path.{refl}
use borrow.Author.Tests.{le-leb, lt-leb}
use Rattle.hpgl.specs.Rules.{pm1_in}
use Rattle.rulekit.specs.Locating.{first-locatable}
use Rattle.shapes.proofs.polygons.pm1_in.Goals as goal

pub edge_to-requires : goal.edge_to-requires
edge_to-requires c =
    (c.requires.0, first-locatable c.requires.0 c.requires.1)

pub returns-then-g-le-POLYGON_BYTES : goal.returns-then-g-le-POLYGON_BYTES
unfolding pm1_in
returns-then-g-le-POLYGON_BYTES c =
    simp (
      c.done.ensures,
      ← c.edge_to.ensures,
      ← c.ended.ensures,
      le-leb _ _ c.if-g-le-POLYGON_BYTES.true,
      c.if-closes.true,
      ← c.closes.ensures,
    )
    refl

pub returns-then-closes : goal.returns-then-closes
unfolding pm1_in
returns-then-closes c =
    simp (c.refuse.ensures, lt-leb _ _ c.if-g-le-POLYGON_BYTES.false, c.if-closes.true, ← c.closes.ensures) refl

pub returns-then-g-le-POLYGON_BYTES-2 : goal.returns-then-g-le-POLYGON_BYTES-2
unfolding pm1_in
returns-then-g-le-POLYGON_BYTES-2 c =
    simp (
      c.done-then-g-le-POLYGON_BYTES-2.ensures,
      ← c.ended-then-g-le-POLYGON_BYTES-2.ensures,
      le-leb _ _ c.if-g-le-POLYGON_BYTES-2.true,
      c.if-closes.false,
      ← c.closes.ensures,
    )
    refl

pub returns : goal.returns
unfolding pm1_in
returns c =
    simp (c.refuse-2.ensures, lt-leb _ _ c.if-g-le-POLYGON_BYTES-2.false, c.if-closes.false, ← c.closes.ensures) refl
