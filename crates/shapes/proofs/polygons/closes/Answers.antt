-- The proof of `closes`: by its test; in polygon mode the first point may be located.
use mathlib.Core.Path.{refl}
use Rattle.hpgl.specs.Rules.{closes}
use Rattle.rulekit.specs.Locating.{here-locatable, first-locatable}
use Rattle.shapes.proofs.polygons.closes.Goals as goal

pub returns-then-k : goal.returns-then-k
unfolding closes
returns-then-k c = simp c.if-k.true refl

pub located-here-requires : goal.located-here-requires
located-here-requires c =
    (c.requires.0.settings, here-locatable c.requires.0)

pub located-requires : goal.located-requires
located-requires c =
    (c.requires.0.settings, first-locatable c.requires.0 c.requires.1)

pub returns : goal.returns
unfolding closes
returns c =
    simp (c.differ.ensures, ← c.located-here.ensures, ← c.located.ensures, c.if-k.false) refl
