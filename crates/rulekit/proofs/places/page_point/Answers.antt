-- The proof of `page_point`: a position that may be kept has a location that may be turned.
use mathlib.Core.Path.{sym, subst, ap, ◌∙◌}
use Rattle.clip.specs.Reach.{SmallPoint}
use Rattle.clip.specs.declared.Point.{Point}
use Rattle.turns.specs.Turn.{turned_of}
use Rattle.hpgl.specs.Place.{page_point}
use Rattle.hpgl.proofs.ValidFacts.{placed-locatable}
use Rattle.rulekit.proofs.places.page_point.Goals as goal

pub located-requires : goal.located-requires
located-requires c = (c.requires.0, placed-locatable c.requires.0 c.requires.1)

pub turned-requires : goal.turned-requires
turned-requires c =
    (subst SmallPoint (sym c.located.ensures) c.requires.1.near, c.requires.0.turn)

pub returns : goal.returns
unfolding page_point
returns c =
    c.turned.ensures ∙ ap (λ (p : Point). turned_of p c.args.s.turn) c.located.ensures
