-- The proof of `rebased`: a page point may be turned back.
use mathlib.Core.Path.{refl, sym, subst}
use Rattle.clip.specs.Reach.{SmallPoint}
use Rattle.hpgl.specs.Rules.{rebased}
use Rattle.hpgl.proofs.ValidFacts.{page-small}
use Rattle.settings.proofs.rebased.Goals as goal

pub turned_back-requires : goal.turned_back-requires
turned_back-requires c =
    (subst SmallPoint (sym c.page_point-page.ensures) (page-small c.requires.0.settings c.requires.0.position), c.requires.1)

pub returns : goal.returns
unfolding rebased
returns c =
    simp (c.with_position.ensures, c.rest_at-rest.ensures, c.turned_back.ensures, c.page_point-page.ensures) refl
