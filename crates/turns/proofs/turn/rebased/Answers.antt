-- The proof of `rebased`: the turn keeps the bound that the way back asks.
use mathlib.Core.Path.{sym, subst, ap, ◌∙◌}
use Rattle.clip.specs.Reach.{SmallPoint}
use Rattle.clip.specs.declared.Point.{Point}
use Rattle.turns.specs.Turn.{turned_back_of, rebased_of}
use Rattle.turns.proofs.TurnLaws.{turned-small}
use Rattle.turns.proofs.turn.rebased.Goals as goal

pub turned_back-requires : goal.turned_back-requires
turned_back-requires c =
    (subst SmallPoint (sym c.turned.ensures) (turned-small c.requires.0 c.requires.1), c.requires.2)

pub returns : goal.returns
unfolding rebased_of
returns c =
    c.turned_back.ensures ∙ ap (λ (p : Point). turned_back_of p c.args.new) c.turned.ensures
