-- The proof of `turned_box`: two corners, each read from the box.
use mathlib.Core.Path.{ap₂, ◌∙◌}
use mir.Syntax.{w64}
use Rattle.exact.specs.Fit.{val}
use Rattle.turns.specs.Turn.{turned_of, ordered_of, turned_box_of}
use Rattle.turns.proofs.turn.turned_box.Goals as goal

pub returns : goal.returns
unfolding turned_box_of
returns c =
    let b = c.requires.0 in
    c.ordered.ensures
    ∙ ap₂ ordered_of (c.turned-p.ensures ∙ (λ i. turned_of (record { x = (val w64 b.left tt).is i; y = (val w64 b.bottom tt).is i }) c.args.turn))
    (c.turned-q.ensures ∙ (λ i. turned_of (record { x = (val w64 b.right tt).is i; y = (val w64 b.top tt).is i }) c.args.turn))
