-- The proof of `move_to`: by its tests; valid parts have a position with a page point.
use Rattle.std.proofs.Common.{refl, sym, subst, ap, ◌∙◌}
use Rattle.clip.specs.Reach.{SmallPoint}
use Rattle.turns.specs.Turn.{turned_by}
use Rattle.hpgl.specs.Rules.{done, inked, move_to}
use Rattle.rulekit.specs.Hand.{line_of, location-in, page-in}
use Rattle.rulekit.specs.Locating.{frame-rows, hand-near}
use Rattle.shapes.proofs.moves.move_to.Goals as goal
use Rattle.shapes.proofs.moves.move_to.Goals.{else-h-via-then-h+else-paints, else-h-via-else-h}

pub turned_by-a-requires : goal.turned_by-a-requires
turned_by-a-requires c =
    let w = c.requires.0.parts in
    (frame-rows w, subst SmallPoint (sym c.requires.2) (hand-near w))

pub turned_by-b-requires : goal.turned_by-b-requires
turned_by-b-requires c = (frame-rows c.requires.0.parts, c.requires.1)

pub returns-then-paints-clause-result_value : goal.returns-then-paints-clause-result_value
unfolding move_to inked done line_of
returns-then-paints-clause-result_value c =
    let f = c.args.f in
    let from = c.args.h.position in
    λ s g e q.
    let start = c.turned_by-a.ensures ∙ ap (turned_by f.rows) (c.requires.2 ∙ location-in s from e) ∙ page-in s from e in
    let end = c.turned_by-b.ensures ∙ ap (turned_by f.rows) q ∙ page-in s c.args.p e in
    simp (c.moved-there.ensures, start, end, c.if-h.true, ← c.paints.ensures, c.if-paints.true) refl

pub returns-else-h-clause-result_value : goal.returns-else-h-clause-result_value
unfolding move_to inked done line_of
returns-else-h-clause-result_value c = λ s g e q.
    elim c.else-h.branch [
      | else-h-via-then-h+else-paints w ↦ simp (c.moved-there.ensures, w.if-h.true, ← w.paints.ensures, w.if-paints.false) refl
      | else-h-via-else-h w ↦ simp (c.moved-there.ensures, w.if-h.false) refl
    ]
