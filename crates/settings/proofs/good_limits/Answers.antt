-- The proof of `good_limits`: each corner is judged, and then both together.
use Rattle.std.proofs.Common.{refl, sym, ap, ap₂, ◌∙◌, Bool, ◌&&◌}
use Rattle.exact.specs.Whole.{◌<?◌}
use Rattle.clip.specs.declared.Point.{Point}
use Rattle.hpgl.specs.Rules.{int16}
use Rattle.settings.specs.Judging.{limits-judged}
use Rattle.settings.proofs.good_limits.Goals as goal
use Rattle.settings.proofs.good_limits.Goals.{then-short, else-short}

abbrev short_of : Point → Bool
short_of p = int16 p.x && int16 p.y

abbrev below_of : Point → Point → Bool
below_of p q = (p.x <? q.x) && (p.y <? q.y)

pub returns-then-short-2 : goal.returns-then-short-2
returns-then-short-2 c = elim c.if-short.branch [
  | then-short w ↦
      limits-judged c.args.r
      (sym w.if-short.true ∙ c.short.ensures ∙ ap short_of c.left_bottom-p.ensures)
      (sym c.if-short-2.true ∙ w.value-is ∙ w.short-then-short.ensures ∙ ap short_of c.right_top-q.ensures)
      (c.below.ensures ∙ ap₂ below_of c.left_bottom-p.ensures c.right_top-q.ensures)
  | else-short w ↦ cc
]

pub returns-else-short-2 : goal.returns-else-short-2
returns-else-short-2 c = c.if-short-2.false ∙ elim c.if-short.branch [
  | then-short w ↦
      limits-judged c.args.r
      (sym w.if-short.true ∙ c.short.ensures ∙ ap short_of c.left_bottom-p.ensures)
      (sym c.if-short-2.false ∙ w.value-is ∙ w.short-then-short.ensures ∙ ap short_of c.right_top-q.ensures)
      refl
  | else-short w ↦ limits-judged c.args.r (sym w.if-short.false ∙ c.short.ensures ∙ ap short_of c.left_bottom-p.ensures) refl refl
]
