-- The proof of `good_corners`: each corner is judged, and then both together.
use Rattle.std.proofs.Common.{refl, sym, ◌∙◌}
use Rattle.settings.specs.Judging.{corners-judged}
use Rattle.settings.proofs.good_corners.Goals as goal
use Rattle.settings.proofs.good_corners.Goals.{then-short, else-short}

pub returns-then-short-2 : goal.returns-then-short-2
returns-then-short-2 c = elim c.if-short.branch [
  | then-short w ↦ corners-judged c.args.p c.args.q (sym w.if-short.true ∙ c.short.ensures) (sym c.if-short-2.true ∙ w.value-is ∙ w.short-then-short.ensures) c.apart.ensures
  | else-short w ↦ cc
]

pub returns-else-short-2 : goal.returns-else-short-2
returns-else-short-2 c = c.if-short-2.false ∙ elim c.if-short.branch [
  | then-short w ↦ corners-judged c.args.p c.args.q (sym w.if-short.true ∙ c.short.ensures) (sym c.if-short-2.false ∙ w.value-is ∙ w.short-then-short.ensures) refl
  | else-short w ↦ corners-judged c.args.p c.args.q (sym w.if-short.false ∙ c.short.ensures) refl refl
]
