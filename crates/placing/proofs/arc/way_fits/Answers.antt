-- The proof of `way_fits`: by its four tests.
use Rattle.std.proofs.Common.{rules, sym, ◌∙◌}
use Rattle.exact.specs.Fit.{signed64}
use Rattle.plane.specs.Arc.{way_fits}
use Rattle.placing.proofs.arc.way_fits.Goals as goal
use Rattle.placing.proofs.arc.way_fits.Goals.{then-w, else-w, then-w-le-MOST, else-w-le-MOST}

pub returns-then-w-2 : goal.returns-then-w-2
unfolding way_fits
returns-then-w-2 c = elim c.if-w-le-MOST.branch [
  | then-w-le-MOST v ↦ elim c.if-w.branch [ then-w w ↦ search (rules, signed64) | else-w w ↦ search (rules, signed64) ]
  | else-w-le-MOST v ↦ search (rules, signed64)
]

pub returns-else-w-2 : goal.returns-else-w-2
unfolding way_fits
returns-else-w-2 c = elim c.if-w-le-MOST.branch [
  | then-w-le-MOST v ↦ elim c.if-w.branch [ then-w w ↦ search (rules, signed64) | else-w w ↦ search (rules, signed64) ]
  | else-w-le-MOST v ↦ elim c.if-w.branch [
    | then-w w ↦ let e = sym w.value-is ∙ v.if-w-le-MOST.false in rw c.if-w-2.false (search (rules, signed64, e))
    | else-w w ↦ search (rules, signed64)
  ]
]
