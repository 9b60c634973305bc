-- The proof of `inside`: by its four tests.
use Rattle.std.proofs.Common.{rules, sym, ◌∙◌}
use Rattle.exact.specs.Fit.{signed64}
use Rattle.clip.specs.Clip.{inside}
use Rattle.clipping.proofs.inside.Goals as goal
use Rattle.clipping.proofs.inside.Goals.{then-r-p, else-r-p, then-p-r, else-p-r}

pub returns-then-r-p-2 : goal.returns-then-r-p-2
unfolding inside
returns-then-r-p-2 c = elim c.if-p-r.branch [
  | then-p-r v ↦ elim c.if-r-p.branch [ then-r-p w ↦ search (rules, signed64) | else-r-p w ↦ search (rules, signed64) ]
  | else-p-r v ↦ search (rules, signed64)
]

pub returns-else-r-p-2 : goal.returns-else-r-p-2
unfolding inside
returns-else-r-p-2 c = elim c.if-p-r.branch [
  | then-p-r v ↦ elim c.if-r-p.branch [ then-r-p w ↦ search (rules, signed64) | else-r-p w ↦ search (rules, signed64) ]
  | else-p-r v ↦ elim c.if-r-p.branch [
    | then-r-p w ↦ let e = sym w.value-is ∙ v.if-p-r.false in rw c.if-r-p-2.false (search (rules, signed64, e))
    | else-r-p w ↦ search (rules, signed64)
  ]
]
