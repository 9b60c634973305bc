-- The proof of `outline_sound`: by its tests.
use Rattle.std.proofs.Common.{rules, sym, ◌∙◌, arith}
use Rattle.exact.specs.Fit.{signed64}
use Rattle.wellformed.specs.Sound.{outline_sound, five_of}
use Rattle.soundness.proofs.work.outline_sound.Goals as goal
use Rattle.wellformed.specs.RowTests.{between-true, bd-nat}
use Rattle.soundness.proofs.work.outline_sound.Goals.{then-between, else-between}

pub returns-then-sum_below : goal.returns-then-sum_below
unfolding outline_sound
returns-then-sum_below c = elim c.if-between.branch [ then-between w ↦ search (rules, signed64) | else-between w ↦ search (rules, signed64) ]

pub returns-else-sum_below : goal.returns-else-sum_below
unfolding outline_sound
returns-else-sum_below c = elim c.if-between.branch [ then-between w ↦ search (rules, signed64) | else-between w ↦ search (rules, signed64) ]

pub sum_below-requires : goal.sum_below-requires
sum_below-requires c =
    let b = between-true (five_of 0 0 0 0 3) c.args.r (five_of 112 112 0 0 3) (sym c.between.ensures ∙ c.if-between.true) in
    (bd-nat c.args.r.a b.low.a b.high.a (omega arith), bd-nat c.args.r.b b.low.b b.high.b (omega arith))
