-- The proof of `polygon_sound`: by its tests.
use Rattle.std.proofs.Common.{rules, sym, ◌∙◌, arith}
use Rattle.exact.specs.Fit.{signed64}
use Rattle.wellformed.specs.RowTests.{between-true, bd-nat}
use Rattle.wellformed.specs.Sound.{five_of, polygon_sound}
use Rattle.soundness.proofs.carriage.polygon_sound.Goals as goal

pub returns-then-r-eq0 : goal.returns-then-r-eq0
unfolding polygon_sound
returns-then-r-eq0 c = search (rules, signed64)

pub returns-else-r-eq0 : goal.returns-else-r-eq0
unfolding polygon_sound
returns-else-r-eq0 c = search (rules, signed64)

pub returns-else-between : goal.returns-else-between
unfolding polygon_sound
returns-else-between c = search (rules, signed64)

pub counted-requires : goal.counted-requires
counted-requires c =
    let b = between-true (five_of 0 0 0 0 0) c.args.r (five_of 1 1024 112 1 0) (sym c.between.ensures ∙ c.if-between.true) in
    bd-nat c.args.r.c b.low.c b.high.c (omega arith)
