-- The proof of `between`.
use mathlib.Core.Path.{sym, ◌∙◌}
use Rattle.wellformed.specs.Sound.{below_of, between_of}
use Rattle.soundness.proofs.Pairs.{pairs}
use Rattle.soundness.proofs.tests.between.Goals as goal

pub returns-then-first_between : goal.returns-then-first_between
unfolding between_of below_of
returns-then-first_between c =
    rw (pairs _ _ _ _, sym c.first_between.ensures ∙ c.if-first_between.true) c.last_between.ensures

pub returns-else-first_between : goal.returns-else-first_between
unfolding between_of below_of
returns-else-first_between c =
    rw (pairs _ _ _ _, sym c.first_between.ensures ∙ c.if-first_between.false) c.if-first_between.false
