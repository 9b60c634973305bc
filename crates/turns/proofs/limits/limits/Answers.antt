-- The proof of `limits`: with the window and without it.
use mathlib.Core.Path.{refl, ap, ◌∙◌}
use Rattle.turns.specs.Limits.{intersection_of, limits_of}
use Rattle.turns.proofs.limits.limits.Goals as goal

pub returns-then-windowed : goal.returns-then-windowed
unfolding limits_of
returns-then-windowed c =
    rw c.if-windowed.true (c.intersection.ensures ∙ ap (intersection_of c.args.hard) c.turned_box.ensures)

pub returns : goal.returns
unfolding limits_of
returns c = rw c.if-windowed.false refl
