-- The proof of `kept_or_clipped`: of two ends in the box the definition leaves the segment as it is.
use mathlib.Core.Path.{◌≡◌, sym, ◌∙◌}
use mathlib.Core.Bool.{true}
use Rattle.clip.specs.Clip.{inside}
use Rattle.clip.proofs.Unclipped.{unclipped}
use Rattle.clipping.proofs.kept_or_clipped.Goals as goal

pub returns-then-inside-2 : goal.returns-then-inside-2
returns-then-inside-2 c =
    let start : inside c.args.r c.args.a ≡ true = sym c.inside.ensures ∙ c.if-inside.true in
    let end : inside c.args.r c.args.b ≡ true = sym c.inside-then-inside.ensures ∙ c.if-inside-2.true in
    sym (unclipped c.args.r c.args.a c.args.b start end)
