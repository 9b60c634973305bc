-- The proof of `edge_point`: the entry is a number of steps that `place` takes.
use mathlib.Core.Path.{◌∙◌}
use mir.Syntax.{w64}
use Rattle.exact.specs.Fit.{Num, m64, ret, sized}
use Rattle.clip.specs.Clip.{entry, place}
use Rattle.clip.specs.Reach.{most_steps}
use Rattle.clip.specs.Sizes.{entry-size}
use Rattle.clipping.proofs.edge_point.Goals as goal
use Rattle.clipping.proofs.edge_point.Lts
use Rattle.clipping.proofs.edge_point.Tie
use Rattle.clipping.proofs.edge_point.Reads

abbrev After-entry : Type 0
After-entry = Lts.After-entry Tie.the-claims Reads.Pre Reads.Post

steps-num : (c : After-entry) → let s = c.args in Num (m64 c.entry.result) (entry s.r s.outside s.other) most_steps
steps-num c = let p = c.requires in ret w64 c.entry.type_inv c.entry.ensures (entry-size p.0 p.1 p.2)

pub place-requires : goal.place-requires
place-requires c =
    let m = c in
    (c.requires.1, c.requires.2, sized (steps-num m) tt)

pub returns : goal.returns
returns c =
    let m = c.before in
    c.place.ensures ∙ (λ i. place c.args.outside c.args.other ((steps-num m).is i))
