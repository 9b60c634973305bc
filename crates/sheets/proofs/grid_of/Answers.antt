-- Each field by the function that makes it.
use borrow.Author.Rules.{rules}
use mathlib.Core.Path.{◌≡◌, ◌∙◌}
use mir.Syntax.{w64}
use mir.Val.{SFits}
use Rattle.exact.specs.Fit.{arg}
use Rattle.measure.specs.Root.{ice_of}
use Rattle.sheets.specs.Sheet.{grid_on, grid_of}
use Rattle.sheets.proofs.grid_of.Goals as goal
use Rattle.sheets.proofs.grid_of.Lts
use Rattle.sheets.proofs.grid_of.Tie
use Rattle.sheets.proofs.grid_of.Reads

abbrev Start : Type 0
Start = Lts.Start Tie.the-claims Reads.Pre Reads.Post

-- the limits fit
module _ (s : Start) where
  left : SFits w64 s.args.r.left
  left = search rules

  bottom : SFits w64 s.args.r.bottom
  bottom = search rules

  right : SFits w64 s.args.r.right
  right = search rules

  top : SFits w64 s.args.r.top
  top = search rules

pub returns : goal.returns
unfolding grid_of
returns c =
    let s = c.before.before.before.before.before.before.before.before.before in
    let across : c.ice-across.result ≡ ice_of s.args.r.left s.args.r.right s.args.scale =
    c.ice-across.ensures ∙ (λ i. ice_of ((arg w64 (left s)).is i) ((arg w64 (right s)).is i) s.args.scale) in
    let along : c.ice-along.result ≡ ice_of s.args.r.bottom s.args.r.top s.args.scale =
    c.ice-along.ensures ∙ (λ i. ice_of ((arg w64 (bottom s)).is i) ((arg w64 (top s)).is i) s.args.scale) in
    rw (c.cell_of.ensures, c.step_of-step.ensures, c.max.ensures) (λ i. grid_on (across i) (along i) s.args.scale)
