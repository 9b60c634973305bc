-- The proof of `entry`: what each call returned is what the definition has at its place.
use mathlib.Core.Path.{ap, ap₂, ◌∙◌}
use lib.IntN.{pos}
use mir.Syntax.{w64}
use Rattle.exact.specs.Fit.{got, rd, sized}
use Rattle.clip.specs.Clip.{larger, entry}
use Rattle.clip.specs.Sizes.{extent-num, axis-entry-num}
use Rattle.clipping.proofs.entry.Goals as goal
use Rattle.clipping.proofs.entry.Lts
use Rattle.clipping.proofs.entry.Tie
use Rattle.clipping.proofs.entry.Reads

abbrev After-axis_entry-x : Type 0
After-axis_entry-x = Lts.After-axis_entry Tie.the-claims Reads.Pre Reads.Post

abbrev After-axis_entry-y : Type 0
After-axis_entry-y = Lts.After-axis_entry2 Tie.the-claims Reads.Pre Reads.Post

abbrev After-extent : Type 0
After-extent = Lts.After-extent Tie.the-claims Reads.Pre Reads.Post

abbrev After-extent-2 : Type 0
After-extent-2 = Lts.After-extent2 Tie.the-claims Reads.Pre Reads.Post

abbrev After-larger : Type 0
After-larger = Lts.After-larger Tie.the-claims Reads.Pre Reads.Post

abbrev Start : Type 0
Start = Lts.Start Tie.the-claims Reads.Pre Reads.Post

pub axis_entry-x-requires : goal.axis_entry-x-requires
axis_entry-x-requires c =
    let r = c.requires.0 in
    let a = c.requires.1 in
    let b = c.requires.2 in
    (rd w64 r.left, rd w64 r.right, rd w64 a.x, rd w64 b.x, sized (extent-num a.y b.y c.extent.type_inv c.extent.ensures) tt)

pub axis_entry-y-requires : goal.axis_entry-y-requires
axis_entry-y-requires c =
    let r = c.requires.0 in
    let a = c.requires.1 in
    let b = c.requires.2 in
    (rd w64 r.bottom, rd w64 r.top, rd w64 a.y, rd w64 b.y, sized (extent-num a.x b.x c.extent-2.type_inv c.extent-2.ensures) tt)

-- two fields are read before a call of `extent`, and four before one of `axis_entry`
pub returns : goal.returns
unfolding entry
returns c =
    let l : After-larger = c.before in
    let y : After-axis_entry-y = l.before in
    let f : After-extent-2 = y.before.before.before.before.before in
    let x : After-axis_entry-x = f.before.before.before in
    let e : After-extent = x.before.before.before.before.before in
    let s : Start = e.before.before.before in
    let r = s.requires.0 in
    let a = s.requires.1 in
    let b = s.requires.2 in
    let ux = extent-num a.x b.x f.extent-2.type_inv f.extent-2.ensures in
    let uy = extent-num a.y b.y e.extent.type_inv e.extent.ensures in
    let x-is = (axis-entry-num r.left r.right a.x b.x uy x.axis_entry-x.type_inv x.axis_entry-x.ensures).is in
    let y-is = (axis-entry-num r.bottom r.top a.y b.y ux y.axis_entry-y.type_inv y.axis_entry-y.ensures).is in
    got w64 c.larger-2.type_inv ∙ c.larger-2.ensures ∙ ap (larger (pos 0)) (got w64 l.larger.type_inv ∙ l.larger.ensures ∙ ap₂ larger x-is y-is)
