-- The proof of `meets`: its two tests are the definition's.
use borrow.Author.Rules.{rules}
use mathlib.Core.Path.{◌≡◌, sym, ap, ap₂, ◌∙◌}
use mathlib.Core.Bool.{Bool, ◌&&◌}
use mir.Syntax.{w64}
use mir.Val.{SFits}
use lib.Signed.{le_z, lt_z}
use Rattle.exact.specs.Whole.{◌<?◌, ◌≤?◌}
use Rattle.exact.specs.Fit.{m64, arg, got}
use Rattle.filling.specs.Filling.{lower, upper, meets}
use Rattle.filling.proofs.meets.Goals as goal
use Rattle.filling.proofs.meets.Lts
use Rattle.filling.proofs.meets.Tie
use Rattle.filling.proofs.meets.Reads

abbrev After-lower : Type 0
After-lower = Lts.After-lower Tie.the-claims Reads.Pre Reads.Post

-- the first test, as it came out
first : (l : After-lower) {t : Bool} → le_z (m64 l.lower.result) (m64 l.args.y) ≡ t → le_z (lower l.args.e) l.args.y ≡ t
first l e = let f : SFits w64 l.args.y = search rules in sym (ap₂ le_z (got w64 l.lower.type_inv ∙ l.lower.ensures) (arg w64 f).is) ∙ e

pub returns-then-lower-y : goal.returns-then-lower-y
unfolding meets ◌<?◌ ◌≤?◌
returns-then-lower-y c =
    let l = c.before.before in
    let y = c.args.y in
    let f : SFits w64 y = search rules in
    ap₂ lt_z (arg w64 f).is (got w64 c.upper.type_inv ∙ c.upper.ensures) ∙ sym (ap (λ (b : Bool). b && lt_z y (upper c.args.e)) (first l c.if-lower-y.true))

pub returns-else-lower-y : goal.returns-else-lower-y
unfolding meets ◌<?◌ ◌≤?◌
returns-else-lower-y c =
    let l = c.before in
    c.if-lower-y.false ∙ sym (ap (λ (b : Bool). b && lt_z c.args.y (upper c.args.e)) (first l c.if-lower-y.false))
