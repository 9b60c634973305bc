-- The proof of `past_row`: the row from that end on.
use borrow.Author.Rules.{rules}
use mathlib.Core.Path.{sym, subst, ap₂, ◌∙◌}
use lib.IntN.{ℤ, pos}
use mir.Syntax.{w64}
use mir.Val.{SFits}
use Rattle.exact.specs.Whole.{◌<ᶻ◌}
use Rattle.exact.specs.Fit.{arg, got, ret, sized}
use Rattle.filling.specs.Filling.{row_from, past_row}
use Rattle.filling.specs.Bounds.{upper-size}
use Rattle.filling.proofs.past_row.Goals as goal

pub row_from-requires : goal.row_from-requires
row_from-requires c =
    let f : SFits w64 c.args.s = search rules in
    (sized (ret w64 c.upper.type_inv c.upper.ensures (upper-size c.requires.0)) tt, subst (λ (z : ℤ). pos 0 <ᶻ z) (sym (arg w64 f).is) c.requires.1)

pub returns : goal.returns
unfolding past_row
returns c =
    let f : SFits w64 c.args.s = search rules in
    got w64 c.row_from.type_inv ∙ c.row_from.ensures ∙ ap₂ row_from (arg w64 f).is (got w64 c.upper.type_inv ∙ c.upper.ensures)
