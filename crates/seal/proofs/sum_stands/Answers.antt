-- The proof of `sum_stands`: the part after the header is the rest of the list.
use borrow.Author.Rules.{rules}
use borrow.Author.Rules.{part_to_end}
use mathlib.Core.Path.{sym, ap, ap₂, ◌∙◌, subst}
use native.Mathlib.Omega.{arith}
use lib.IntN.{ℤ}
use mir.Syntax.{w64}
use mir.Val.{SFits}
use Rattle.exact.specs.Fit.{eq-bits}
use Rattle.exact.specs.Whole.{◌≡?◌}
use Rattle.rows.specs.declared.Row.{Row}
use Rattle.seal.specs.Seal.{checksum_of, sum_stands}
use Rattle.seal.specs.Light.{Light, header-long}
use Rattle.seal.proofs.sum_stands.Goals as goal
use Rattle.seal.proofs.sum_stands.Lts
use Rattle.seal.proofs.sum_stands.Tie
use Rattle.seal.proofs.sum_stands.Reads

abbrev After-checksum : Type 0
After-checksum = Lts.After-checksum Tie.the-claims Reads.Pre Reads.Post

abbrev After-row_at-header : Type 0
After-row_at-header = Lts.After-row_at Tie.the-claims Reads.Pre Reads.Post

pub row_at-header-requires : goal.row_at-header-requires
row_at-header-requires c = omega (arith, header-long c.args.numbers.now c.requires)

pub checksum-requires : goal.checksum-requires
checksum-requires c = subst Light (sym (part_to_end c.args.numbers.now 5)) c.requires

fits-b : (c : After-row_at-header) → SFits w64 c.row_at-header.result.b
fits-b c = search rules

fits_sum : (c : After-checksum) → SFits w64 c.checksum.result
fits_sum c = record { sfits = c.checksum.type_inv }

pub returns : goal.returns
unfolding sum_stands ◌≡?◌
returns c =
    let h = c.before.before.before.before in
    let k = c.before.before in
    eq-bits (fits-b h) (fits_sum k)
    ∙ ap₂ (λ (x y : ℤ). x ≡? y) (ap (λ (r : Row). r.b) h.row_at-header.ensures) (k.checksum.ensures ∙ ap checksum_of (part_to_end c.args.numbers.now 5))
