-- The proof of `seal`: the part after the header is the rest of the list.
use borrow.Author.Rules.{part_to_end}
use mathlib.Core.Path.{◌≡◌, sym, ap, ◌∙◌, subst}
use native.Mathlib.Omega.{arith}
use lib.IntN.{pos}
use lib.ListN.{drop}
use mir.Syntax.{w64}
use Rattle.exact.specs.Fit.{m64, got}
use Rattle.rows.specs.Rows.{row, with_row}
use Rattle.seal.specs.Seal.{version, checksum_of, header_of}
use Rattle.seal.proofs.SealLaws.{with-header}
use Rattle.seal.specs.Columns.{row-none}
use Rattle.seal.specs.Light.{Light, header-long}
use Rattle.seal.proofs.seal.Goals as goal

pub checksum-sum-requires : goal.checksum-sum-requires
checksum-sum-requires c = subst Light (sym (part_to_end c.args.numbers.now 5)) c.requires

pub put_row-requires : goal.put_row-requires
put_row-requires c = omega (arith, header-long c.args.numbers.now c.requires)

pub returns : goal.returns
unfolding header_of
returns c =
    -- the sum, as it is read back from its local
    let sum : m64 c.checksum-sum.result ≡ checksum_of (drop 5 c.args.numbers.now) =
    got w64 c.checksum-sum.type_inv ∙ c.checksum-sum.ensures ∙ ap checksum_of (part_to_end c.args.numbers.now 5) in
    let zs = c.args.numbers.now in
    let rest = row-none c.default.result c.default.ensures in
    c.put_row.ensures ∙ (λ i. with_row (row (pos version) (sum i) (m64 (rest i).c) (m64 (rest i).d) (m64 (rest i).e)) 0 zs) ∙ with-header zs (omega (arith, header-long zs c.requires))
