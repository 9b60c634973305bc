-- The sum fits: a magnitude below 2^32, times at most 10,000, and one more at most.
use Rattle.std.proofs.Common.{◌≤◌, ◌<◌, ◌^◌, arith}
use Rattle.exact.proofs.Rules.{rules}
use Rattle.numerals.specs.Number.{places, ten_thousandths, nearest_of}
use Rattle.numerals.proofs.NumeralLaws.{no-carry, carry-small}
use Rattle.numerals.proofs.Laws.{scaled-le}
use Rattle.numerals.proofs.number.Number.nearest.Goals as goal

pub overflow_add-result : goal.overflow_add-result
unfolding ten_thousandths
overflow_add-result c =
    let n = c.args.self in
    let m : n.magnitude < 2 ^ 32 = omega arith in
    record { fits = omega (arith, c.carry.ensures, c.ten_thousandths-kept.ensures, scaled-le n.decimals m, carry-small n.negative n.decimals) }

-- nothing past the fourth decimal
pub returns : goal.returns
unfolding nearest_of
returns c =
    let n = c.args.self in
    let few : n.decimals ≤ places = c.if-self-gt-PLACES.false in
    search (rules, ← c.ten_thousandths-kept.ensures, no-carry n.negative n.decimals (omega (arith, few)))
