-- The product fits: a magnitude below 2^32, times at most 10,000.
use Rattle.std.proofs.Common.{◌<◌, ◌^◌, arith, lit<}
use Rattle.std.proofs.Math.Nat.{lt_of_le_of_lt}
use Rattle.numerals.proofs.Laws.{scaled-le}
use Rattle.numerals.proofs.number.Number.ten_thousandths.Goals as goal

pub overflow_mul-result : goal.overflow_mul-result
overflow_mul-result c =
    let n = c.args.self in
    let m : n.magnitude < 2 ^ 32 = omega arith in
    record { fits = rw (c.from.ensures, c.unit.ensures) (lt_of_le_of_lt (scaled-le n.decimals m) (lit< tt)) }
