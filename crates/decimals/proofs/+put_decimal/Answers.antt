-- The proof of `put_decimal`, which calls itself for what stands before the last four digits of its number.
use mathlib.Core.Path.{sym}
use native.Mathlib.Omega.{arith}
use Rattle.decimals.proofs.DecimalLaws.{decimal-fours, fours-length}
use Rattle.decimals.specs.Puts.{puts-same, puts_then, puts-length}
use Rattle.decimals.proofs.+put_decimal.Goals as goal

pub put_decimal-next-requires : goal.put_decimal-next-requires
put_decimal-next-requires t c = let l = fours-length _ c.if-n-lt10000.false in omega arith

pub put_four-requires : goal.put_four-requires
put_four-requires t c =
    let q = c.put_decimal-next.ensures in
    record {
      n_bound = omega arith;
      at_in_bounds = omega (arith, fours-length _ c.if-n-lt10000.false, puts-length q, q.ends);
    }

pub shape_of-out : goal.shape_of-out
shape_of-out t c = puts-length (puts_then c.put_decimal-next.ensures c.put_four.ensures)

pub returns : goal.returns
returns t c = puts-same (sym (decimal-fours _ c.if-n-lt10000.false)) (puts_then c.put_decimal-next.ensures c.put_four.ensures)
