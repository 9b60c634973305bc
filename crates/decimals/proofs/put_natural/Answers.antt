-- One text after another.
use native.Mathlib.Omega.{arith}
use mathlib.Core.List.{[], ◌∷◌}
use lib.ListN.{length-append}
use Rattle.decimals.specs.Decimal.{decimal, natural}
use Rattle.decimals.specs.Puts.{puts_then, puts-room}
use Rattle.decimals.proofs.put_natural.Goals as goal

pub put_short-next-requires : goal.put_short-next-requires
unfolding natural
put_short-next-requires c =
    record { n_bound = c.if-n-lt10000.true; n_in_bounds = omega (arith, c.requires, length-append (decimal c.args.n) (c.args.byte ∷ [])) }

pub put_byte-requires : goal.put_byte-requires
unfolding natural
put_byte-requires c =
    let r = puts-room c.put_short-next.ensures (c.args.byte ∷ []) c.requires in
    omega (arith, r)

pub returns-then-n-lt10000 : goal.returns-then-n-lt10000
unfolding natural
returns-then-n-lt10000 c =
    puts_then c.put_short-next.ensures c.put_byte.ensures

pub put_decimal-next-requires : goal.put_decimal-next-requires
unfolding natural
put_decimal-next-requires c =
    omega (arith, c.requires, length-append (decimal c.args.n) (c.args.byte ∷ []))

pub put_byte-requires-2 : goal.put_byte-requires-2
unfolding natural
put_byte-requires-2 c =
    let r = puts-room c.put_decimal-next.ensures (c.args.byte ∷ []) c.requires in
    omega (arith, r)

pub returns : goal.returns
unfolding natural
returns c =
    puts_then c.put_decimal-next.ensures c.put_byte-2.ensures
