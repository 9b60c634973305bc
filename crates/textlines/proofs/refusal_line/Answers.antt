-- One text after another; the numbers have at most 20 bytes each.
use Rattle.std.proofs.Common.{arith}
use Prim.Native.Char.{code}
use Rattle.textlines.specs.Text.{line_end, refusal_text}
use Rattle.decimals.proofs.DecimalLaws.{natural-length}
use Rattle.textlines.specs.TextLaws.{refusal-length}
use Rattle.decimals.specs.Puts.{puts_then}
use Rattle.textlines.proofs.refusal_line.Goals as goal

pub put_natural-second-requires : goal.put_natural-second-requires
put_natural-second-requires c =
    omega (arith, natural-length {n = c.args.number} (code " ") (omega arith), c.put_byte-first.ensures.ends)

pub put_natural-requires : goal.put_natural-requires
put_natural-requires c =
    omega
    (arith, natural-length {n = c.args.number} (code " ") (omega arith), natural-length {n = c.args.byte} line_end (omega arith), c.put_natural-second.ensures.ends)

pub returns : goal.returns
unfolding refusal_text
returns c =
    let p = puts_then (puts_then (puts_then c.put_byte-letter.ensures c.put_byte-first.ensures) c.put_natural-second.ensures) c.put_natural.ensures in
    record { puts = p; upper_bound = omega (arith, p.ends, refusal-length {refused = c.args.number} {byte = c.args.byte} (omega arith) (omega arith)) }
