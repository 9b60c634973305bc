-- A minus that the first digit overwrites where there is no sign; a signed number is read back from its bits.
use native.Mathlib.Omega.{arith}
use mathlib.Core.Path.{◌≡◌, ap, ◌∙◌}
use Prim.Native.Nat.{◌+◌, ◌≤◌}
use lib.IntN.{ℤ, nat_abs}
use lib.ListN.{length, set, length-set}
use lib.Seq.{length-sets}
use mir.Syntax.{w64}
use Rattle.exact.specs.Fit.{arg}
use Rattle.decimals.specs.Decimal.{natural, sign}
use Rattle.decimals.specs.Puts.{Puts, puts-signed}
use Rattle.decimals.proofs.DecimalLaws.{whole_parts, natural-some}
use Rattle.decimals.proofs.put_whole.Goals as goal
use Rattle.decimals.proofs.put_whole.Goals.{After-put_natural, After-sign_length, After-size, Start}

-- room for the sign and for what follows it
room : (s : Start) → let a = s.args in a.at + length (sign a.z) + length (natural (nat_abs a.z) a.byte) ≤ length a.out.now
room s = omega (arith, s.requires, whole_parts s.args.z s.args.byte)

pub bounds-out-at : goal.bounds-out-at
bounds-out-at c = let s = c.before in omega (arith, room s, natural-some (nat_abs s.args.z) s.args.byte)

-- the number as it is, read back from its bits
signs : (c : After-sign_length) → let s = c.before.before in c.sign_length.result ≡ length (sign c.args.z)
signs c = c.sign_length.ensures ∙ ap (λ (z : ℤ). length (sign z)) (arg w64 c.ranges.z).is

sizes : (c : After-size) → let s = c.before.before.before.before in c.size.result ≡ nat_abs c.args.z
sizes c = c.size.ensures ∙ ap nat_abs (arg w64 c.ranges.z).is

pub overflow_add-next : goal.overflow_add-next
overflow_add-next c = let s = c.before.before in record { fits = omega (arith, room s, signs c, s.well_formed.0.0) }

pub put_natural-requires : goal.put_natural-requires
put_natural-requires c =
    let s = c.before.before.before.before in
    let n = c.before.before in
    rw (sizes c) (omega (arith, room s, signs n, length-set s.args.out.now s.args.at 45))

-- the number after its sign
puts : (p : After-put_natural) →
    let a = p.args in
    Puts (natural (nat_abs a.z) a.byte) (set a.out.now a.at 45) p.put_natural.new.out (a.at + length (sign a.z)) p.put_natural.result
puts p =
    let n = p.before.before.before in
    let z = p.before in
    rw (← sizes z, ← signs n) p.put_natural.ensures

pub shape_of-out : goal.shape_of-out
shape_of-out c =
    let p = c.before.before.before in
    let a = c.args in
    ap length (puts p).list
    ∙ length-sets (set a.out.now a.at 45) (a.at + length (sign a.z)) (natural (nat_abs a.z) a.byte)
    ∙ length-set a.out.now a.at 45

pub returns : goal.returns
returns c =
    let p = c.before.before.before in
    puts-signed c.args.z c.args.byte (puts p)
