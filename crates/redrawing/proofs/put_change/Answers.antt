-- Nothing where the pen is the same; else one part of SP after another.
use borrow.Author.Tests.{eq-eqb, ne_eqb}
use mathlib.Core.List.{◌∷◌}
use mathlib.Core.Path.{◌≡◌, refl}
use Prim.Native.Char.{code}
use Prim.Native.Nat.{◌+◌, ◌≤◌}
use native.Mathlib.Omega.{arith}
use lib.ListN.{length}
use Rattle.decimals.specs.Decimal.{natural}
use Rattle.decimals.specs.Puts.{puts-nothing, puts_then, puts-room}
use Rattle.redrawn.specs.Redrawn.{pen_text, change_text}
use Rattle.redrawing.proofs.put_change.Goals as goal
use Rattle.redrawing.proofs.put_change.Lts
use Rattle.redrawing.proofs.put_change.Tie
use Rattle.redrawing.proofs.put_change.Reads

abbrev Else-pen-before : Type 0
Else-pen-before = Lts.Else1 Tie.the-claims Reads.Pre Reads.Post

-- what is written of another pen
other : (c : Else-pen-before) → change_text c.args.before c.args.pen ≡ code "S" ∷ code "P" ∷ natural c.args.pen (code ";")
unfolding change_text pen_text
other c = rw (ne_eqb _ _ c.if-pen-before.false) refl

room : (c : Else-pen-before) → let s = c.before.before in c.args.at + length (code "S" ∷ code "P" ∷ natural c.args.pen (code ";")) ≤ length c.args.out.now
room c = rw (other c) at c.requires

pub returns-then-pen-before : goal.returns-then-pen-before
unfolding change_text
returns-then-pen-before c = rw (eq-eqb _ _ c.if-pen-before.true) (puts-nothing _ (omega arith))

pub put_byte-first-requires : goal.put_byte-first-requires
put_byte-first-requires c = let e = c.before in omega (arith, room e)

pub put_byte-second-requires : goal.put_byte-second-requires
put_byte-second-requires c =
    let e = c.before.before.before.before.before in
    let r = puts-room c.put_byte-first.ensures (code "P" ∷ natural c.args.pen (code ";")) (room e) in
    omega (arith, r)

pub put_natural-requires : goal.put_natural-requires
put_natural-requires c =
    let e = c.before.before.before.before.before.before.before.before.before in
    puts-room c.put_byte-second.ensures (natural c.args.pen (code ";")) (puts-room c.put_byte-first.ensures (code "P" ∷ natural c.args.pen (code ";")) (room e))

pub returns : goal.returns
returns c =
    let e = c.before.before.before.before.before.before.before.before.before.before.before.before.before in
    rw (other e) (puts_then c.put_byte-first.ensures (puts_then c.put_byte-second.ensures c.put_natural.ensures))
