-- Two letters and two numbers, one after another; a signed number is read back from its bits.
use mathlib.Core.List.{List, ◌∷◌, ◌++◌}
use mathlib.Core.Path.{◌≡◌, ap}
use Prim.Native.Char.{code}
use Prim.Native.Nat.{ℕ, ◌+◌, ◌≤◌}
use native.Mathlib.Omega.{arith}
use lib.IntN.{ℤ}
use lib.ListN.{length, length-append}
use mir.Syntax.{w64}
use Rattle.exact.specs.Fit.{arg, m64}
use Rattle.decimals.specs.Decimal.{whole}
use Rattle.decimals.specs.Puts.{Puts, puts_then, puts-room}
use Rattle.redrawn.specs.Redrawn.{move_text}
use Rattle.redrawing.proofs.put_move.Goals as goal
use Rattle.redrawing.proofs.put_move.Lts
use Rattle.redrawing.proofs.put_move.Tie
use Rattle.redrawing.proofs.put_move.Reads

abbrev After-put_byte-second : Type 0
After-put_byte-second = Lts.After-put_byte2 Tie.the-claims Reads.Pre Reads.Post

abbrev After-put_whole-third : Type 0
After-put_whole-third = Lts.After-put_whole Tie.the-claims Reads.Pre Reads.Post

abbrev Start : Type 0
Start = Lts.Start Tie.the-claims Reads.Pre Reads.Post

-- the numbers as they are
xs : (s : Start) → whole (m64 s.args.x) (code ",") ≡ whole s.args.x (code ",")
xs s = ap (λ (z : ℤ). whole z (code ",")) (arg w64 s.ranges.x).is

ys : (s : Start) → whole (m64 s.args.y) (code ";") ≡ whole s.args.y (code ";")
ys s = ap (λ (z : ℤ). whole z (code ";")) (arg w64 s.ranges.y).is

abbrev numbers : Start → List ℕ
numbers s = whole s.args.x (code ",") ++ whole s.args.y (code ";")

room : (s : Start) → s.args.at + length (code "P" ∷ s.args.letter ∷ numbers s) ≤ length s.args.out.now
unfolding move_text
room s = s.requires

pub put_byte-first-requires : goal.put_byte-first-requires
put_byte-first-requires c = let s = c.before.before in omega (arith, room s)

pub put_byte-second-requires : goal.put_byte-second-requires
put_byte-second-requires c =
    let s = c.before.before.before.before.before.before in
    let r = puts-room c.put_byte-first.ensures (s.args.letter ∷ numbers s) (room s) in
    omega (arith, r)

-- after both letters
after : (b : After-put_byte-second) → let s = b.before.before.before.before.before.before.before in b.put_byte-second.result + length (numbers s) ≤ length b.put_byte-second.new.out
after b =
    let s = b.before.before.before.before.before.before.before in
    puts-room b.put_byte-second.ensures (numbers s) (puts-room b.put_byte-first.ensures (s.args.letter ∷ numbers s) (room s))

pub put_whole-third-requires : goal.put_whole-third-requires
put_whole-third-requires c =
    let s = c.before.before.before.before.before.before.before.before.before.before in
    let b = c.before.before.before in
    rw (xs s) (omega (arith, after b, length-append (whole s.args.x (code ",")) (whole s.args.y (code ";"))))

x-put : (p : After-put_whole-third) → let s = p.before.before.before.before.before.before.before.before.before.before.before in
    Puts (whole s.args.x (code ",")) p.put_byte-second.new.out p.put_whole-third.new.out p.put_byte-second.result p.put_whole-third.result
x-put p = let s = p.before.before.before.before.before.before.before.before.before.before.before in rw (xs s) at p.put_whole-third.ensures

pub put_whole-requires : goal.put_whole-requires
put_whole-requires c =
    let s = c.before.before.before.before.before.before.before.before.before.before.before.before.before.before in
    let b = c.before.before.before.before.before.before.before in
    let p = c.before.before.before in
    rw (ys s) (puts-room (x-put p) (whole s.args.y (code ";")) (after b))

pub returns : goal.returns
unfolding move_text
returns c =
    let s = c.before.before.before.before.before.before.before.before.before.before.before.before.before.before.before.before.before.before in
    let p = c.before.before.before.before.before.before.before in
    puts_then c.put_byte-first.ensures (puts_then c.put_byte-second.ensures (puts_then (x-put p) (rw (ys s) at c.put_whole.ensures)))
