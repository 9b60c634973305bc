-- SP, PU and PD, one after another; the ends are read back from their bits.
use borrow.Author.Rules.{rules}
use mathlib.Core.List.{List, ◌++◌}
use mathlib.Core.Path.{◌≡◌}
use Prim.Native.Char.{code}
use Prim.Native.Nat.{ℕ, ◌+◌, ◌≤◌}
use native.Mathlib.Omega.{arith}
use lib.ListN.{length, length-append}
use mir.Syntax.{w64}
use Rattle.exact.specs.Fit.{arg, m64}
use Rattle.decimals.specs.Puts.{Puts, puts_then, puts-room}
use Rattle.redrawn.specs.Redrawn.{move_text, line_text, change_text, stroke_text}
use Rattle.redrawing.proofs.put_stroke.Goals as goal
use Rattle.redrawing.proofs.put_stroke.Lts
use Rattle.redrawing.proofs.put_stroke.Tie
use Rattle.redrawing.proofs.put_stroke.Reads

abbrev After-put_move-down : Type 0
After-put_move-down = Lts.After-put_move Tie.the-claims Reads.Pre Reads.Post

abbrev Start : Type 0
Start = Lts.Start Tie.the-claims Reads.Pre Reads.Post

abbrev change : Start → List ℕ
change s = change_text s.args.before s.args.s.pen

abbrev up : Start → List ℕ
up s = move_text (code "U") s.args.s.x0 s.args.s.y0

abbrev down : Start → List ℕ
down s = move_text (code "D") s.args.s.x1 s.args.s.y1

-- the ends as they are
ups : (s : Start) → move_text (code "U") (m64 s.args.s.x0) (m64 s.args.s.y0) ≡ up s
ups s = λ i. move_text (code "U") ((arg w64 {z = s.args.s.x0} (search rules)).is i) ((arg w64 {z = s.args.s.y0} (search rules)).is i)

downs : (s : Start) → move_text (code "D") (m64 s.args.s.x1) (m64 s.args.s.y1) ≡ down s
downs s = λ i. move_text (code "D") ((arg w64 {z = s.args.s.x1} (search rules)).is i) ((arg w64 {z = s.args.s.y1} (search rules)).is i)

room : (s : Start) → s.args.at + length (change s ++ (up s ++ down s)) ≤ length s.args.out.now
unfolding stroke_text line_text
room s = s.requires

pub put_change-up-requires : goal.put_change-up-requires
put_change-up-requires c = let s = c.before.before in omega (arith, room s, length-append (change s) (up s ++ down s))

pub put_move-down-requires : goal.put_move-down-requires
put_move-down-requires c =
    let s = c.before.before.before.before.before.before.before.before.before in
    rw (ups s) (omega (arith, puts-room c.put_change-up.ensures (up s ++ down s) (room s), length-append (up s) (down s)))

up-put : (p : After-put_move-down) → let s = p.before.before.before.before.before.before.before.before.before in
    Puts (up s) p.put_change-up.new.out p.put_move-down.new.out p.put_change-up.result p.put_move-down.result
up-put p = let s = p.before.before.before.before.before.before.before.before.before in rw (ups s) at p.put_move-down.ensures

pub put_move-requires : goal.put_move-requires
put_move-requires c =
    let s = c.before.before.before.before.before.before.before.before.before.before.before.before.before.before.before in
    let p = c.before.before.before.before.before.before in
    rw (downs s) (puts-room (up-put p) (down s) (puts-room c.put_change-up.ensures (up s ++ down s) (room s)))

pub returns : goal.returns
unfolding stroke_text line_text
returns c =
    let s = c.before.before.before.before.before.before.before.before.before.before.before.before.before.before.before.before.before.before in
    let p = c.before.before.before.before.before.before.before.before.before in
    puts_then c.put_change-up.ensures (puts_then (up-put p) (rw (downs s) at c.put_move.ensures))
