-- Four numbers, each read back from its bits, and PU and PD; with another pen SP too.
use borrow.Author.Rules.{rules}
use mathlib.Core.Path.{◌≡◌, ap, ◌∙◌}
use native.Mathlib.Omega.{arith}
use mir.Syntax.{w64}
use Rattle.exact.specs.Fit.{arg}
use Rattle.redrawn.specs.RedrawnLaws.{Writable, writable-is}
use Rattle.redrawing.specs.RedrawingLaws.{bytes_of, end-small, ends-short, same-pen-long, other-pen-long}
use Rattle.redrawing.proofs.stroke_length.Goals as goal
use Rattle.redrawing.proofs.stroke_length.Lts
use Rattle.redrawing.proofs.stroke_length.Tie
use Rattle.redrawing.proofs.stroke_length.Reads

abbrev After-number_length : Type 0
After-number_length = Lts.After-number_length Tie.the-claims Reads.Pre Reads.Post

abbrev After-number_length-2 : Type 0
After-number_length-2 = Lts.After-number_length2 Tie.the-claims Reads.Pre Reads.Post

abbrev After-number_length-3 : Type 0
After-number_length-3 = Lts.After-number_length3 Tie.the-claims Reads.Pre Reads.Post

abbrev After-number_length-4 : Type 0
After-number_length-4 = Lts.After-number_length4 Tie.the-claims Reads.Pre Reads.Post

abbrev Start : Type 0
Start = Lts.Start Tie.the-claims Reads.Pre Reads.Post

ok : (s : Start) → Writable s.args.s
ok s = writable-is s.args.s s.requires

x0-long : (c : After-number_length) → let s = c.before.before in c.number_length.result ≡ bytes_of c.args.s.x0
x0-long c = c.number_length.ensures ∙ ap bytes_of (arg w64 {z = c.args.s.x0} (search rules)).is

y0-long : (c : After-number_length-2) → let s = c.before.before.before.before in c.number_length-2.result ≡ bytes_of c.args.s.y0
y0-long c = c.number_length-2.ensures ∙ ap bytes_of (arg w64 {z = c.args.s.y0} (search rules)).is

x1-long : (c : After-number_length-3) → let s = c.before.before.before.before.before.before in c.number_length-3.result ≡ bytes_of c.args.s.x1
x1-long c = c.number_length-3.ensures ∙ ap bytes_of (arg w64 {z = c.args.s.x1} (search rules)).is

y1-long : (c : After-number_length-4) → let s = c.before.before.before.before.before.before.before.before in c.number_length-4.result ≡ bytes_of c.args.s.y1
y1-long c = c.number_length-4.ensures ∙ ap bytes_of (arg w64 {z = c.args.s.y1} (search rules)).is

pub number_length-requires : goal.number_length-requires
number_length-requires c = let s = c.before.before in rw (arg w64 {z = s.args.s.x0} (search rules)).is (end-small s.args.s.x0 (ok s).x0)

pub number_length-requires-2 : goal.number_length-requires-2
number_length-requires-2 c = let s = c.before.before.before.before in rw (arg w64 {z = s.args.s.y0} (search rules)).is (end-small s.args.s.y0 (ok s).y0)

pub overflow_add-start : goal.overflow_add-start
overflow_add-start c = let s = c.before.before.before.before.before in record { fits = omega (arith, x0-long search, y0-long search, ends-short s.args.s (ok s)) }

pub number_length-requires-3 : goal.number_length-requires-3
number_length-requires-3 c = let s = c.before.before.before.before.before.before in rw (arg w64 {z = s.args.s.x1} (search rules)).is (end-small s.args.s.x1 (ok s).x1)

pub number_length-requires-4 : goal.number_length-requires-4
number_length-requires-4 c = let s = c.before.before.before.before.before.before.before.before in rw (arg w64 {z = s.args.s.y1} (search rules)).is (end-small s.args.s.y1 (ok s).y1)

pub overflow_add-end : goal.overflow_add-end
overflow_add-end c = let s = c.before.before.before.before.before.before.before.before.before in record { fits = omega (arith, x1-long search, y1-long search, ends-short s.args.s (ok s)) }

pub overflow_add-result : goal.overflow_add-result
overflow_add-result c = let s = c.before.before.before.before.before.before.before.before.before.before in record { fits = omega (arith, x0-long search, y0-long search, x1-long search, y1-long search, ends-short s.args.s (ok s)) }

pub overflow_add-result-then-s-before : goal.overflow_add-result-then-s-before
overflow_add-result-then-s-before c = let s = c.before.before.before.before.before.before.before.before.before.before in record { fits = omega (arith, x0-long search, y0-long search, x1-long search, y1-long search, ends-short s.args.s (ok s)) }

pub returns-then-s-before : goal.returns-then-s-before
returns-then-s-before c =
    omega (arith, x0-long search, y0-long search, x1-long search, y1-long search, same-pen-long c.args.before c.args.s c.if-s-before.true)

pub overflow_add-result-2 : goal.overflow_add-result-2
overflow_add-result-2 c = let s = c.before.before.before.before.before.before.before.before.before.before in record { fits = omega (arith, x0-long search, y0-long search, x1-long search, y1-long search, ends-short s.args.s (ok s)) }

pub overflow_add-result-3 : goal.overflow_add-result-3
overflow_add-result-3 c = let s = c.before.before.before.before.before.before.before.before.before.before in record { fits = omega (arith, x0-long search, y0-long search, x1-long search, y1-long search, ends-short s.args.s (ok s)) }

pub returns : goal.returns
returns c =
    let s = c.before.before.before.before.before.before.before.before.before.before in
    omega (arith, x0-long search, y0-long search, x1-long search, y1-long search, other-pen-long s.args.before s.args.s c.if-s-before.false (omega (arith, (ok s).most)))
