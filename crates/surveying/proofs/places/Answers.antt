-- The first i places stand in the list.
use borrow.Author.Rules.{rules}
use mathlib.Core.Path.{◌≡◌, ap, ◌∙◌}
use Prim.Native.Nat.{ℕ, ◌+◌, ◌*◌}
use native.Mathlib.Omega.{arith}
use lib.IntN.{ℤ, pos, nat_abs}
use lib.ListN.{get_or}
use mir.Syntax.{w64}
use mir.Val.{SFits}
use Rattle.exact.specs.Fit.{arg, m64}
use Rattle.console.specs.Sums.{added}
use Rattle.surveying.specs.Laws.{placed-begun, placed-more, placed-all}
use Rattle.surveying.proofs.places.Goals as goal

-- the size of a number of the list
sized : {z : ℤ} {n : ℕ} → SFits w64 z → n ≡ nat_abs (m64 z) → n ≡ nat_abs z
sized f e = e ∙ ap nat_abs (arg w64 f).is

pub loop-i-init : goal.loop-i-init
loop-i-init c = placed-begun c.args.before c.args.numbers.now c.args.count _ (search rules)

pub loop-i-preserved : goal.loop-i-preserved
loop-i-preserved c =
    let z = sized {z = get_or c.args.numbers.now (c.loop-i.i * 5 + 2) (pos 0)} (search rules) c.size.ensures in
    placed-more c.args.before c.args.numbers.now c.loop-i.invariant c.loop-i-test.true c.requires.0 (c.sum.ensures ∙ ap (added c.args.before) z)

pub returns : goal.returns
returns c =
    placed-all c.args.before c.args.numbers.now c.loop-i.invariant (omega arith)
