-- What the numbers from i on add up to.
use Rattle.std.proofs.Common.{rules, ◌≡◌, sym, ap, ◌∙◌, ◌+◌, ◌-◌, get_or, arith, refl}
use Rattle.console.specs.Sums.{added}
use Rattle.counting.specs.Laws.{total-one, total-none}
use Rattle.counting.proofs.verdict.total.Goals as goal

pub loop-i-init : goal.loop-i-init
loop-i-init c = (omega arith, search rules, sym (total-none c.args.list 9 (omega arith)))

pub loop-i-preserved : goal.loop-i-preserved
loop-i-preserved c =
    let p : c.loop-i.i - 1 + 1 ≡ c.loop-i.i = omega arith in
    (omega arith, c.loop-i.invariant.1, c.sum-n.ensures ∙ ap (added (get_or c.args.list (c.loop-i.i - 1) 0)) c.loop-i.invariant.2 ∙ sym (total-one c.args.list (c.loop-i.i - 1) (omega arith) ∙ rw p refl))

pub returns : goal.returns
returns c =
    let z : c.loop-i.i ≡ 0 = omega arith in
    c.loop-i.invariant.2 ∙ rw z refl
