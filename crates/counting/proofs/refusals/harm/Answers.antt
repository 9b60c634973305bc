-- What the groups from i on add up to.
use Rattle.std.proofs.Common.{rules, ◌≡◌, sym, refl, ◌∙◌, ◌+◌, ◌-◌, arith}
use Rattle.console.specs.Sums.{added}
use Rattle.counting.specs.Laws.{harm-one, harm-none}
use Rattle.counting.proofs.refusals.harm.Goals as goal

pub loop-i-init : goal.loop-i-init
loop-i-init c = (omega arith, search rules, sym (harm-none c.args.groups c.args.others 16 (search rules)))

pub loop-i-preserved : goal.loop-i-preserved
loop-i-preserved c =
    let p : c.loop-i.i - 1 + 1 ≡ c.loop-i.i = omega arith in
    (omega arith, c.loop-i.invariant.1, c.sum-n.ensures ∙ (λ j. added (c.harm_of.ensures j) (c.loop-i.invariant.2 j)) ∙ sym (harm-one c.args.groups c.args.others (c.loop-i.i - 1) (omega arith) ∙ rw p refl))

pub returns : goal.returns
returns c =
    let z : c.loop-i.i ≡ 0 = omega arith in
    c.loop-i.invariant.2 ∙ rw z refl
