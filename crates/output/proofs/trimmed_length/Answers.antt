-- The bytes after the first n are blanks.
use Rattle.std.proofs.Common.{◌≡◌, ◌+◌, ◌-◌, refl, sym, ◌∙◌, arith}
use Rattle.output.specs.Words.{trimmed, trimmed_to}
use Rattle.output.specs.WordsLaws.{trim-blank, trim-other}
use Rattle.output.proofs.trimmed_length.Goals as goal

pub loop-n-init : goal.loop-n-init
unfolding trimmed
loop-n-init c = refl

pub returns-then-text-n-ne32 : goal.returns-then-text-n-ne32
returns-then-text-n-ne32 c =
    let n = c.loop-n.n in
    let e : n - 1 + 1 ≡ n = omega arith in
    record { value = e ∙ sym (c.loop-n.invariant ∙ trim-other c.args.text.now n (omega arith) c.if-text-n-ne32.true); upper_bound = omega arith }

pub loop-n-preserved : goal.loop-n-preserved
loop-n-preserved c = c.loop-n.invariant ∙ trim-blank c.args.text.now c.loop-n.n (omega arith) c.if-text-n-ne32.false

pub returns : goal.returns
unfolding trimmed_to
returns c =
    let z : c.loop-n.n ≡ 0 = omega arith in
    record { value = sym (c.loop-n.invariant ∙ (λ i. trimmed_to c.args.text.now (z i))); upper_bound = omega arith }
