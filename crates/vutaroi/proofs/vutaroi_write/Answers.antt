-- Nothing where the length has no place; else what `write` says, and its length in the answer.
use borrow.Author.Tests.{eq-eqb, ne_eqb}
use mathlib.Core.Path.{refl, sym, ap, ◌∙◌}
use lib.ListN.{length, set}
use Prim.Native.Nat.{ℕ}
use Rattle.std.specs.Prelude.{Result}
use Rattle.rows.specs.Rows.{over}
use Rattle.redrawn.specs.declared.Refusal.{Refusal}
use Rattle.redrawn.specs.Redrawn.{length_in, number_in}
use Rattle.vutaroi.specs.Calls.{write_call}
use Rattle.vutaroi.proofs.vutaroi_write.Goals as goal

pub returns-then-answer-eq0 : goal.returns-then-answer-eq0
unfolding write_call
returns-then-answer-eq0 c = rw (eq-eqb (length c.args.answer.now) 0 c.if-answer-eq0.true) record { value = refl; out_after = refl; answer_after = refl }

pub returns-in-Ok : goal.returns-in-Ok
unfolding write_call over
returns-in-Ok c =
    let told = sym c.in-Ok.is ∙ c.write.ensures.value in
    rw (ne_eqb (length c.args.answer.now) 0 c.if-answer-eq0.false)
    record { value = ap number_in told; out_after = c.write.ensures.out_after; answer_after = ap (λ (x : Result ℕ Refusal). set c.args.answer.now 0 (length_in x)) told }

pub returns-in-Err : goal.returns-in-Err
unfolding write_call over
returns-in-Err c =
    let told = sym c.in-Err.is ∙ c.write.ensures.value in
    rw (ne_eqb (length c.args.answer.now) 0 c.if-answer-eq0.false)
    record { value = c.number.ensures ∙ ap number_in told; out_after = c.write.ensures.out_after; answer_after = ap (λ (x : Result ℕ Refusal). set c.args.answer.now 0 (length_in x)) told }
