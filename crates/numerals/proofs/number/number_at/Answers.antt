-- The ways of `number_at`, in its order.
use mathlib.Core.Path.{sym, ap, ◌∙◌}
use borrow.Author.Rules.{rules}
use Rattle.numerals.specs.declared.number.Number.{Number}
use Rattle.numerals.specs.Number.{point_of}
use Rattle.numerals.specs.RunLaws.{at_place, number_past, number-whole, number-pointed}
use Rattle.numerals.proofs.number.number_at.Goals as goal

pub returns-then-bytes-at : goal.returns-then-bytes-at
returns-then-bytes-at c =
    rw c.start.ensures (sym (number_past _ _ c.if-bytes-at.true))

pub overflow_add-end : goal.overflow_add-end
overflow_add-end c =
    search (rules, (at_place _ _ _ (sym c.is_at.ensures ∙ c.if-is_at.true)).0)

pub digits_from-requires : goal.digits_from-requires
unfolding point_of
digits_from-requires c = ap (λ (n : Number). n.pointed) c.with_point.ensures

pub returns-then-is_at : goal.returns-then-is_at
returns-then-is_at c =
    c.digits_from.ensures ∙ rw c.with_point.ensures (number-pointed _ _ c.if-bytes-at.false _ c.whole_at-whole.ensures (sym c.is_at.ensures ∙ c.if-is_at.true))

pub returns : goal.returns
returns c =
    number-whole _ _ c.if-bytes-at.false _ c.whole_at-whole.ensures (sym c.is_at.ensures ∙ c.if-is_at.false)
