-- Two numbers with what stands after them are the pair that `next_of` comes to.
use mathlib.Core.Path.{◌≡◌, sym, ◌∙◌}
use mir.Syntax.{w64}
use mir.Val.{to_z, of_z}
use borrow.Author.Rules.{rules}
use Rattle.numerals.specs.RunLaws.{at_place}
use Rattle.reader.specs.Next.{ReadAhead}
use Rattle.reading.proofs.Pairs.{pair-semicolon, pair-comma}
use Rattle.reading.proofs.pair_ahead.Goals as goal

pub overflow_add-x : goal.overflow_add-x
overflow_add-x c =
    search (rules, (at_place _ _ _ (sym c.is_at.ensures ∙ c.if-not-is_at.false)).0)

pub overflow_add-y : goal.overflow_add-y
overflow_add-y c =
    search (rules, (at_place _ _ _ (sym c.is_at-2.ensures ∙ c.if-is_at.true)).0)

pub returns-then-is_at : goal.returns-then-is_at
unfolding ReadAhead
returns-then-is_at c =
    let across : to_z w64 (of_z w64 c.in_ok-across.across) ≡ c.in_ok-across.across = search rules in
    let up : to_z w64 (of_z w64 c.in_ok-up.up) ≡ c.in_ok-up.up = search rules in
    rw (c.paired.ensures, across, up)
    (pair-semicolon _ _ _ c.requires _ _ c.number_at-x.ensures (sym c.is_at.ensures ∙ c.if-not-is_at.false) c.number_at-y.ensures _ _
    (sym c.finish.ensures ∙ c.in_ok-across.was)
    (sym c.finish-2.ensures ∙ c.in_ok-up.was)
    (sym c.is_at-2.ensures ∙ c.if-is_at.true))

pub overflow_add-y-then-is_at-2 : goal.overflow_add-y-then-is_at-2
overflow_add-y-then-is_at-2 c =
    search (rules, (at_place _ _ _ (sym c.is_at-3.ensures ∙ c.if-is_at-2.true)).0)

pub returns-then-is_at-2 : goal.returns-then-is_at-2
unfolding ReadAhead
returns-then-is_at-2 c =
    let across : to_z w64 (of_z w64 c.in_ok-across.across) ≡ c.in_ok-across.across = search rules in
    let up : to_z w64 (of_z w64 c.in_ok-up.up) ≡ c.in_ok-up.up = search rules in
    rw (c.paired-then-is_at-2.ensures, across, up)
    (pair-comma _ _ _ c.requires _ _ c.number_at-x.ensures (sym c.is_at.ensures ∙ c.if-not-is_at.false) c.number_at-y.ensures _ _
    (sym c.finish.ensures ∙ c.in_ok-across.was)
    (sym c.finish-2.ensures ∙ c.in_ok-up.was)
    (sym c.is_at-3.ensures ∙ c.if-is_at-2.true))
