-- The proof of `rows_below`: the difference of the two rows, or none.
use borrow.Author.Rules.{rules}
use mathlib.Core.Path.{ap, ◌∙◌}
use Prim.Native.Nat.{◌+◌}
use lib.IntN.{pos, ◌-ℤ◌}
use mir.Syntax.{w64}
use mir.Val.{SFits}
use Rattle.exact.specs.Whole.{lt_z-true, lt_z-false}
use Rattle.exact.specs.Fit.{Num, m64, arg, val, num, put, fit, ret, lt-is, ◌⊖◌}
use Rattle.turns.specs.Turn.{lesser_of}
use Rattle.filling.specs.Filling.{first_row, past_row, met_below}
use Rattle.filling.specs.Bounds.{most_row, first-size, past-size, less-size}
use Rattle.filling.proofs.CountLaws.{natural, no-natural}
use Rattle.filling.proofs.rows_below.Goals as goal
use Rattle.filling.proofs.rows_below.Lts
use Rattle.filling.proofs.rows_below.Tie
use Rattle.filling.proofs.rows_below.Reads

abbrev After-first_row : Type 0
After-first_row = Lts.After-first_row Tie.the-claims Reads.Pre Reads.Post

gap : (c : After-first_row) → let a = c.args in
    Num (m64 c.lesser.result -ℤ m64 c.first_row.result) (lesser_of a.k (past_row a.s a.e) -ℤ first_row a.s a.e) (most_row + most_row)
gap c =
    let s = c.before.before.before in
    let p = c.past_row-past in
    let l = c.lesser in
    let f : SFits w64 s.args.s = search rules in
    let k = val w64 s.requires.2 tt in
    let b = past-size s.args.s s.requires.0 in
    let past = ret w64 p.type_inv (p.ensures ∙ ap (λ z. past_row z s.args.e) (arg w64 f).is) b in
    ret w64 l.type_inv (l.ensures ∙ (λ i. lesser_of (k.is i) (past.is i))) (less-size s.requires.2 b)
    ⊖ ret w64 c.first_row.type_inv (c.first_row.ensures ∙ ap (λ z. first_row z s.args.e) (arg w64 f).is) (first-size s.args.s s.requires.0)

pub overflow_sub-met : goal.overflow_sub-met
overflow_sub-met c = fit w64 (gap c) tt

pub returns-then-met-lt0 : goal.returns-then-met-lt0
unfolding met_below
returns-then-met-lt0 c =
    let a = c.before in
    no-natural {z = lesser_of c.args.k (past_row c.args.s c.args.e) -ℤ first_row c.args.s c.args.e}
    (lt_z-true _ _ (lt-is (put w64 (gap a) tt) (num (pos 0)) c.if-met-lt0.true))

pub returns-else-met-lt0 : goal.returns-else-met-lt0
unfolding met_below
returns-else-met-lt0 c =
    let a = c.before in
    (put w64 (gap a) tt).is ∙ natural (lt_z-false _ _ (lt-is (put w64 (gap a) tt) (num (pos 0)) c.if-met-lt0.false))
