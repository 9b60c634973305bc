-- The proof of `rows_met`: the difference of the two rows.
use borrow.Author.Rules.{rules}
use mathlib.Core.Path.{ap, ◌∙◌}
use Prim.Native.Nat.{◌+◌}
use lib.IntN.{◌-ℤ◌}
use mir.Syntax.{w64}
use mir.Val.{SFits}
use Rattle.exact.specs.Fit.{Num, m64, arg, put, fit, ret, ◌⊖◌}
use Rattle.filling.specs.Filling.{first_row, past_row}
use Rattle.filling.specs.Bounds.{most_row, first-size, past-size}
use Rattle.filling.proofs.CountLaws.{rows-natural}
use Rattle.filling.proofs.rows_met.Goals as goal
use Rattle.filling.proofs.rows_met.Lts
use Rattle.filling.proofs.rows_met.Tie
use Rattle.filling.proofs.rows_met.Reads

abbrev After-first_row : Type 0
After-first_row = Lts.After-first_row Tie.the-claims Reads.Pre Reads.Post

gap : (c : After-first_row) → let a = c.args in
    Num (m64 c.past_row.result -ℤ m64 c.first_row.result) (past_row a.s a.e -ℤ first_row a.s a.e) (most_row + most_row)
gap c =
    let s = c.before.before in
    let p = c.past_row in
    let f : SFits w64 s.args.s = search rules in
    ret w64 p.type_inv (p.ensures ∙ ap (λ z. past_row z s.args.e) (arg w64 f).is) (past-size s.args.s s.requires.0)
    ⊖ ret w64 c.first_row.type_inv (c.first_row.ensures ∙ ap (λ z. first_row z s.args.e) (arg w64 f).is) (first-size s.args.s s.requires.0)

pub overflow_sub-result : goal.overflow_sub-result
overflow_sub-result c = fit w64 (gap c) tt

pub returns : goal.returns
returns c = (put w64 (gap c) tt).is ∙ rows-natural c.args.s c.args.e c.requires.1
