-- The proof of `row_from`: the floor of the mirrored number, mirrored back.
use borrow.Author.Rules.{rules}
use mathlib.Core.Path.{ap₂, ◌∙◌}
use lib.IntN.{pos, neg_ℤ, ◌-ℤ◌}
use mir.Syntax.{w64}
use mir.Val.{SFits}
use Rattle.exact.specs.Fit.{Num, m64, arg, val, put, fit, ret, neg, bd-neg}
use Rattle.exact.specs.Divide.{floor_div}
use Rattle.exact.specs.Steps.{floor-size}
use Rattle.clip.specs.Reach.{reach}
use Rattle.filling.specs.Filling.{row_from}
use Rattle.filling.specs.Bounds.{most_row}
use Rattle.filling.proofs.row_from.Goals as goal
use Rattle.filling.proofs.row_from.Lts
use Rattle.filling.proofs.row_from.Tie
use Rattle.filling.proofs.row_from.Reads

abbrev After-floor_div : Type 0
After-floor_div = Lts.After-floor_div Tie.the-claims Reads.Pre Reads.Post

abbrev Start : Type 0
Start = Lts.Start Tie.the-claims Reads.Pre Reads.Post

mirror : (s : Start) → Num (pos 0 -ℤ m64 s.args.y) (neg_ℤ s.args.y) reach
mirror s = neg (val w64 s.requires.0 tt)

back : (c : After-floor_div) → Num (pos 0 -ℤ m64 c.floor_div.result) (neg_ℤ (floor_div (neg_ℤ c.args.y) c.args.s)) most_row
back c =
    let s = c.before in
    let f : SFits w64 s.args.s = search rules in
    neg (ret w64 c.floor_div.type_inv (c.floor_div.ensures ∙ ap₂ floor_div (put w64 (mirror s) tt).is (arg w64 f).is) (floor-size (neg_ℤ s.args.y) s.args.s (bd-neg s.requires.0)))

pub overflow_sub-y : goal.overflow_sub-y
overflow_sub-y c = fit w64 (mirror c) tt

pub overflow_sub-result : goal.overflow_sub-result
overflow_sub-result c = fit w64 (back c) tt

pub returns : goal.returns
unfolding row_from
returns c = (put w64 (back c) tt).is
