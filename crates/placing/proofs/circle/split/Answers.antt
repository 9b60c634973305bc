-- The proof of `split`: the floor q, and the rest n − q w, which is from 0 to w.
use mathlib.Core.Path.{ap₂, ◌∙◌}
use lib.IntN.{ℤ, ◌-ℤ◌, ◌*ℤ◌}
use mir.Syntax.{w64}
use Rattle.exact.specs.Fit.{Num, m64, val, arg, put, fit, within, ret, ◌⊕◌, ◌⊖◌, ◌⊗◌}
use Rattle.exact.specs.Divide.{floor_div}
use Rattle.exact.specs.Steps.{floor-size, floor-times-size, rest-size}
use Rattle.plane.specs.Circle.{split_of}
use Rattle.placing.proofs.circle.split.Goals as goal
use Rattle.placing.proofs.circle.split.Lts
use Rattle.placing.proofs.circle.split.Tie
use Rattle.placing.proofs.circle.split.Reads

abbrev After-floor_div-q : Type 0
After-floor_div-q = Lts.After-floor_div Tie.the-claims Reads.Pre Reads.Post

abbrev n : After-floor_div-q → ℤ
n c = c.args.n

abbrev w : After-floor_div-q → ℤ
w c = c.args.w

quotient : (c : After-floor_div-q) → Num (m64 c.floor_div-q.result) (floor_div (n c) (w c)) 2000000000000001
quotient c =
    let p = c.requires in
    ret w64 c.floor_div-q.type_inv (c.floor_div-q.ensures ∙ ap₂ floor_div (val w64 p.1 tt).is (val w64 p.2 tt).is) (floor-size (n c) (w c) p.1)

times : (c : After-floor_div-q) → Num (m64 c.floor_div-q.result *ℤ m64 (w c)) (floor_div (n c) (w c) *ℤ w c) 2000000655360000
times c = let p = c.requires in within (quotient c ⊗ val w64 p.2 tt) (floor-times-size (n c) (w c) p.3 p.1 p.2)

rest : (c : After-floor_div-q) → Num (m64 (n c) -ℤ m64 (m64 c.floor_div-q.result *ℤ m64 (w c))) (n c -ℤ floor_div (n c) (w c) *ℤ w c) 655360000
rest c = let p = c.requires in within (val w64 p.1 tt ⊖ put w64 (times c) tt) (rest-size (n c) (w c) p.3 p.2)

pub overflow_add-result : goal.overflow_add-result
overflow_add-result c = fit w64 (val w64 c.requires.0 tt ⊕ quotient c) tt

pub overflow_mul-result : goal.overflow_mul-result
overflow_mul-result c = fit w64 (times c) tt

pub overflow_sub-result : goal.overflow_sub-result
overflow_sub-result c = fit w64 (rest c) tt

pub returns : goal.returns
unfolding split_of
returns c =
    let s = c.before in
    let eb = (put w64 (val w64 s.requires.0 tt ⊕ quotient c) tt).is in
    let ep = (put w64 (rest c) tt).is in
    let ed = (arg w64 s.ranges.d).is in
    let ew = (val w64 s.requires.2 tt).is in
    λ i. record { base = eb i; part = ep i; span = ed i; width = ew i }
