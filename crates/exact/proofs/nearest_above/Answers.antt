-- The proof of `nearest_above`: the remainder m of the floor q is from 0 to d, so q d is near n, and m and d − m are at most d.
use borrow.Author.Rules.{rules}
use mathlib.Core.Path.{ap₂, ◌∙◌}
use lib.IntN.{ℤ, pos, ◌-ℤ◌, ◌*ℤ◌}
use mir.Syntax.{w64}
use Rattle.exact.specs.Whole.{le_z-true, le_z-false}
use Rattle.exact.specs.Fit.{Num, m64, val, num, put, fit, within, ret, le_is, ◌⊕◌, ◌⊖◌, ◌⊗◌}
use Rattle.exact.specs.Divide.{floor_div}
use Rattle.exact.specs.Steps.{rest-size, lack-size, floor-times-size, floor-size, nearest-up, nearest-down}
use Rattle.exact.proofs.nearest_above.Goals as goal
use Rattle.exact.proofs.nearest_above.Goals.{After-floor_div-q}

abbrev n : (c : After-floor_div-q) → ℤ
n c = c.before.args.n

abbrev d : (c : After-floor_div-q) → ℤ
d c = c.before.args.d

abbrev m : (c : After-floor_div-q) → ℤ
m c = n c -ℤ floor_div (n c) (d c) *ℤ d c

quotient : (c : After-floor_div-q) → Num (m64 c.floor_div-q.result) (floor_div (n c) (d c)) 0x4000_0000_0000_0001
quotient c =
    let p = c.before.requires in
    ret w64 c.floor_div-q.type_inv (c.floor_div-q.ensures ∙ ap₂ floor_div (val w64 p.0 tt).is (val w64 p.1.0 tt).is) (floor-size (n c) (d c) p.0)

times : (c : After-floor_div-q) → Num (m64 c.floor_div-q.result *ℤ m64 (d c)) (floor_div (n c) (d c) *ℤ d c) 0x6000_0000_0000_0000
times c = let p = c.before.requires in within (quotient c ⊗ val w64 p.1.0 tt) (floor-times-size (n c) (d c) p.1.1 p.0 p.1.0)

rest : (c : After-floor_div-q) → Num (m64 (n c) -ℤ m64 (m64 c.floor_div-q.result *ℤ m64 (d c))) (m c) 0x2000_0000_0000_0000
rest c = let p = c.before.requires in within (val w64 p.0 tt ⊖ put w64 (times c) tt) (rest-size (n c) (d c) p.1.1 p.1.0)

lack : (c : After-floor_div-q) →
    Num (m64 (d c) -ℤ m64 (m64 (n c) -ℤ m64 (m64 c.floor_div-q.result *ℤ m64 (d c)))) (d c -ℤ m c) 0x2000_0000_0000_0000
lack c = let p = c.before.requires in within (val w64 p.1.0 tt ⊖ put w64 (rest c) tt) (lack-size (n c) (d c) p.1.1 p.1.0)

pub floor_div-q-requires : goal.floor_div-q-requires
floor_div-q-requires c = search rules

pub overflow_mul-m : goal.overflow_mul-m
overflow_mul-m c = fit w64 (times c) tt

pub overflow_sub-m : goal.overflow_sub-m
overflow_sub-m c = fit w64 (rest c) tt

pub overflow_sub-d : goal.overflow_sub-d
overflow_sub-d c = fit w64 (lack c) tt

pub overflow_add-result : goal.overflow_add-result
overflow_add-result c = fit w64 (quotient c.before ⊕ num (pos 1)) tt

pub returns-then-d-m : goal.returns-then-d-m
returns-then-d-m c =
    let f = c.before in
    (put w64 (quotient f ⊕ num (pos 1)) tt).is
    ∙ nearest-up (n f) (d f) f.before.requires.1.1 (le_z-true (d f -ℤ m f) (m f) (le_is (put w64 (lack f) tt) (put w64 (rest f) tt) c.if-d-m.true))

pub returns-else-d-m : goal.returns-else-d-m
returns-else-d-m c =
    let f = c.before in
    (quotient f).is ∙ nearest-down (n f) (d f) f.before.requires.1.1 (le_z-false (d f -ℤ m f) (m f) (le_is (put w64 (lack f) tt) (put w64 (rest f) tt) c.if-d-m.false))
