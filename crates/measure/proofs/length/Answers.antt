-- Two sides of at most 65,535: 400 times the sum of their squares has a root that is sought.
use mathlib.Core.Path.{◌≡◌, ap, ◌∙◌}
use Prim.Native.Nat.{ℕ, ◌+◌, ◌*◌, ◌/◌, ◌≤◌}
use native.Mathlib.Nat.{mul-le-mul}
use native.Mathlib.Omega.{arith}
use lib.IntN.{ℤ}
use mir.Syntax.{w64}
use Rattle.exact.specs.Fit.{arg}
use Rattle.measure.specs.Root.{across, root_of, squares, tenths_of}
use Rattle.measure.specs.RootLaws.{root-of, one-root, side-small}
use Rattle.measure.proofs.length.Goals as goal
use Rattle.measure.proofs.length.Lts
use Rattle.measure.proofs.length.Tie
use Rattle.measure.proofs.length.Reads

abbrev After-side-dx : Type 0
After-side-dx = Lts.After-side Tie.the-claims Reads.Pre Reads.Post

abbrev After-side-dy : Type 0
After-side-dy = Lts.After-side2 Tie.the-claims Reads.Pre Reads.Post

small : (a b : ℤ) → across a b * across a b ≤ 65535 * 65535
small a b = mul-le-mul (side-small a b) (side-small a b)

dx : (c : After-side-dx) → let s = c.before in c.side-dx.result ≡ across s.args.x1 s.args.x0
dx c = let s = c.before in c.side-dx.ensures ∙ (λ i. across ((arg w64 s.ranges.x1).is i) ((arg w64 s.ranges.x0).is i))

dy : (c : After-side-dy) → let s = c.before.before in c.side-dy.result ≡ across s.args.y1 s.args.y0
dy c = let s = c.before.before in c.side-dy.ensures ∙ (λ i. across ((arg w64 s.ranges.y1).is i) ((arg w64 s.ranges.y0).is i))

-- the squares
wide : (c : After-side-dx) → c.side-dx.result * c.side-dx.result ≤ 65535 * 65535
wide c = rw (dx c) (small _ _)

high : (c : After-side-dy) → c.side-dy.result * c.side-dy.result ≤ 65535 * 65535
high c = rw (dy c) (small _ _)

pub overflow_mul-dx : goal.overflow_mul-dx
overflow_mul-dx c = let p = c.before in record { fits = omega (arith, wide p) }

pub overflow_mul-dy : goal.overflow_mul-dy
overflow_mul-dy c = let q = c in record { fits = omega (arith, high q) }

pub overflow_add-dx : goal.overflow_add-dx
overflow_add-dx c =
    let p = c.before in
    let q = c in
    record { fits = omega (arith, wide p, high q) }

pub overflow_mul-dx-2 : goal.overflow_mul-dx-2
overflow_mul-dx-2 c =
    let p = c.before in
    let q = c in
    record { fits = omega (arith, wide p, high q) }

pub root-twice-requires : goal.root-twice-requires
root-twice-requires c =
    let p = c.before in
    let q = c in
    omega (arith, wide p, high q)

pub overflow_add-result : goal.overflow_add-result
overflow_add-result c = record { fits = omega (arith, c.root-twice.ensures.1) }

pub returns : goal.returns
unfolding tenths_of squares
returns c =
    let p = c.before.before in
    let q = c.before in
    ap (λ (r : ℕ). (r + 1) / 2) (one-root _ c.root-twice.ensures.0 (root-of _) ∙ (λ i. root_of (400 * (dx p i * dx p i + dy q i * dy q i))))
