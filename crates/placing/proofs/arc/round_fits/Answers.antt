-- The proof of `round_fits`: the length of the way is the sum of two sizes.
use mathlib.Core.Path.{◌≡◌, refl, sym, ap, ap₂, ◌∙◌}
use Prim.Native.Nat.{ℕ, ◌+◌, ◌*◌, ◌≤◌}
use native.Mathlib.Omega.{arith}
use lib.IntN.{nat_abs}
use mir.Syntax.{w64}
use Rattle.exact.specs.Fit.{val}
use Rattle.plane.specs.Arc.{ends_fit, round_fits}
use Rattle.plane.specs.Bounds.{most_number}
use Rattle.placing.proofs.arc.round_fits.Goals as goal
use Rattle.placing.proofs.arc.round_fits.Lts
use Rattle.placing.proofs.arc.round_fits.Tie
use Rattle.placing.proofs.arc.round_fits.Reads

abbrev After-ends_fit : Type 0
After-ends_fit = Lts.After-ends_fit Tie.the-claims Reads.Pre Reads.Post

abbrev After-size : Type 0
After-size = Lts.After-size Tie.the-claims Reads.Pre Reads.Post

abbrev After-size-2 : Type 0
After-size-2 = Lts.After-size2 Tie.the-claims Reads.Pre Reads.Post

one : (a : After-size) → let s = a.before.before in a.size.result ≡ nat_abs a.args.w.u
one a = a.size.ensures ∙ ap nat_abs (val w64 a.requires.2.u tt).is

two : (a : After-size-2) → let s = a.before.before.before.before in a.size-2.result ≡ nat_abs a.args.w.v
two a = a.size-2.ensures ∙ ap nat_abs (val w64 a.requires.2.v tt).is

sum : (a : After-size-2) → let b = a.before.before in b.size.result + a.size-2.result ≡ nat_abs a.args.w.u + nat_abs a.args.w.v
sum a = let b = a.before.before in ap₂ (λ (m n : ℕ). m + n) (one b) (two a)

long : (a : After-size-2) → a.size.result + a.size-2.result ≤ 2 * most_number
long a = omega (arith, sum a, a.requires.2.u.bd, a.requires.2.v.bd)

pub overflow_add-distance : goal.overflow_add-distance
overflow_add-distance c = let a = c in record { fits = omega (arith, long a) }

pub ends_fit-requires : goal.ends_fit-requires
ends_fit-requires c = let a = c in (c.requires.0, long a)

pub ends_fit-requires-then-ends_fit : goal.ends_fit-requires-then-ends_fit
ends_fit-requires-then-ends_fit c = let a = c.before.before in (c.requires.1, long a)

-- the first test, as it was found
tested : (e : After-ends_fit) → let s = e.before.before.before.before.before in e.ends_fit.result ≡ ends_fit e.args.cx (nat_abs e.args.w.u + nat_abs e.args.w.v)
tested e =
    let a = e.before in
    e.ends_fit.ensures ∙ ap (ends_fit e.args.cx) (sum a)

pub returns-then-ends_fit : goal.returns-then-ends_fit
unfolding round_fits
returns-then-ends_fit c =
    let a = c.before.before.before in
    let e = c.before.before in
    rw (sym (tested e) ∙ c.if-ends_fit.true) (c.ends_fit-then-ends_fit.ensures ∙ ap (ends_fit c.args.cy) (sum a))

pub returns-else-ends_fit : goal.returns-else-ends_fit
unfolding round_fits
returns-else-ends_fit c =
    let e = c.before in
    c.if-ends_fit.false ∙ rw (sym (tested e) ∙ c.if-ends_fit.false) refl
