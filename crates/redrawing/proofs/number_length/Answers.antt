-- A sign where the number is below 0, its digits, and the byte after it.
use mathlib.Core.Path.{◌≡◌, ap, ◌∙◌}
use Prim.Native.Char.{code}
use Prim.Native.Nat.{◌≤◌}
use native.Mathlib.Omega.{arith}
use lib.IntN.{pos, nat_abs}
use lib.ListN.{length}
use mir.Syntax.{w64}
use Rattle.exact.specs.Whole.{lt_z-true, lt_z-false}
use Rattle.exact.specs.Fit.{arg, num, lt-is}
use Rattle.decimals.specs.Decimal.{decimal, sign}
use Rattle.decimals.proofs.DecimalLaws.{decimal-length, sign_below, sign_above}
use Rattle.redrawn.specs.RedrawnLaws.{whole_long}
use Rattle.redrawing.proofs.number_length.Goals as goal
use Rattle.redrawing.proofs.number_length.Lts
use Rattle.redrawing.proofs.number_length.Tie
use Rattle.redrawing.proofs.number_length.Reads

abbrev After-digits : Type 0
After-digits = Lts.After-digits Tie.the-claims Reads.Pre Reads.Post

abbrev After-digits-2 : Type 0
After-digits-2 = Lts.After-digits2 Tie.the-claims Reads.Pre Reads.Post

abbrev After-size : Type 0
After-size = Lts.After-size Tie.the-claims Reads.Pre Reads.Post

abbrev After-size-2 : Type 0
After-size-2 = Lts.After-size2 Tie.the-claims Reads.Pre Reads.Post

abbrev Else-z-lt0 : Type 0
Else-z-lt0 = Lts.Else1 Tie.the-claims Reads.Pre Reads.Post

abbrev Start : Type 0
Start = Lts.Start Tie.the-claims Reads.Pre Reads.Post

abbrev Then-z-lt0 : Type 0
Then-z-lt0 = Lts.Then1 Tie.the-claims Reads.Pre Reads.Post

short : (s : Start) → length (decimal (nat_abs s.args.z)) ≤ 5
short s = decimal-length 4 (nat_abs s.args.z) (omega (arith, s.requires))

sized : (c : After-size) → let s = c.before.before in c.size.result ≡ nat_abs c.args.z
sized c = c.size.ensures ∙ ap nat_abs (arg w64 c.ranges.z).is

counted : (c : After-digits) → c.digits.result ≡ length (decimal (nat_abs c.args.z))
counted c = let a = c.before in c.digits.ensures ∙ ap (λ n. length (decimal n)) (sized a)

sized2 : (c : After-size-2) → let s = c.before.before in c.size-2.result ≡ nat_abs c.args.z
sized2 c = c.size-2.ensures ∙ ap nat_abs (arg w64 c.ranges.z).is

counted2 : (c : After-digits-2) → c.digits-2.result ≡ length (decimal (nat_abs c.args.z))
counted2 c = let a = c.before in c.digits-2.ensures ∙ ap (λ n. length (decimal n)) (sized2 a)

minus : (c : Then-z-lt0) → let s = c.before in length (sign c.args.z) ≡ 1
minus c = ap length (sign_below c.args.z (lt_z-true _ _ (lt-is (arg w64 c.ranges.z) (num (pos 0)) c.if-z-lt0.true)))

none : (c : Else-z-lt0) → let s = c.before in length (sign c.args.z) ≡ 0
none c = ap length (sign_above c.args.z (lt_z-false _ _ (lt-is (arg w64 c.ranges.z) (num (pos 0)) c.if-z-lt0.false)))

pub digits-requires : goal.digits-requires
digits-requires c = let a = c in omega (arith, sized a, c.requires)

pub overflow_add-result : goal.overflow_add-result
overflow_add-result c = let s = c.before.before.before in let d = c in record { fits = omega (arith, counted d, short s) }

pub returns-then-z-lt0 : goal.returns-then-z-lt0
returns-then-z-lt0 c =
    let d = c in
    let t = c.before.before in
    omega (arith, counted d, minus t, whole_long c.args.z (code ","))

pub digits-requires-2 : goal.digits-requires-2
digits-requires-2 c = let a = c in omega (arith, sized2 a, c.requires)

pub overflow_add-result-2 : goal.overflow_add-result-2
overflow_add-result-2 c = let s = c.before.before.before in let d = c in record { fits = omega (arith, counted2 d, short s) }

pub returns : goal.returns
returns c =
    let d = c in
    let e = c.before.before in
    omega (arith, counted2 d, none e, whole_long c.args.z (code ","))
