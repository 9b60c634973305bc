-- The proof of `put_short`: a number of one, two, three or four digits.
use borrow.Author.Rules.{rules}
use mathlib.Core.Path.{◌≡◌, sym, ap, ◌∙◌}
use mathlib.Core.List.{[], ◌∷◌}
use Prim.Native.Nat.{ℕ, ◌/◌, ◌%◌}
use native.Mathlib.Omega.{arith}
use lib.ListN.{length}
use Rattle.decimals.specs.Decimal.{digit, decimal, two, four}
use Rattle.decimals.proofs.DecimalLaws.{decimal-one, decimal-two, decimal-three, decimal-four}
use Rattle.decimals.specs.Puts.{puts-same, puts_then}
use Rattle.decimals.proofs.put_short.Goals as goal
use Rattle.decimals.proofs.put_short.Lts
use Rattle.decimals.proofs.put_short.Tie
use Rattle.decimals.proofs.put_short.Reads

abbrev Else-n-lt1000 : Type 0
Else-n-lt1000 = Lts.Else3 Tie.the-claims Reads.Pre Reads.Post Tie.handed_clauses

abbrev Then-n-lt100 : Type 0
Then-n-lt100 = Lts.Then2 Tie.the-claims Reads.Pre Reads.Post Tie.handed_clauses

abbrev Then-n-lt1000 : Type 0
Then-n-lt1000 = Lts.Then3 Tie.the-claims Reads.Pre Reads.Post Tie.handed_clauses

pub put_byte-requires : goal.put_byte-requires
put_byte-requires c = omega (arith, ap length (decimal-one _ c.if-n-lt10.true))

pub returns-then-n-lt10 : goal.returns-then-n-lt10
returns-then-n-lt10 c =
    puts-same (ap (λ (b : ℕ). b ∷ []) c.digit_code.ensures ∙ sym (decimal-one _ c.if-n-lt10.true)) c.put_byte.ensures

two_is : (t : Then-n-lt100) → let n = t.args.n in decimal n ≡ two n
two_is t = decimal-two _ t.if-n-lt10.false t.if-n-lt100.true

pub put_two-requires : goal.put_two-requires
put_two-requires c = let t = c.before in record { n_bound = t.if-n-lt100.true; at_in_bounds = omega (arith, ap length (two_is t)) }

pub returns-then-n-lt100 : goal.returns-then-n-lt100
returns-then-n-lt100 c =
    let t = c.before.before.before.before.before in
    puts-same (sym (two_is t)) c.put_two.ensures

three-is : (t : Then-n-lt1000) → let n = t.args.n in decimal n ≡ digit (n / 100) ∷ two (n % 100)
three-is t = decimal-three _ t.if-n-lt100.false t.if-n-lt1000.true

pub put_byte-next-requires : goal.put_byte-next-requires
put_byte-next-requires c = let t = c.before.before in omega (arith, ap length (three-is t))

pub put_two-requires-then-n-lt1000 : goal.put_two-requires-then-n-lt1000
put_two-requires-then-n-lt1000 c = let t = c.before.before.before.before.before.before in record { n_bound = omega arith; at_in_bounds = omega (arith, ap length (three-is t)) }

pub returns-then-n-lt1000 : goal.returns-then-n-lt1000
returns-then-n-lt1000 c =
    let t = c.before.before.before.before.before.before.before.before.before.before in
    puts-same (ap (λ (b : ℕ). b ∷ two (t.args.n % 100)) c.digit_code-then-n-lt1000.ensures ∙ sym (three-is t)) (puts_then c.put_byte-next.ensures c.put_two-then-n-lt1000.ensures)

four_is : (t : Else-n-lt1000) → let n = t.args.n in decimal n ≡ four n
four_is t = decimal-four _ t.if-n-lt1000.false (search rules)

pub put_four-requires : goal.put_four-requires
put_four-requires c = let t = c.before in record { n_bound = search rules; at_in_bounds = omega (arith, ap length (four_is t)) }

pub returns : goal.returns
returns c =
    let t = c.before.before.before.before.before in
    puts-same (sym (four_is t)) c.put_four.ensures
