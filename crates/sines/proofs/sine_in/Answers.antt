-- The proof of `sine_in`: quarter by quarter, as the definition computes.
use borrow.Author.Rules.{rules}
use mathlib.Core.Path.{◌≡◌, sym, ◌∙◌}
use Prim.Native.Nat.{◌-◌}
use native.Mathlib.Nat.{sub-le}
use lib.IntN.{pos, neg_ℤ-neg_ℤ}
use mir.Syntax.{w64}
use Rattle.exact.specs.Fit.{Bd, ret, got, neg, put, fit}
use Rattle.sines.specs.Table.{sine_at}
use Rattle.sines.specs.Rules.{at_most}
use Rattle.sines.specs.Angle.{sine_in}
use Rattle.sines.proofs.sine_in.Goals as goal
use Rattle.sines.proofs.sine_in.Lts
use Rattle.sines.proofs.sine_in.Tie
use Rattle.sines.proofs.sine_in.Reads

abbrev Start : Type 0
Start = Lts.Start Tie.the-claims Reads.Pre Reads.Post

size : (s : Start) → Bd (pos (sine_at s.args.i)) 100000
size s = record { bd = at_most s.args.i s.requires.2 }

size_back : (s : Start) → Bd (pos (sine_at (900 - s.args.i))) 100000
size_back s = record { bd = at_most (900 - s.args.i) (sub-le 900 s.args.i) }

pub returns-in-0 : goal.returns-in-0
unfolding sine_in
returns-in-0 c = rw c.in-0.is (got w64 c.entry.type_inv ∙ c.entry.ensures)

pub returns-in-1 : goal.returns-in-1
unfolding sine_in
returns-in-1 c = rw c.in-1.is (got w64 c.entry-in-1.type_inv ∙ c.entry-in-1.ensures)

pub overflow_sub-result : goal.overflow_sub-result
overflow_sub-result c = fit w64 (neg (ret w64 c.entry-in-2.type_inv c.entry-in-2.ensures (size search))) tt

pub returns-in-2 : goal.returns-in-2
unfolding sine_in
returns-in-2 c = rw c.in-2.is (put w64 (neg (ret w64 c.entry-in-2.type_inv c.entry-in-2.ensures (size search))) tt).is

pub overflow_sub-result-in-3 : goal.overflow_sub-result-in-3
overflow_sub-result-in-3 c = fit w64 (neg (ret w64 c.entry-in-3.type_inv c.entry-in-3.ensures (size_back search))) tt

pub returns-in-3 : goal.returns-in-3
unfolding sine_in
returns-in-3 c = rw c.in-3.is (put w64 (neg (ret w64 c.entry-in-3.type_inv c.entry-in-3.ensures (size_back search))) tt).is

pub returns-in_default : goal.returns-in_default
unfolding sine_in
returns-in_default c =
    let t : c.args.q ≡ 4 = search rules in
    rw t (got w64 c.entry-in_default.type_inv ∙ c.entry-in_default.ensures ∙ sym (neg_ℤ-neg_ℤ (pos (sine_at c.args.i))))
