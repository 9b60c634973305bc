-- A number of at most 18 digits is the same as an i64, and so is its negation.
use Rattle.std.proofs.Common.{ℕ, ◌≤◌, pos, arith, w64, to_z}
use Rattle.exact.specs.Fit.{Num, of-nat, neg, fit, put}
use Rattle.textlines.proofs.word.signed.Goals as goal

small : (n : ℕ) → n ≤ 1000000000000000000 → Num (to_z w64 n) (pos n) 1000000000000000000
small n h = record { is = of-nat w64 (omega arith); size = record { bd = h } }

pub overflow_sub-result : goal.overflow_sub-result
overflow_sub-result c = fit w64 (neg (small c.args.n c.requires)) tt

pub returns-then-minus : goal.returns-then-minus
returns-then-minus c = rw c.if-minus.true (put w64 (neg (small c.args.n c.requires)) tt).is

pub returns-else-minus : goal.returns-else-minus
returns-else-minus c = rw c.if-minus.false (small c.args.n c.requires).is
