-- The proof of `checksum`: what the rows so far weigh by their columns is the sum from their place on.
use borrow.Author.Rules.{rules}
use mathlib.Core.Path.{◌≡◌, sym, ap, ap₂, ◌∙◌, subst}
use mathlib.Core.List.{List}
use Prim.Native.Nat.{ℕ, ◌+◌, ◌*◌, ◌-◌, ◌≤◌, ◌<◌}
use native.Mathlib.Omega.{arith}
use lib.IntN.{ℤ, pos, ◌+ℤ◌, ◌*ℤ◌}
use lib.ListN.{drop}
use mir.Syntax.{w64}
use Rattle.exact.specs.Fit.{Num, m64, num, put, fit, ret, ◌⊕◌, ◌⊗◌}
use Rattle.seal.specs.Seal.{weighed, checksum_of}
use Rattle.seal.specs.Light.{row_count, most_at, LightRow, weighed-all}
use Rattle.seal.proofs.Weighing.{columns-step}
use Rattle.seal.specs.Columns.{plus_of, total_of, columns_of, columns-none, part_bound, all_bound, most_part, most_all, most_column, part-most, all_most, part-more, all_more, none-light, row-none, light-plus, light-most, weigh-size, total_size}
use Rattle.seal.proofs.checksum.Goals as goal
use Rattle.seal.proofs.checksum.Lts
use Rattle.seal.proofs.checksum.Tie
use Rattle.seal.proofs.checksum.Reads

abbrev After-row_at : Type 0
After-row_at = Lts.After-row_at Tie.the-claims Reads.Pre Reads.Post goal.the-invariant-loop-k goal.the-decreases-loop-k

abbrev After-total : Type 0
After-total = Lts.After-total Tie.the-claims Reads.Pre Reads.Post goal.the-invariant-loop-k goal.the-decreases-loop-k

abbrev After-weigh : Type 0
After-weigh = Lts.After-weigh Tie.the-claims Reads.Pre Reads.Post goal.the-invariant-loop-k goal.the-decreases-loop-k

abbrev At-loop-k : Type 0
At-loop-k = Lts.At-loop Tie.the-claims Reads.Pre Reads.Post goal.the-invariant-loop-k goal.the-decreases-loop-k

abbrev In-loop-k : Type 0
In-loop-k = Lts.In-loop Tie.the-claims Reads.Pre Reads.Post goal.the-invariant-loop-k goal.the-decreases-loop-k

-- what the loop keeps, within bounds that the code asks for
module _ (l : At-loop-k) where
  abbrev zs : List ℤ
  zs = l.args.numbers.now

  abbrev k : ℕ
  k = l.loop-k.k

  part-light : LightRow most_part l.loop-k.part
  part-light = light-most (part-most (row_count - k) (omega arith)) l.loop-k.invariant.1

  all-light : LightRow most_all l.loop-k.all
  all-light = light-most (all_most (row_count - k) (omega arith)) l.loop-k.invariant.2

pub loop-k-init : goal.loop-k-init
loop-k-init c =
    rw (row-none _ c.default-part.ensures, row-none _ c.default-all.ensures)
    (omega arith, none-light _, none-light _, columns-none _ ∙ sym (weighed-all c.args.numbers.now row_count c.requires.long (omega arith)))

pub plus-all-requires : goal.plus-all-requires
plus-all-requires c = (light-most (omega arith) (all-light c.before), light-most (omega arith) (part-light c.before))

pub overflow_mul-k : goal.overflow_mul-k
overflow_mul-k c = let h : c.loop-k.k ≤ row_count = c.loop-k.invariant.0 in search rules

pub row_at-requires : goal.row_at-requires
row_at-requires c = omega (arith, c.requires.long, c.loop-k.invariant.0, c.loop-k-test.true)

-- the row of this turn
module _ (r : After-row_at) where
  abbrev turn : In-loop-k
  turn = r.before.before

  abbrev at : At-loop-k
  at = turn.before

  some : 0 < k at
  some = turn.loop-k-test.true

  row-light : LightRow (most_at (k at - 1)) r.row_at.result
  row-light = subst (LightRow (most_at (k at - 1))) (sym r.row_at.ensures) (at.requires.row (k at - 1) (omega (arith, some, at.loop-k.invariant.0)))

  row-most : most_at (k at - 1) ≤ most_column
  row-most = omega (arith, part-more (k at) some at.loop-k.invariant.0, part-most (row_count - (k at - 1)) (omega arith))

pub plus-part-requires : goal.plus-part-requires
plus-part-requires c = (light-most (omega arith) (part-light (at c)), light-most (row-most c) (row-light c))

pub loop-k-smaller : goal.loop-k-smaller
loop-k-smaller c = omega (arith, some c.before)

pub loop-k-preserved : goal.loop-k-preserved
loop-k-preserved c =
    let r = c.before in
    let p = r.before in
    let l = at r in
    let kept = l.loop-k.invariant in
    let part = l.loop-k.part in
    let all = l.loop-k.all in
    let row = r.row_at.result in (
      omega (arith, kept.0),
      subst (λ (n : ℕ). LightRow n c.plus-part.result) (sym (part-more (k l) (some r) kept.0)) (subst (LightRow (part_bound (row_count - k l) + most_at (k l - 1))) (sym c.plus-part.ensures) (light-plus _ _ kept.1 (row-light r))),
      subst (λ (n : ℕ). LightRow n p.plus-all.result) (sym (all_more (k l) (some r) kept.0)) (subst (LightRow (all_bound (row_count - k l) + part_bound (row_count - k l))) (sym p.plus-all.ensures) (light-plus _ _ kept.2 kept.1)),
      ap₂ (columns_of (pos ((k l - 1) * 5))) (c.plus-part.ensures ∙ ap (plus_of part) r.row_at.ensures) p.plus-all.ensures ∙ columns-step (zs l) (k l) part all l.requires.long (some r) kept.0 kept.3,
    )

pub total-requires : goal.total-requires
total-requires c = light-most (omega arith) (all-light c.before)

-- the columns together, and the part
fives : (t : After-total) → Num (pos 5 *ℤ m64 t.total.result) (pos 5 *ℤ total_of t.loop-k.all) (5 * (5 * most_all))
fives t = num (pos 5) ⊗ ret w64 t.total.type_inv t.total.ensures (total_size most_all (all-light t.before.before))

whole : (w : After-weigh) → let l = w.before.before.before in
    Num (m64 (pos 5 *ℤ m64 w.total.result) +ℤ m64 w.weigh.result) (columns_of (pos 0) l.loop-k.part l.loop-k.all) (5 * (5 * most_all) + 15 * most_part)
unfolding columns_of
whole w = put w64 (fives w.before) tt ⊕ ret w64 w.weigh.type_inv w.weigh.ensures (weigh-size most_part (part-light w.before.before.before))

pub overflow_mul-result : goal.overflow_mul-result
overflow_mul-result c = fit w64 (fives c) tt

pub weigh-requires : goal.weigh-requires
weigh-requires c = part-light c.before.before

pub overflow_add-result : goal.overflow_add-result
overflow_add-result c = fit w64 (whole c) tt

pub returns : goal.returns
unfolding checksum_of
returns c =
    let l = c.before.before.before in
    let none : k l ≡ 0 = omega (arith, c.loop-k-test.false) in
    (put w64 (whole c) tt).is ∙ subst (λ (n : ℕ). columns_of (pos (n * 5)) l.loop-k.part l.loop-k.all ≡ weighed (n * 5 + 1) (drop (n * 5) (zs l))) none l.loop-k.invariant.3
