-- The proof of `edges_at`: what is left to write over the array gives the whole.
use mathlib.Core.Path.{◌≡◌, refl, sym, ap, ◌∙◌}
use mathlib.Core.List.{List}
use Prim.Native.Nat.{ℕ, zero, suc, ◌+◌, ◌*◌, ◌-◌, ◌≤◌, ◌<◌}
use native.Mathlib.Omega.{arith}
use lib.IntN.{ℤ}
use lib.ListN.{length, set}
use Rattle.rows.specs.Rows.{row_at, over}
use Rattle.rows.specs.RowLaws.{over-all}
use Rattle.hpgl.specs.declared.Edge.{Edge}
use Rattle.saved.specs.Places.{edges_place}
use Rattle.saved.specs.Saved.{edge_of, edges_from, store_at}
use Rattle.saving.proofs.edges.edges_at.Goals as goal

from-length : (zs : List ℤ) (i n : ℕ) → length (edges_from zs i n) ≡ n
unfolding edges_from
from-length zs i zero = refl
from-length zs i (suc n) = ap suc (from-length zs (i + 5) n)

module _ (zs : List ℤ) (edges : List Edge) (i : ℕ) where
  -- an edge is read, and those after it are left
  one_more : {e : Edge} → i < 112 → e ≡ edge_of (row_at zs (edges_place + i * 5)) →
      over (set edges i e) (i + 1) (edges_from zs (edges_place + (i + 1) * 5) (112 - (i + 1))) ≡ over edges i (edges_from zs (edges_place + i * 5) (112 - i))
  unfolding over edges_from
  one_more h e =
      let at : edges_place + (i + 1) * 5 ≡ edges_place + i * 5 + 5 = omega arith in
      let less : 112 - i ≡ suc (112 - (i + 1)) = omega arith in
      (λ j. over (set edges i (e j)) (i + 1) (edges_from zs (at j) (112 - (i + 1)))) ∙ sym (ap (λ (n : ℕ). over edges i (edges_from zs (edges_place + i * 5) n)) less)

  -- no edge is left
  all : 112 ≤ i → edges ≡ over edges i (edges_from zs (edges_place + i * 5) (112 - i))
  unfolding over edges_from
  all h = let none : 0 ≡ 112 - i = omega arith in ap (λ (n : ℕ). over edges i (edges_from zs (edges_place + i * 5) n)) none

pub loop-i-init : goal.loop-i-init
loop-i-init c =
    let zs = c.args.numbers.now in
    over-all _ (edges_from zs edges_place 112) (sym (from-length zs edges_place 112))

pub loop-i-preserved : goal.loop-i-preserved
loop-i-preserved c =
    let read = c.edge_of.ensures ∙ ap edge_of c.row_at.ensures in
    one_more c.args.numbers.now c.loop-i.e-items c.loop-i.i c.loop-i-test.true read ∙ c.loop-i.invariant

pub returns : goal.returns
unfolding store_at
returns c =
    let l = c.loop-i in
    let e = all c.args.numbers.now l.e-items l.i c.loop-i-test.false ∙ l.invariant in
    λ j. record { edges = e j }
