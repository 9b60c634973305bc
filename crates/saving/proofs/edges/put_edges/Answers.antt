-- The proof of `put_edges`: what is left to write over the list gives the whole.
use mathlib.Core.Path.{◌≡◌, sym, ap, ◌∙◌}
use mathlib.Core.List.{List}
use Prim.Native.Nat.{ℕ, suc, ◌+◌, ◌*◌, ◌≤◌, ◌<◌}
use native.Mathlib.Numerals.{add-one}
use native.Mathlib.Omega.{arith}
use lib.IntN.{ℤ}
use lib.ListN.{length, get_or, drop, drop_of_length-le}
use lib.Seq.{drop-cons}
use Rattle.rows.specs.Rows.{over, with_row}
use Rattle.rows.specs.RowLaws.{over-row}
use Rattle.hpgl.specs.declared.Edge.{Edge}
use Rattle.saved.specs.Places.{edges_place}
use Rattle.saved.specs.Saved.{edge_row, edges_numbers}
use Rattle.saving.proofs.edges.put_edges.Goals as goal

module _ (es : List Edge) (i : ℕ) (numbers : List ℤ) where
  -- a row is stored, and the edges after it are left
  one_more : {next : List ℤ} (d : Edge) → i < length es → next ≡ with_row (edge_row (get_or es i d)) (edges_place + i * 5) numbers →
      over next (edges_place + (i + 1) * 5) (edges_numbers (drop (i + 1) es)) ≡ over numbers (edges_place + i * 5) (edges_numbers (drop i es))
  unfolding edges_numbers
  one_more d h e =
      let at : edges_place + (i + 1) * 5 ≡ edges_place + i * 5 + 5 = omega arith in
      (λ j. over (e j) (at j) (edges_numbers (drop (add-one i j) es)))
      ∙ sym (over-row (edge_row (get_or es i d)) numbers (edges_place + i * 5) (edges_numbers (drop (suc i) es)))
      ∙ sym (ap (λ (l : List Edge). over numbers (edges_place + i * 5) (edges_numbers l)) (drop-cons es i d h))

  -- no edge is left
  all : {target : List ℤ} → length es ≤ i → over numbers (edges_place + i * 5) (edges_numbers (drop i es)) ≡ target → numbers ≡ target
  unfolding over edges_numbers
  all h e = ap (λ (l : List Edge). over numbers (edges_place + i * 5) (edges_numbers l)) (sym (drop_of_length-le es h)) ∙ e

pub loop-i-preserved : goal.loop-i-preserved
loop-i-preserved c =
    let stored = c.put_row.ensures ∙ ap (λ row. with_row row (edges_place + c.loop-i.i * 5) c.loop-i.numbers) c.edge_row.ensures in
    one_more c.args.s.edges c.loop-i.i c.loop-i.numbers _ (omega (arith, c.requires.0)) stored ∙ c.loop-i.invariant

pub returns : goal.returns
returns c =
    let l = c.loop-i in
    all c.args.s.edges l.i l.numbers (omega (arith, c.requires.0)) l.invariant
